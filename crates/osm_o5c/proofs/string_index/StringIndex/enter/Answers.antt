use Rattle.std.proofs.Common.{rules, ◌≡◌, ◌+◌, length}
use Rattle.osm_o5c.specs.Steps.Index.{IsIndexed}
use Rattle.osm_o5c.proofs.IndexLemmas.{pushed, linked}
use Rattle.osm_o5c.proofs.LatestLemmas.{indexed_linked, indexed_forgotten, indexed_kept, indexed_refused}
use Rattle.osm_o5c.proofs.string_index.StringIndex.enter.Goals as goal

pub invariant_of-self-then-not-is_full : goal.invariant_of-self-then-not-is_full
invariant_of-self-then-not-is_full c =
    let number : c.in_ok-number.number ≡ length c.self.inside.chains.strings + 1 = search rules in
    let is : c.set_head.new.self ≡ linked c.self.inside.chains c.args.text.now c.last_in-previous.result c.bucket-bucket.result = search rules in
    rw is (indexed_linked c.self.inside.chains c.self.inside.latest c.args.text.now c.last_in-previous.result
    c.bucket-bucket.result c.bucket-bucket.ensures.value c.bucket-bucket.ensures.bound c.last_in-previous.ensures
    c.self.invariant)

pub invariant_of-self-in-Ok : goal.invariant_of-self-in-Ok
invariant_of-self-in-Ok c =
    let number : c.in_ok-number.number ≡ length c.self.inside.chains.strings + 1 = search rules in
    let count : c.len-count.result ≡ length c.self.inside.chains.strings = search rules in
    let is : c.push.new.self ≡ pushed c.self.inside.chains c.args.text.now c.last_in-previous.result = search rules in
    let left : IsIndexed c.self.inside.chains c.forget_old.new.self =
    indexed_forgotten c.self.inside.chains c.self.inside.latest c.forget_old.new.self c.len-count.result count c.forget_old.ensures
    c.self.invariant in
    rw is (indexed_kept c.self.inside.chains c.forget_old.new.self c.put.new.self c.args.text.now c.last_in-previous.result
    c.in_ok-number.number c.bucket-bucket.result c.bucket-bucket.ensures.value number c.last_in-previous.ensures
    (search rules) left)

-- without memory for the map, the chain leads to the string
pub invariant_of-self-in_default : goal.invariant_of-self-in_default
invariant_of-self-in_default c =
    let number : c.in_ok-number.number ≡ length c.self.inside.chains.strings + 1 = search rules in
    let count : c.len-count.result ≡ length c.self.inside.chains.strings = search rules in
    let is : c.set_head-in_default.new.self ≡ linked c.self.inside.chains c.args.text.now c.last_in-previous.result c.bucket-bucket.result = search rules in
    let left : IsIndexed c.self.inside.chains c.forget_old.new.self =
    indexed_forgotten c.self.inside.chains c.self.inside.latest c.forget_old.new.self c.len-count.result count c.forget_old.ensures
    c.self.invariant in
    let refused : IsIndexed c.self.inside.chains c.put.new.self =
    indexed_refused c.self.inside.chains c.forget_old.new.self c.put.new.self (search rules) left in
    rw is (indexed_linked c.self.inside.chains c.put.new.self c.args.text.now c.last_in-previous.result
    c.bucket-bucket.result c.bucket-bucket.ensures.value c.bucket-bucket.ensures.bound c.last_in-previous.ensures
    refused)
