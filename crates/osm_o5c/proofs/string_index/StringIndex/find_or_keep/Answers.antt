use Rattle.std.proofs.Common.{rules, ◌≡◌, ◌+◌, ◌-◌, length, refl, sym}
use Rattle.osm_o5c.specs.Steps.Index.{IsIndexed, IsLeftOut}
use Rattle.osm_o5c.proofs.IndexLemmas.{pushed}
use Rattle.osm_o5c.proofs.LatestLemmas.{IsNext, indexed_forgotten, indexed_refused, indexed_had, indexed_lacked, reference_had, reference_lacked}
use Rattle.osm_o5c.proofs.string_index.StringIndex.find_or_keep.Goals as goal

-- without memory for the map
pub invariant_of-self : goal.invariant_of-self
invariant_of-self c =
    let count : c.len-count.result ≡ length c.self.inside.chains.strings = search rules in
    let left : IsIndexed c.self.inside.chains c.forget_old.new.self =
    indexed_forgotten c.self.inside.chains c.self.inside.latest c.forget_old.new.self c.len-count.result count c.forget_old.ensures
    c.self.invariant in
    indexed_refused c.self.inside.chains c.forget_old.new.self c.keep.new.self (search rules) left

-- the map had a number that names the string
pub invariant_of-self-then-kept-count : goal.invariant_of-self-then-kept-count
invariant_of-self-then-kept-count c =
    let count : c.len-count.result ≡ length c.self.inside.chains.strings = search rules in
    let number : c.in_ok-number.number ≡ length c.self.inside.chains.strings + 1 = search rules in
    let left : IsIndexed c.self.inside.chains c.forget_old.new.self =
    indexed_forgotten c.self.inside.chains c.self.inside.latest c.forget_old.new.self c.len-count.result count c.forget_old.ensures
    c.self.invariant in
    let out : IsLeftOut c.self.inside.chains c.args.text.now = c.is_full_without.ensures (search rules) in
    let next : IsNext c.self.inside.chains c.forget_old.new.self c.args.text.now c.saturating_sub-last.result c.in_ok-number.number c.in-Ok.kept =
    record { indexed = left; below = out _ left.led; next = number; far = search rules; is = search rules } in
    indexed_had c.self.inside.chains c.forget_old.new.self c.keep.new.self c.args.text.now c.saturating_sub-last.result
    c.in_ok-number.number c.in-Ok.kept next (search rules) (search rules)

pub returns-then-kept-count-clause-number : goal.returns-then-kept-count-clause-number
returns-then-kept-count-clause-number c =
    let count : c.len-count.result ≡ length c.self.inside.chains.strings = search rules in
    let number : c.in_ok-number.number ≡ length c.self.inside.chains.strings + 1 = search rules in
    let left : IsIndexed c.self.inside.chains c.forget_old.new.self =
    indexed_forgotten c.self.inside.chains c.self.inside.latest c.forget_old.new.self c.len-count.result count c.forget_old.ensures
    c.self.invariant in
    let out : IsLeftOut c.self.inside.chains c.args.text.now = c.is_full_without.ensures (search rules) in
    let next : IsNext c.self.inside.chains c.forget_old.new.self c.args.text.now c.saturating_sub-last.result c.in_ok-number.number c.in-Ok.kept =
    record { indexed = left; below = out _ left.led; next = number; far = search rules; is = search rules } in
    rw (← c.self.view_is) (sym (reference_had c.self.inside.chains c.forget_old.new.self c.args.text.now c.saturating_sub-last.result
    c.in_ok-number.number c.in-Ok.kept (c.len-count.result - (c.in-Ok.kept - 1)) next (search rules) (rw count refl)))

-- the map had no number that names it
pub invariant_of-self-in-Ok-push : goal.invariant_of-self-in-Ok-push
invariant_of-self-in-Ok-push c =
    let count : c.len-count.result ≡ length c.self.inside.chains.strings = search rules in
    let number : c.in_ok-number.number ≡ length c.self.inside.chains.strings + 1 = search rules in
    let left : IsIndexed c.self.inside.chains c.forget_old.new.self =
    indexed_forgotten c.self.inside.chains c.self.inside.latest c.forget_old.new.self c.len-count.result count c.forget_old.ensures
    c.self.invariant in
    let out : IsLeftOut c.self.inside.chains c.args.text.now = c.is_full_without.ensures (search rules) in
    let next : IsNext c.self.inside.chains c.forget_old.new.self c.args.text.now c.saturating_sub-last.result c.in_ok-number.number c.in-Ok.kept =
    record { indexed = left; below = out _ left.led; next = number; far = search rules; is = search rules } in
    let is : c.push.new.self ≡ pushed c.self.inside.chains c.args.text.now c.last_in-previous.result = search rules in
    rw is (indexed_lacked c.self.inside.chains c.forget_old.new.self c.keep.new.self c.args.text.now c.saturating_sub-last.result
    c.in_ok-number.number c.in-Ok.kept c.last_in-previous.result c.bucket.result next (search rules) c.bucket.ensures.value
    c.last_in-previous.ensures (search rules))

pub returns-then-is_full_without-clause-number : goal.returns-then-is_full_without-clause-number
returns-then-is_full_without-clause-number c =
    let count : c.len-count.result ≡ length c.self.inside.chains.strings = search rules in
    let number : c.in_ok-number.number ≡ length c.self.inside.chains.strings + 1 = search rules in
    let left : IsIndexed c.self.inside.chains c.forget_old.new.self =
    indexed_forgotten c.self.inside.chains c.self.inside.latest c.forget_old.new.self c.len-count.result count c.forget_old.ensures
    c.self.invariant in
    let out : IsLeftOut c.self.inside.chains c.args.text.now = c.is_full_without.ensures (search rules) in
    let next : IsNext c.self.inside.chains c.forget_old.new.self c.args.text.now c.saturating_sub-last.result c.in_ok-number.number c.in-Ok.kept =
    record { indexed = left; below = out _ left.led; next = number; far = search rules; is = search rules } in
    rw (← c.self.view_is) (sym (reference_lacked c.self.inside.chains c.forget_old.new.self c.args.text.now c.saturating_sub-last.result
    c.in_ok-number.number c.in-Ok.kept next (search rules)))
