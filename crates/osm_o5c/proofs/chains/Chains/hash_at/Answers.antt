use Rattle.std.proofs.Common.{rules, ◌≡◌, ◌<◌, length, get_or, ap, ◌∙◌, arith}
use Rattle.osm_o5c.specs.Steps.Index.{strings_of, no_slot}
use Rattle.osm_o5c.specs.declared.chains.Slot.{Slot}
use Rattle.osm_o5c.proofs.IndexLemmas.{strings_length, any_default}
use Rattle.osm_o5c.proofs.chains.Chains.hash_at.Goals as goal

pub index-requires : goal.index-requires
index-requires c =
    let less : c.args.index < length (strings_of c.self.inside.bytes.items c.self.inside.slots.items) = rw (← c.self.view_is) at c.requires in
    let size = strings_length c.self.inside.bytes.items c.self.inside.slots.items in
    let there : c.args.index < length c.self.inside.slots.items = omega arith in
    search rules

pub returns : goal.returns
returns c =
    let less : c.args.index < length (strings_of c.self.inside.bytes.items c.self.inside.slots.items) = rw (← c.self.view_is) at c.requires in
    let size = strings_length c.self.inside.bytes.items c.self.inside.slots.items in
    let there : c.args.index < length c.self.inside.slots.items = omega arith in
    let is : c.index.result.now ≡ get_or c.self.inside.slots.items c.args.index no_slot =
    any_default c.self.inside.slots.items c.args.index c.index.result.now no_slot there (search rules) in
    rw (← c.self.view_is) (ap (λ (s : Slot). s.hash) is ∙ c.self.invariant.hash c.args.index there)
