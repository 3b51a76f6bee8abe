use Rattle.std.proofs.Common.{rules, ◌≡◌, ◌<◌, length, get_or, ap, sym, ◌∙◌, arith}
use Rattle.osm_o5c.specs.Steps.Index.{strings_of, no_slot}
use Rattle.osm_o5c.specs.declared.chains.Slot.{Slot}
use Rattle.osm_o5c.proofs.IndexLemmas.{strings_length, links_at, any_default}
use Rattle.osm_o5c.proofs.chains.Chains.previous.Goals as goal

pub index-requires : goal.index-requires
index-requires c =
    let less : c.args.index < length (strings_of c.self.inside.bytes.items c.self.inside.slots.items) = rw (← c.self.view_is) at c.requires in
    let size = strings_length c.self.inside.bytes.items c.self.inside.slots.items in
    let there : c.args.index < length c.self.inside.slots.items = omega arith in
    search rules

pub returns-clause-link : goal.returns-clause-link
returns-clause-link c =
    let less : c.args.index < length (strings_of c.self.inside.bytes.items c.self.inside.slots.items) = rw (← c.self.view_is) at c.requires in
    let size = strings_length c.self.inside.bytes.items c.self.inside.slots.items in
    let there : c.args.index < length c.self.inside.slots.items = omega arith in
    let is : c.index.result.now ≡ get_or c.self.inside.slots.items c.args.index no_slot =
    any_default c.self.inside.slots.items c.args.index c.index.result.now no_slot there (search rules) in
    rw (← c.self.view_is) (ap (λ (s : Slot). s.previous) is ∙ sym (links_at c.self.inside.slots.items c.args.index there))

pub returns-clause-back : goal.returns-clause-back
returns-clause-back c =
    let less : c.args.index < length (strings_of c.self.inside.bytes.items c.self.inside.slots.items) = rw (← c.self.view_is) at c.requires in
    let size = strings_length c.self.inside.bytes.items c.self.inside.slots.items in
    let there : c.args.index < length c.self.inside.slots.items = omega arith in
    let is : c.index.result.now ≡ get_or c.self.inside.slots.items c.args.index no_slot =
    any_default c.self.inside.slots.items c.args.index c.index.result.now no_slot there (search rules) in
    rw is (c.self.invariant.back c.args.index there)
