use Rattle.std.proofs.Common.{rules, ◌≡◌, ◌<◌, ◌+◌, ◌≤◌, length, get_or, ap, ◌∙◌, sym, arith}
use Rattle.osm_o5c.specs.Steps.Index.{strings_of, string_of, no_slot}
use Rattle.osm_o5c.specs.declared.chains.Slot.{Slot}
use Rattle.osm_o5c.proofs.IndexLemmas.{strings_length, strings_at, any_default}
use Rattle.osm_o5c.proofs.chains.Chains.string.Goals as goal

pub index-slot-requires : goal.index-slot-requires
index-slot-requires c =
    let less : c.args.index < length (strings_of c.self.inside.bytes.items c.self.inside.slots.items) = rw (← c.self.view_is) at c.requires in
    let size = strings_length c.self.inside.bytes.items c.self.inside.slots.items in
    let there : c.args.index < length c.self.inside.slots.items = omega arith in
    search rules

pub piece-requires : goal.piece-requires
piece-requires c =
    let less : c.args.index < length (strings_of c.self.inside.bytes.items c.self.inside.slots.items) = rw (← c.self.view_is) at c.requires in
    let size = strings_length c.self.inside.bytes.items c.self.inside.slots.items in
    let there : c.args.index < length c.self.inside.slots.items = omega arith in
    let is : c.index-slot.result.now ≡ get_or c.self.inside.slots.items c.args.index no_slot =
    any_default c.self.inside.slots.items c.args.index c.index-slot.result.now no_slot there (search rules) in
    let within : c.index-slot.result.now.start + c.index-slot.result.now.size ≤ length c.self.inside.bytes.items =
    rw is (c.self.invariant.within c.args.index there) in
    search rules

pub returns : goal.returns
returns c =
    let less : c.args.index < length (strings_of c.self.inside.bytes.items c.self.inside.slots.items) = rw (← c.self.view_is) at c.requires in
    let size = strings_length c.self.inside.bytes.items c.self.inside.slots.items in
    let there : c.args.index < length c.self.inside.slots.items = omega arith in
    let is : c.index-slot.result.now ≡ get_or c.self.inside.slots.items c.args.index no_slot =
    any_default c.self.inside.slots.items c.args.index c.index-slot.result.now no_slot there (search rules) in
    let got : c.piece.result.now ≡ string_of c.self.inside.bytes.items c.index-slot.result.now = search rules in
    rw (← c.self.view_is) (got ∙ ap (λ (s : Slot). string_of c.self.inside.bytes.items s) is
    ∙ sym (strings_at c.self.inside.bytes.items c.self.inside.slots.items c.args.index there))
