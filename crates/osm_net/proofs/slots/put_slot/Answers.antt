use Rattle.std.proofs.Common.{rules, arith, ◌≡◌, ◌+◌, ◌∙◌, length, refl, sym, w64}
use Rattle.std.proofs.lemmas.Int.{to_z-of_z}
use Rattle.osm_net.proofs.IndexLemmas.{found_as, put_as}
use Rattle.osm_net.proofs.SlotLemmas.{filled_put, found_below, new_entry, no_entry, old_entry, on_err}
use Rattle.osm_net.proofs.slots.put_slot.Goals as goal

pub index_mut-requires : goal.index_mut-requires
index_mut-requires c =
    let found = sym (found_as c.args.index.now c.get.result _ c.args.id (to_z-of_z w64 c.args.id c.ranges.id) c.get.ensures) ∙ c.in-Some.is in
    let below = found_below c.args.index.now c.args.id c.in-Some.slot (length c.args.slots.now.items) c.requires.slots found in
    omega (arith, below)

pub returns-in-Some-clause-put : goal.returns-in-Some-clause-put
returns-in-Some-clause-put c =
    let found = sym (found_as c.args.index.now c.get.result _ c.args.id (to_z-of_z w64 c.args.id c.ranges.id) c.get.ensures) ∙ c.in-Some.is in
    old_entry c.args.index.now c.args.index.now c.args.slots.now.items c.args.id c.in-Some.slot c.args.left c.requires.slots c.limits.ensures found refl

pub returns-in_err-push-clause-refused : goal.returns-in_err-push-clause-refused
returns-in_err-push-clause-refused c =
    let none = sym (found_as c.args.index.now c.get.result _ c.args.id (to_z-of_z w64 c.args.id c.ranges.id) c.get.ensures) ∙ c.in_default.is in
    on_err c.from_residual.result (no_entry c.args.index.now c.args.slots.now.items c.args.id none)

pub returns-in_default-insert-clause-refused : goal.returns-in_default-insert-clause-refused
returns-in_default-insert-clause-refused c =
    let none = sym (found_as c.args.index.now c.get.result _ c.args.id (to_z-of_z w64 c.args.id c.ranges.id) c.get.ensures) ∙ c.in_default.is in
    no_entry c.args.index.now c.args.slots.now.items c.args.id none

pub returns-clause-slots : goal.returns-clause-slots
returns-clause-slots c =
    let none = sym (found_as c.args.index.now c.get.result _ c.args.id (to_z-of_z w64 c.args.id c.ranges.id) c.get.ensures) ∙ c.in_default.is in
    let slot : c.len-slot.result ≡ length c.args.slots.now.items = search rules in
    let inserted = put_as c.insert.new.self c.args.index.now _ c.args.id _ _ (to_z-of_z w64 c.args.id c.ranges.id) slot c.in-Ok.ensures.inserted in
    let more : length c.push.new.self.items ≡ length c.args.slots.now.items + 1 = search rules in
    filled_put c.args.index.now c.insert.new.self c.args.id (length c.args.slots.now.items) (length c.push.new.self.items) c.requires none more inserted

pub returns-clause-put : goal.returns-clause-put
returns-clause-put c =
    let slot : c.len-slot.result ≡ length c.args.slots.now.items = search rules in
    let inserted = put_as c.insert.new.self c.args.index.now _ c.args.id _ _ (to_z-of_z w64 c.args.id c.ranges.id) slot c.in-Ok.ensures.inserted in
    rw (c.in_ok-push.ensures.items)
    (new_entry c.args.index.now c.insert.new.self c.args.slots.now.items c.args.id c.args.left c.requires.slots inserted)
