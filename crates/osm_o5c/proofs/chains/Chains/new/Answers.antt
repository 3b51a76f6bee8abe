use Rattle.std.proofs.Common.{rules, ◌≡◌, length}
use Rattle.osm_o5c.proofs.IndexLemmas.{stored_empty}
use Rattle.osm_o5c.proofs.chains.Chains.new.Goals as goal

pub invariant_of-result : goal.invariant_of-result
invariant_of-result c =
    let size : length c.in_ok-from_elem.field-0.items ≡ 32768 = search rules in
    stored_empty c.in_ok-room_for_bytes.field-0.items c.in_ok-room_for_slots.field-0.items c.in_ok-from_elem.field-0.items (search rules) size
