use Rattle.std.proofs.Common.{◌≡◌, take}
use Rattle.osm_model.proofs.lists.copy_parts.Given as goal

abbrev pub invariant-loop-part : goal.invariant-loop-part
invariant-loop-part g l = l.copies.items ≡ take l.part-index l.parts
