use Rattle.std.proofs.Common.{take}
use Rattle.std.specs.List.{AllByRecursion}
use Rattle.osm_model.specs.Change.{HasMemberId}
use Rattle.osm_model.proofs.change.have_ids.Given as goal

abbrev pub invariant-loop-member : goal.invariant-loop-member
invariant-loop-member l = AllByRecursion HasMemberId (take l.member-index l.members)
