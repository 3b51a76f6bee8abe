use Rattle.std.proofs.Common.{take}
use Rattle.std.specs.List.{AllByRecursion}
use Rattle.osm_model.specs.Limits.{IsId}
use Rattle.osm_model.proofs.change.are_ids.Given as goal

abbrev pub invariant-loop-id : goal.invariant-loop-id
invariant-loop-id l = AllByRecursion IsId (take l.id-index l.ids)
