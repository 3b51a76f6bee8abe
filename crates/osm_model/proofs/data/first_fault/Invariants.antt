use Rattle.std.proofs.Common.{take}
use Rattle.osm_model.specs.Data.{IsData}
use Rattle.osm_model.proofs.data.first_fault.Given as goal

-- the changes so far are data
abbrev pub invariant-loop-index : goal.invariant-loop-index
invariant-loop-index l = IsData (take l.index l.fn.changes)
