use Rattle.std.proofs.Common.{ℕ, List, ◌++◌, length}
use Rattle.osm_data.specs.Steps.OplCounting.{ComesTo}
use Rattle.osm_data.proofs.opl_counting.OplCounterObjectCounter.pass.Given as goal

abbrev pub invariant-lines : goal.invariant-lines
invariant-lines l = (more : List ℕ) (total : ℕ) → ComesTo l.filter l.fn.self (l.bytes ++ more) total → ComesTo l.filter l.self (l.rest ++ more) total

abbrev pub decreases-lines : goal.decreases-lines
decreases-lines l = length l.rest
