use Rattle.std.proofs.Common.{ℕ, List}
use Rattle.osm_o5c.specs.Steps.Index.{AreLed}
use Rattle.osm_o5c.proofs.IndexLemmas.{IsAhead}
use Rattle.osm_o5c.proofs.chains.Chains.is_full_without.Given as goal

abbrev pub invariant-loop-count : goal.invariant-loop-count
invariant-loop-count l = (latest : List ℕ → ℕ) → AreLed l.self latest → IsAhead l.self.strings l.text (latest l.text) l.at

abbrev pub decreases-loop-count : goal.decreases-loop-count
decreases-loop-count l = l.at
