-- An empty list has no file that lies anywhere.
use Rattle.std.proofs.Common.{◌≡◌, List, [], ◌∷◌, length, None, arith}
use Rattle.osm_repl.specs.Twice.{IsFirstOf, IsFirstPair, no_pair, of_none}
use Rattle.osm_repl.specs.declared.twice.Placed.{Placed}

pub none_first : (one : Placed) (others : List Placed) → length others ≡ 0 → IsFirstOf one others None
none_first one [] e = of_none
none_first one (x ∷ xs) e = absurd (omega (arith, e))

pub none_paired : (others written : List Placed) → length written ≡ 0 → IsFirstPair others written None
none_paired others [] e = no_pair
none_paired others (x ∷ xs) e = absurd (omega (arith, e))
