use Rattle.std.proofs.Common.{ℕ, List, refl, subst}
use Rattle.osm_round.specs.declared.kept.Sizes.{Sizes}
use Rattle.osm_repl.specs.Sizes.{SpellsSizes}
use Rattle.osm_repl.proofs.sizes.check_sizes.Goals as goal

-- no sizes are spelled by a word that isn't read
pub returns-in-None-clause-refused : goal.returns-in-None-clause-refused
returns-in-None-clause-refused c =
    rw c.in-Some.is (refl, subst (λ (b : List ℕ). (sizes : Sizes) → SpellsSizes b sizes → ⊥) c.as_bytes.ensures.value (c.in-None.ensures.none refl))
