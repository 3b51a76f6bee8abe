-- Objects that are taken one after the other.
use Rattle.std.proofs.Common.{◌≡◌, ℕ, ◌+◌, ◌<◌, List, [], ◌∷◌, ◌++◌, length, sym, ap, ◌∙◌, add-one, get_or, take}
use Rattle.std.proofs.Math.Seq.{take-suc}
use Rattle.osm_model.specs.Change.{ChangeValue}

pub taken_next : (objects : List ChangeValue) (i : ℕ) (o : ChangeValue) → i < length objects → o ≡ get_or objects i o
    → take (i + 1) objects ≡ take i objects ++ o ∷ []
taken_next objects i o within is = ap (λ (n : ℕ). take n objects) (add-one i)
    ∙ (take-suc objects i o within ∙ ap (λ (x : ChangeValue). take i objects ++ x ∷ []) (sym is))
