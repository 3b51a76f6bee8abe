-- Lines of objects that are taken as they are.
use Rattle.std.specs.Prelude.{◌≡◌, ℕ, List, ◌∷◌, Option, Some, None}
use Rattle.std.specs.declared.cmp.Ordering.TheVariants.{Less}
use Rattle.osm_model.specs.Change.{ChangeValue}
use Rattle.osm_model.specs.Filter.{FilterValue}
use Rattle.osm_model.specs.KeyOrder.{key_cmp}
use Rattle.osm_model.specs.declared.kind.Key.{Key}
use Rattle.osm_save.specs.Reading.{object_at}

-- a key is below a bound, if there is one
abbrev pub IsBelow : Option Key → Key → Type 0
IsBelow None key = Unit {0}
IsBelow (Some bound) key = key_cmp key bound ≡ Less

-- an object of that key came, below the bound, and so the others are ahead; or none came, and the
-- same is ahead. `Comes` holds of the object, and `Stays` if none came
abbrev pub PassesObject : (ChangeValue → Type 0) → Type 0 → Option Key
    → (List ChangeValue → List ℕ) → (List ChangeValue → List ℕ) → Option Key → Type 0
PassesObject Comes Stays bound before after (Some key) =
    (object : ChangeValue) × Comes object × (object.key ≡ key) × IsBelow bound key
    × ((objects : List ChangeValue) → before (object ∷ objects) ≡ after objects)
PassesObject Comes Stays bound before after None =
    Stays × ((objects : List ChangeValue) → before objects ≡ after objects)

-- the line of an object was taken that the filter keeps, with a key above the last one and below
-- the bound; or it wasn't taken
abbrev pub Takes : FilterValue → Option Key → Option Key → List ℕ
    → (List ChangeValue → List ℕ) → (List ChangeValue → List ℕ) → Option Key → Type 0
Takes f last bound line before after taken =
    PassesObject (λ object. object_at f last line ≡ Some object) (Unit {0}) bound before after taken
