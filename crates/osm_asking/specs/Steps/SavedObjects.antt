-- The objects of a save with net changes laid over them, as they are passed.
use Rattle.std.specs.Prelude.{◌≡◌, ℕ, List, [], ◌∷◌, ◌++◌, Option, Some, None}
use Rattle.std.specs.Prelude.{Bool, true, false}
use Rattle.osm_blocks.specs.Places.{HasFile, Place, left_of}
use Rattle.osm_merged.specs.Ahead.{Ahead, IsGiven, objects_ahead}
use Rattle.osm_model.specs.Change.{ChangeValue}
use Rattle.osm_model.specs.Filter.{FilterValue}
use Rattle.osm_model.specs.declared.kind.Key.{Key}
use Rattle.osm_net.specs.Net.{NetEntry}
use Rattle.osm_opl.specs.Written.{line_text}
use Rattle.osm_store.specs.Frames.{StoreState}
use Rattle.osm_asking.specs.Steps.Summing.{AreSummed}
use Rattle.osm_asking.specs.declared.sums.Sums.{Sums}

-- how far the reading of objects has come
abbrev pub Objects : Type 0
Objects = Ahead NetEntry ChangeValue Key

-- the next object of a known file was given, or there is none
abbrev pub ReadsNext : StoreState → List ℕ → FilterValue → Objects → Objects → Place → Place
    → Option ChangeValue → Type 0
ReadsNext state name f left next now new given = (file : List ℕ) → HasFile state name file
    → IsGiven (left_of new file) (objects_ahead f left (left_of now file))
    (objects_ahead f next (left_of new file)) given

-- the line of the next object was added, or there is none and nothing was added
abbrev pub TakesNext : (Option ChangeValue → Type 0) → List ℕ → List ℕ → Bool → Type 0
TakesNext Reads before after true =
    (x : ChangeValue) × Reads (Some x) × (after ≡ before ++ (line_text x ++ 10 ∷ []))
TakesNext Reads before after false = Reads None × (after ≡ before)

-- these objects of a known file were read up to the new place
abbrev pub ReadsAll : StoreState → List ℕ → FilterValue → Objects → Place → Place
    → List ChangeValue → Type 0
ReadsAll state name f left begun now objects = (file : List ℕ) → HasFile state name file
    → objects_ahead f left (left_of begun file) ≡ Some (objects, left_of now file)

-- the objects that were ahead were read and summed
pub record SumsAhead (state : StoreState) (name : List ℕ) (f : FilterValue) (left : Objects)
    (begun now : Place) (sums : Sums) : Type 0 where
  pub objects : List ChangeValue
  pub read : ReadsAll state name f left begun now objects
  pub summed : AreSummed sums [] objects
