-- The line that is looked for among those of a save's objects.
use Rattle.std.specs.Prelude.{◌≡◌, ℕ, Bool, true, false, IsTrue, List, [], ◌∷◌, ◌++◌, drop, Some}
use Rattle.std.specs.List.{AllByRecursion}
use Rattle.std.specs.declared.cmp.Ordering.{Ordering}
use Rattle.std.specs.declared.cmp.Ordering.TheVariants.{Less, Equal, Greater}
use Rattle.osm_model.specs.Change.{ChangeValue}
use Rattle.osm_model.specs.KeyOrder.{key_cmp}
use Rattle.osm_model.specs.declared.kind.Key.{Key}
use Rattle.osm_opl.specs.Written.{line_text}
use Rattle.osm_reading.specs.Pieces.{cut_at}
use Rattle.osm_save.specs.Save.{IsSavable}
use Rattle.osm_save.specs.declared.save.Saved.{Saved}
use Rattle.osm_save.specs.declared.version.Version.{Version}
use Rattle.osm_asking.specs.Lines.{lines_from}
use Rattle.osm_asking.specs.declared.find.Spot.{Spot}
use Rattle.osm_asking.specs.declared.side.Wanted.{Wanted}
use Rattle.osm_asking.specs.declared.side.Wanted.TheVariants.{Counts, Object}

-- where the line of an object with that key lies beside what is wanted: before it, there, or after
-- it; all of them lie before the counts
abbrev pub side_at : Wanted → Key → Ordering
side_at (Object wanted) key = key_cmp key wanted
side_at Counts key = Less

-- the lines of all those objects come before what is wanted
abbrev pub AreBefore : Wanted → List ChangeValue → Type 0
AreBefore wanted objects = AllByRecursion (λ c. side_at wanted c.key ≡ Less) objects

-- the bytes are those of a save text from some line on, before which all comes before what is
-- wanted
pub record StandsAt (wanted : Wanted) (v : Saved) (bytes : List ℕ) : Type 0 where
  pub version : Version
  pub savable : IsSavable version v
  pub before : List ChangeValue
  pub later : List ChangeValue
  pub parts : v.mirror.objects ≡ before ++ later
  pub passed : AreBefore wanted before
  pub lines : bytes ≡ lines_from later v.mirror

-- the first of those objects is the one that is wanted, and that is its line; or it comes after
-- what is wanted, or there are none
abbrev pub IsFirst : Wanted → List ChangeValue → List ℕ → Bool → Type 0
IsFirst wanted [] line true = ⊥
IsFirst wanted (c ∷ cs) line true = (side_at wanted c.key ≡ Equal) × (line ≡ line_text c)
IsFirst wanted [] line false = Unit {0}
IsFirst wanted (c ∷ cs) line false = side_at wanted c.key ≡ Greater

-- if the line that is wanted was found, the file has it at that place, up to an LF
abbrev pub IsWhole : List ℕ → Spot → Type 0
IsWhole file spot = IsTrue spot.is_there → (after : List ℕ)
    × (cut_at 10 (drop spot.place file) ≡ Some (spot.line.items, after))

-- the first line that doesn't come before what is wanted is at that place
pub record IsSpot (wanted : Wanted) (v : Saved) (file : List ℕ) (spot : Spot) : Type 0 where
  pub stands : StandsAt wanted v (drop spot.place file)
  pub first : IsFirst wanted stands.later spot.line.items spot.is_there
