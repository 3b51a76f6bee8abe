-- What a data file holds: the objects of a mirror, each of them once, by rising keys (our choice of
-- what is accepted; planet files and extracts are written in this order).
use Rattle.std.specs.Prelude.{◌≡◌, ℕ, ◌+◌, ◌<◌, List, [], ◌∷◌, ◌++◌, length, map, Some}
use Rattle.std.specs.List.{AllByRecursion}
use Rattle.std.specs.List.Sorted.{IsStrictlySortedBy}
use Rattle.std.specs.declared.cmp.Ordering.TheVariants.{Less}
use Rattle.osm_model.specs.Change.{ChangeValue, IsChange}
use Rattle.osm_model.specs.Content.{object_after}
use Rattle.osm_model.specs.KeyOrder.{key_cmp}
use Rattle.osm_model.specs.Limits.{max_file}
use Rattle.osm_model.specs.declared.kind.Key.{Key}
use Rattle.osm_model.specs.declared.data.DataError.{DataError}
use Rattle.osm_model.specs.declared.data.DataError.TheVariants.{NotData, TooLarge, WantOfMemory}
use Rattle.osm_model.specs.declared.form.Why.{Why}
use Rattle.osm_model.specs.declared.form.Why.TheVariants.{OutOfOrder, Deleted}

-- an object that isn't deleted
abbrev pub IsLeft : ChangeValue → Type 0
IsLeft c = object_after c ≡ Some c

-- objects within the limits, none of them deleted, their keys rising, so no key twice
pub record IsData (objects : List ChangeValue) : Type 0 where
  pub limits : AllByRecursion IsChange objects
  pub left : AllByRecursion IsLeft objects
  pub rising : IsStrictlySortedBy key_cmp (map (λ c. c.key) objects)

-- the key is above those of the objects
abbrev pub AreBelow : List ChangeValue → Key → Type 0
AreBelow objects k = AllByRecursion (λ c. key_cmp c.key k ≡ Less) objects

-- with the change after them, the objects are still data
abbrev pub IsNext : List ChangeValue → ChangeValue → Type 0
IsNext objects c = IsData (objects ++ c ∷ [])

-- why a change can't follow the objects of a data file: it is a deletion, or if it is none, its key
-- isn't above theirs
abbrev pub NextStops : ChangeValue → Why → Type 0
NextStops c Deleted = IsLeft c → ⊥
NextStops c OutOfOrder = IsLeft c
NextStops c why = ⊥

-- the number, counted from 1, of the first change that can't follow those before it
pub record IsFirstFault (changes : List ChangeValue) (index : ℕ) : Type 0 where
  pub before : List ChangeValue
  pub change : ChangeValue
  pub after : List ChangeValue
  pub parts : changes ≡ before ++ change ∷ after
  pub number : index ≡ length before + 1
  pub right : IsData before
  pub fault : IsNext before change → ⊥

-- why changes aren't written as a data file: they are no data, the first fault being named; if they
-- are, their text is too large; memory comes last
abbrev pub DataStops : (List ChangeValue → List ℕ) → List ChangeValue → DataError → Type 0
DataStops text changes (NotData index) = IsFirstFault changes index
DataStops text changes TooLarge = IsData changes × (max_file < length (text changes))
DataStops text changes WantOfMemory = IsData changes
