-- Counting the objects of a data file by the filter's kinds, whatever its keys and their tags.
use Rattle.std.specs.Prelude.{◌≡◌, ℕ, ◌+◌, ◌≤◌, List, filter, length, min, Option, Some, None}
use Rattle.std.specs.Prelude.{if◌then◌else◌}
use Rattle.osm_model.specs.Change.{ChangeValue}
use Rattle.osm_model.specs.Filter.{FilterValue, chooses}
use Rattle.osm_model.specs.declared.kind.Kind.{Kind}
use Rattle.osm_store.specs.Frames.{IsKnown, StoreState}
use Rattle.osm_blocks.specs.Places.{IsHuge}
use Rattle.osm_data.specs.Reading.{Holds, read_calls}
use Rattle.osm_data.specs.declared.fault.DataFault.{DataFault}
use Rattle.osm_data.specs.declared.fault.DataFault.TheVariants.{Device, WantOfMemory, NoFile}
use Rattle.osm_data.specs.declared.fault.DataFault.TheVariants.{BadData, LongPart, TooLarge}

-- those of the objects whose kinds the filter chooses
abbrev pub chosen_objects : FilterValue → List ChangeValue → List ChangeValue
chosen_objects f objects = filter (λ c. chooses f c.key.kind) objects

-- the greatest number that is counted
abbrev pub most_counted : ℕ
most_counted = 18446744073709551615

-- so many objects, or as many as are counted
abbrev pub IsCountOf : ℕ → List ChangeValue → Type 0
IsCountOf count objects = count ≡ min (length objects) most_counted

-- 1 for an object of a kind that the filter chooses, and 0 for any other, and for what is no object
abbrev pub one_of : FilterValue → Option Kind → ℕ
one_of f None = 0
one_of f (Some kind) = if chooses f kind then 1 else 0

-- so many were counted, and with so many more it comes to that total
pub record IsTotal (count more total : ℕ) : Type 0 where
  pub few : count ≤ most_counted
  pub sum : total ≡ min (count + more) most_counted

-- why objects aren't counted: whatever the file spells, it is no reason
abbrev pub CountStops : StoreState → List ℕ → DataFault → Type 0
CountStops state name Device = Unit {0}
CountStops state name WantOfMemory = Unit {0}
CountStops state name NoFile = IsKnown state → state.files name ≡ None
CountStops state name (BadData place why) = ⊥
CountStops state name LongPart = IsKnown state → ⊥
CountStops state name TooLarge = IsKnown state → Holds IsHuge (state.files name)

-- the most calls that it takes to count the objects of a file: one finds that there is none
abbrev pub count_calls : Option (List ℕ) → ℕ
count_calls None = 1
count_calls (Some file) = read_calls (length file)
