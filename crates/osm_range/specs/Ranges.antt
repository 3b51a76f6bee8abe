-- A range of the numbers of a folder, read one after the other. `known` says that it is known what
-- the files hold.
use Rattle.std.specs.Prelude.{◌≡◌, ℕ, ◌+◌, ◌<◌, ◌≤◌, ◌⊎◌, List, [], ◌∷◌, length, Option, Some, None}
use Rattle.std.specs.Prelude.{min, true}
use Rattle.std.specs.List.{flat_map}
use Rattle.osm_model.specs.Change.{ChangeValue}
use Rattle.osm_publisher.specs.Published.{PublishedValue}
use Rattle.osm_store.specs.Files.{Files}
use Rattle.osm_runs.specs.Folder.{IsStateFile}
use Rattle.osm_runs.specs.Following.{FindTopStops, IsNumber, IsReadable, MissingStops}
use Rattle.osm_runs.specs.Following.{NumberStops, is_lost, lost_numbers}
use Rattle.osm_runs.specs.Names.{top_name_of}
use Rattle.osm_runs.specs.Progress.{IsOfContent}
use Rattle.osm_runs.specs.declared.fault.RunFault.{RunFault}
use Rattle.osm_runs.specs.declared.fault.RunFault.TheVariants.{BadRange}
use Rattle.osm_range.specs.declared.range.Ending.{Ending}
use Rattle.osm_range.specs.declared.range.Ending.TheVariants.{Faulty, Missing, Whole}
use Rattle.osm_range.specs.declared.range.Range.{Range}
use Rattle.osm_range.specs.declared.range.Reached.{Reached}

-- there are numbers of the range, and 0 isn't one
pub record IsRange (range : Range) : Type 0 where
  pub above : 0 < range.from
  pub some : range.from ≤ range.to

-- the number of the newest state: 0 if nothing was published
abbrev pub IsTopNumber : Option (List ℕ) → ℕ → Type 0
IsTopNumber None top = top ≡ 0
IsTopNumber (Some text) top = (time : ℕ) × IsStateFile top time text

-- the sequences have the numbers from this one on, each is that of its files, and no time is before
-- that of the one before, the first of which is given
abbrev pub AreRead : Type 0 → Files → List ℕ → Option ℕ → ℕ → List PublishedValue → Type 0
AreRead known files dir before number [] = Unit {0}
AreRead known files dir before number (p ∷ ps) =
    (p.number ≡ number) × IsNumber known files dir before number p.time p.changes
    × AreRead known files dir (Some p.time) (number + 1) ps

-- the changes of sequences, joined
abbrev pub changes_in : List PublishedValue → List ChangeValue
changes_in sequences = flat_map (λ p. p.changes) sequences

-- the time of the last one; the one given if there is none
abbrev pub time_after : Option ℕ → List PublishedValue → Option ℕ
time_after before [] = before
time_after before (p ∷ ps) = time_after (Some p.time) ps

-- why a reading ends at a number of that time: it is the last one; the next one is lost, and all
-- lost ones are named; or a file of the next one is faulty
abbrev pub EndsAt : Type 0 → Files → List ℕ → ℕ → ℕ → Option ℕ → Ending → Type 0
EndsAt known files dir last number time Whole = number ≡ last
EndsAt known files dir last number time (Missing missing) =
    (number < last) × (known → is_lost files dir (number + 1) ≡ true)
    × (known → missing.items ≡ lost_numbers files dir number last)
EndsAt known files dir last number time (Faulty fault) =
    (number < last) × IsOfContent fault (number + 1)
    × NumberStops known dir files time (number + 1) fault

-- the sequences are those of the numbers of a range up to one that was reached: the last one, which
-- is that of the range or the folder's newest one if that is less, or an earlier end
pub record IsRead (known : Type 0) (files : Files) (dir : List ℕ) (range : Range)
    (sequences : List PublishedValue) (reached : Reached) : Type 0 where
  pub are : AreRead known files dir None range.from sequences
  pub number : reached.number + 1 ≡ range.from + length sequences
  pub time : reached.time ≡ time_after None sequences
  pub range_is : IsRange range
  pub begins : range.from ≤ reached.top
  pub top : known → IsTopNumber (files (top_name_of dir)) reached.top
  pub until : reached.number ≤ min range.to reached.top
  pub ends : EndsAt known files dir (min range.to reached.top) reached.number reached.time
      reached.ending

-- the numbers of a range were read, and the taker holds what they come to
pub record HasRead {T : Type 0} (holds : T → List PublishedValue → Type 0) (known : Type 0)
    (files : Files) (dir : List ℕ) (range : Range) (taker : T) (reached : Reached) : Type 0 where
  pub sequences : List PublishedValue
  pub held : holds taker sequences
  pub read : IsRead known files dir range sequences reached

-- the folder's newest number is below the range
abbrev pub IsAboveTop : Files → List ℕ → Range → Type 0
IsAboveTop files dir range =
    (top : ℕ) × IsTopNumber (files (top_name_of dir)) top × (top < range.from)

-- a number from `from` to `to` isn't taken, for no fault of what its files hold; those before it
-- are right, and `before` is the time of the one before
pub record StopsInside (known : Type 0) (files : Files) (dir : List ℕ) (from to : ℕ)
    (fault : RunFault) : Type 0 where
  pub number : ℕ
  pub above : from ≤ number
  pub until : number ≤ to
  pub each : known → (k : ℕ) → from ≤ k → k < number → IsReadable files dir k
  pub plain : (k : ℕ) → IsOfContent fault k → ⊥
  pub before : Option ℕ
  pub stops : NumberStops known dir files before number fault

-- the lost numbers up to one that is at most `to` aren't named; the first one is lost, and is at
-- least `from`
pub record StopsAtLost (known : Type 0) (files : Files) (dir : List ℕ) (from to : ℕ)
    (fault : RunFault) : Type 0 where
  pub reached : ℕ
  pub last : ℕ
  pub above : from ≤ reached + 1
  pub below : reached < last
  pub until : last ≤ to
  pub lost : known → is_lost files dir (reached + 1) ≡ true
  pub stops : MissingStops known dir files reached last fault

-- why a range isn't read: it is no range of the folder; or the newest state, a number, or which
-- numbers are missing can't be read
abbrev pub RangeStops : Type 0 → Files → List ℕ → Range → RunFault → Type 0
RangeStops known files dir range BadRange =
    (IsRange range → ⊥) ⊎ (known → IsAboveTop files dir range)
RangeStops known files dir range fault =
    FindTopStops known (files (top_name_of dir)) fault
    ⊎ StopsInside known files dir range.from range.to fault
    ⊎ StopsAtLost known files dir range.from range.to fault
