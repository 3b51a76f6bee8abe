-- The numbers of a range as they are taken, one after the other.
use Rattle.std.specs.Prelude.{◌≡◌, ℕ, ◌+◌, ◌<◌, List, [], ◌∷◌, ◌++◌, length, Bool, Option}
use Rattle.std.specs.Prelude.{None, Some, true, false}
use Rattle.osm_publisher.specs.Published.{PublishedValue}
use Rattle.osm_store.specs.Files.{Files}
use Rattle.osm_runs.specs.Following.{IsNumber, IsReached, NumberStops, is_lost}
use Rattle.osm_runs.specs.Progress.{IsOfContent}
use Rattle.osm_runs.specs.declared.fault.RunFault.{RunFault}
use Rattle.osm_range.specs.Ranges.{AreRead, time_after}
use Rattle.osm_range.specs.declared.reading.Place.{Place}

-- the taker holds these sequences, which are those of the numbers from that one up to the place
pub record HasTaken {T : Type 0} (holds : T → List PublishedValue → Type 0) (known : Type 0)
    (files : Files) (dir : List ℕ) (from : ℕ) (taker : T) (place : Place) : Type 0 where
  pub sequences : List PublishedValue
  pub held : holds taker sequences
  pub are : AreRead known files dir None from sequences
  pub number : place.number + 1 ≡ from + length sequences
  pub time : place.time ≡ time_after None sequences

-- a number was taken, and the place is at it; or it is lost, and nothing was taken
abbrev pub TakesNumber : {T : Type 0} → (T → List PublishedValue → Type 0) → Type 0 → Files
    → List ℕ → ℕ → T → T → Place → Place → Bool → Type 0
TakesNumber holds known files dir number old new from to true =
    (p : PublishedValue) × (p.number ≡ number)
    × IsNumber known files dir from.time number p.time p.changes
    × (to ≡ record { number = number; time = Some p.time })
    × ((before : List PublishedValue) → holds old before → holds new (before ++ p ∷ []))
TakesNumber holds known files dir number old new from to false =
    (known → is_lost files dir number ≡ true) × (new ≡ old) × (to ≡ from)

-- no further number is taken: the place is at the last one, or before a lost one; or before one
-- with a faulty file
abbrev pub StopsAtPlace : Type 0 → Files → List ℕ → ℕ → Place → Option RunFault → Type 0
StopsAtPlace known files dir last place None = known → IsReached files dir place.number last
StopsAtPlace known files dir last place (Some fault) =
    (place.number < last) × IsOfContent fault (place.number + 1)
    × NumberStops known dir files place.time (place.number + 1) fault
