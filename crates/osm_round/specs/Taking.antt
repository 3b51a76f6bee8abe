-- What a run takes of a folder: the numbers after a head, one after the other, as net changes.
-- `known` says that it is known what the files hold.
use Rattle.std.specs.Prelude.{◌≡◌, ℕ, zero, suc, ◌+◌, ◌-◌, ◌*◌, ◌<◌, ◌≤◌, List, length, Option}
use Rattle.std.specs.Prelude.{None, Some, min, true}
use Rattle.osm_model.specs.Change.{ChangeValue}
use Rattle.osm_model.specs.Filter.{FilterValue}
use Rattle.osm_model.specs.Limits.{max_changes}
use Rattle.osm_mirror.specs.Mirror.{Applies, IsOrderly, MirrorValue}
use Rattle.osm_net.specs.Laid.{laid_on}
use Rattle.osm_net.specs.Net.{IsNetOf, Takes, WidensBy, no_net}
use Rattle.osm_o5c.specs.Written.{o5c_text}
use Rattle.osm_save.specs.Head.{IsTimeOf}
use Rattle.osm_save.specs.declared.head.Head.{Head}
use Rattle.osm_publisher.specs.Published.{PublishedValue}
use Rattle.osm_store.specs.Files.{Files}
use Rattle.osm_runs.specs.Following.{HasFiles, IsNumber, IsOnward, IsReached, IsReadable}
use Rattle.osm_runs.specs.Following.{NumberStops, bytes_of, is_lost, size_of}
use Rattle.osm_runs.specs.Progress.{IsOfContent}
use Rattle.osm_runs.specs.declared.fault.RunFault.{RunFault}
use Rattle.osm_round.specs.Gathering.{GathersIn, Grows, HoldsGathered}
use Rattle.osm_round.specs.News.{HoldsUpTo, TakenValue, came_to}
use Rattle.osm_round.specs.declared.gathered.Gathered.{Gathered}
use Rattle.osm_round.specs.declared.taken.Bounds.{Bounds}
use Rattle.osm_round.specs.declared.taken.End.{End}
use Rattle.osm_round.specs.declared.taken.End.TheVariants.{Faulty, Full, Reached}
use Rattle.osm_round.specs.declared.taken.Taken.{Taken}

-- the head after a sequence
abbrev pub head_after : Head → ℕ → ℕ → Head
head_after head number time = record { number = number; base = head.base; time = Some time }

-- the next number's files are there, its time isn't before the one of the head, and the new net
-- changes are the old ones with its changes after them
pub record Advances (files : Files) (dir : List ℕ) (f : FilterValue) (old new : TakenValue)
    : Type 0 where
  pub next : PublishedValue
  pub number_is : next.number ≡ old.head.number + 1
  pub there : HasFiles files dir next
  pub onward : IsOnward old.head.time next.time
  pub head : new.head ≡ head_after old.head next.number next.time
  pub applies : (m : MirrorValue) → IsOrderly m
      → Applies f (laid_on old.net m) next.changes (laid_on new.net m)

-- nothing is new after that head
abbrev pub IsNothing : Head → TakenValue → Type 0
IsNothing start taken = (taken.head ≡ start) × (taken.net ≡ no_net)

-- that many numbers after that head were taken, one after the other
abbrev pub AdvancesAll : Files → List ℕ → FilterValue → Head → ℕ → TakenValue → Type 0
AdvancesAll files dir f start zero new = IsNothing start new
AdvancesAll files dir f start (suc count) new =
    (between : TakenValue) × AdvancesAll files dir f start count between
    × Advances files dir f between new

-- what was taken after that head is the net changes of that many numbers, each with no more changes
-- than a sequence may have
pub record IsTaken (f : FilterValue) (start : Head) (count : ℕ) (taken : TakenValue) : Type 0 where
  pub number : taken.head.number ≡ start.number + count
  pub base : taken.head.base ≡ start.base
  pub time : IsTimeOf start.number start.time → IsTimeOf taken.head.number taken.head.time
  pub none : count ≡ 0 → IsNothing start taken
  pub changes : List ChangeValue
  pub few : length changes ≤ max_changes * count
  pub net : IsNetOf f changes taken.net
  pub widens : WidensBy (length changes) no_net taken.net

-- the numbers after that head were taken
pub record HasTaken (known : Type 0) (files : Files) (dir : List ℕ) (f : FilterValue) (start : Head)
    (taken : TakenValue) : Type 0 where
  pub count : ℕ
  pub is : IsTaken f start count taken
  pub advances : known → AdvancesAll files dir f start count taken

-- a number was taken, and is gathered, or is lost
abbrev pub TakesNumber : Type 0 → Files → List ℕ → ℕ → FilterValue → TakenValue → TakenValue
    → Gathered → Gathered → Option ℕ → Type 0
TakesNumber known files dir number f old new before after (Some size) =
    (time : ℕ) × (changes : List ChangeValue)
    × IsNumber known files dir old.head.time number time changes
    × (new.head ≡ head_after old.head number time) × Takes f old.net changes new.net
    × WidensBy (length changes) old.net new.net
    × (known → size ≡ size_of files dir number)
    × Grows (record { number = number; time = time; bytes = o5c_text changes }) before after
TakesNumber known files dir number f old new before after None =
    (known → is_lost files dir number ≡ true) × (new ≡ old) × (after ≡ before)

-- so many bytes fill the room, if it is known what the files hold; nothing fills one without an end
abbrev pub Fills : Type 0 → Option ℕ → ℕ → Type 0
Fills known None size = ⊥
Fills known (Some room) size = known → room ≤ size

-- so many bytes leave room for more; there always is some in a room without an end
abbrev pub LeavesRoom : Option ℕ → ℕ → Type 0
LeavesRoom None size = Unit {0}
LeavesRoom (Some room) size = size < room

-- what 64 bits count of so many bytes: their greatest number, if there are more
abbrev pub counted : ℕ → ℕ
counted total = min total 18446744073709551615

-- no file of the next number is faulty
abbrev pub IsRight : End → Type 0
IsRight (Faulty fault) = ⊥
IsRight end = Unit {0}

-- why no further number is taken: all that may be are, or the next one is lost; those after `from`
-- fill the room, and more may be; or a file of the next one is faulty
abbrev pub EndsAt : Type 0 → Files → List ℕ → Bounds → ℕ → Head → End → Type 0
EndsAt known files dir bounds from head Reached =
    known → IsReached files dir head.number bounds.last
EndsAt known files dir bounds from head Full =
    (from < head.number) × (head.number < bounds.last)
    × Fills known bounds.room (bytes_of files dir from (head.number - from))
EndsAt known files dir bounds from head (Faulty fault) =
    (head.number < bounds.last) × IsOfContent fault (head.number + 1)
    × NumberStops known dir files head.time (head.number + 1) fault

-- the numbers after that head were taken, up to the last one or to an earlier end, and gathered, if
-- they have no more than `most` bytes. All but the last leave room
pub record TakesUp (known : Type 0) (files : Files) (dir : List ℕ) (f : FilterValue)
    (bounds : Bounds) (start : Head) (most : ℕ) (taken : Taken) (g : Gathered) (end : End) : Type 0
  where
    pub taken_are : HasTaken known files dir f start (came_to f taken)
    pub gathers : GathersIn known files dir f start most (came_to f taken) g
    pub few : HoldsUpTo (max_changes * taken.head.number) taken.news
    pub held : HoldsGathered taken.news g
    pub until : taken.head.number ≤ bounds.last
    pub room : known → LeavesRoom bounds.room
        (bytes_of files dir start.number (taken.head.number - start.number - 1))
    pub ends : EndsAt known files dir bounds start.number taken.head end

-- a number after that head isn't taken, for no fault of what its files hold: it is at most the last
-- one, and those between are right; `before` is the time of the one before it
pub record StopsOnTheWay (known : Type 0) (files : Files) (dir : List ℕ) (f : FilterValue)
    (last : ℕ) (start : Head) (fault : RunFault) : Type 0 where
  pub number : ℕ
  pub above : start.number < number
  pub until : number ≤ last
  pub each : known → (k : ℕ) → start.number < k → k < number → IsReadable files dir k
  pub plain : (k : ℕ) → IsOfContent fault k → ⊥
  pub before : Option ℕ
  pub stops : NumberStops known dir files before number fault
