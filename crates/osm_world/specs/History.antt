-- What a history of events and replies says. The definitions read only these, and no state. A
-- history has its newest pair first.
use Rattle.std.specs.Prelude.{ℕ, ◌+◌, ◌-◌, length, List, [], ◌∷◌, ◌++◌, Bool, true, false, ◌||◌}
use Rattle.std.specs.Prelude.{◌==◌, if◌then◌else◌, reverse, Option, Some, None, is_some, unwrap_or}
use Rattle.std.specs.List.{zip}
use Rattle.osm_model.specs.Change.{ChangeValue}
use Rattle.osm_publisher.specs.Published.{PublishedValue, last_time}
use Rattle.osm_publisher.specs.Publisher.{PublisherValue}
use Rattle.osm_follow.specs.Reach.{numbers}
use Rattle.osm_world.specs.declared.event.Event.{Event}
use Rattle.osm_world.specs.declared.event.Event.TheVariants.{Edit, Close, Deliver, Save}
use Rattle.osm_world.specs.declared.event.Event.TheVariants.{Restart, Begin}
use Rattle.osm_world.specs.declared.event.Reply.{Reply}
use Rattle.osm_world.specs.declared.event.Reply.TheVariants.{Edited, Closed, Held, Applied}
use Rattle.osm_world.specs.declared.event.Reply.TheVariants.{Broke, WantOfMemory, Saved}
use Rattle.osm_world.specs.declared.event.Reply.TheVariants.{Restarted, Begun}

-- an event and its reply
abbrev pub Pair : Type 0
Pair = Event × Reply

abbrev pub History : Type 0
History = List Pair

-- the history of a run
abbrev pub history_of : List Event → List Reply → History
history_of events replies = reverse (zip events replies)

-- the change of an edit that was taken
abbrev pub edit_of : Event → Reply → List ChangeValue
edit_of (Edit c) Edited = c ∷ []
edit_of e r = []

-- whether the pair is a close that published
abbrev pub closes : Event → Reply → Bool
closes (Close t) (Closed n) = true
closes e r = false

-- the time of a close
abbrev pub time_of : Event → ℕ
time_of (Close t) = t
time_of e = 0

-- the numbers that the pair reports as applied, low to high
abbrev pub applied_by : Reply → List ℕ
applied_by (Applied low high) = numbers (low - 1) (high + 1 - low)
applied_by r = []

-- whether the pair accepts the number
abbrev pub accepts : Event → Reply → ℕ → Bool
accepts (Deliver k form) Held j = k == j
accepts (Deliver k form) (Applied low high) j = k == j
accepts e r j = false

-- whether the follower starts anew with the pair: a restart or a beginning that was made
abbrev pub starts : Event → Reply → Bool
starts Restart (Restarted n) = true
starts (Begin k) (Begun n) = true
starts e r = false

-- the number that the follower started at, after the pair, given the one saved last and the one
-- before the pair
abbrev pub started_by : Event → Reply → ℕ → ℕ → ℕ
started_by Restart (Restarted n) saved before = saved
started_by (Begin k) (Begun n) saved before = k
started_by e r saved before = before

-- the follower's base, and that of what was saved last, after the pair, given both before it
abbrev pub based_by : Event → Reply → ℕ × ℕ → ℕ × ℕ
based_by Save (Saved n) bases = (bases.0, bases.0)
based_by Restart (Restarted n) bases = (bases.1, bases.1)
based_by (Begin k) (Begun n) bases = (k, bases.1)
based_by e r bases = bases

-- the number that was saved last, after the pair, given the one before it
abbrev pub saved_by : Event → Reply → Option ℕ → Option ℕ
saved_by Save (Saved n) before = Some n
saved_by e r before = before

-- whether the follower is broken after the pair, given whether it was before
abbrev pub broken_by : Event → Reply → Bool → Bool
broken_by (Deliver k form) Broke before = true
broken_by Restart WantOfMemory before = true
broken_by Restart (Restarted n) before = false
broken_by (Begin k) (Begun n) before = false
broken_by e r before = before

-- the edits taken since the last close that published
abbrev pub pending_of : History → List ChangeValue
pending_of [] = []
pending_of (p ∷ h) = if closes p.0 p.1 then [] else (pending_of h ++ edit_of p.0 p.1)

-- the sequences that were published: each has the edits taken since the one before, and the time of
-- its close
abbrev pub published_of : History → List PublishedValue
published_of [] = []
published_of (p ∷ h) =
    if closes p.0 p.1 then (published_of h ++ (record {
      number = length (published_of h) + 1;
      changes = pending_of h;
      time = time_of p.0;
    }) ∷ []) else published_of h

-- the publisher after a history
abbrev pub publisher_of : History → PublisherValue
publisher_of h = record {
  number = length (published_of h);
  time = last_time (published_of h);
  pending = pending_of h;
}

-- the number that was saved last, if one was: a save that was refused changes nothing
abbrev pub last_saved : History → Option ℕ
last_saved [] = None
last_saved (p ∷ h) = saved_by p.0 p.1 (last_saved h)

-- whether something was saved
abbrev pub has_saved : History → Bool
has_saved h = is_some (last_saved h)

-- the number that a restart begins at: the one saved last, or 0
abbrev pub saved_of : History → ℕ
saved_of h = unwrap_or (last_saved h) 0

-- the number that the follower started at: that of its last beginning, or the one that had been
-- saved last before its last restart, whichever came later, or 0; a save after that doesn't move it
abbrev pub start_of : History → ℕ
start_of [] = 0
start_of (p ∷ h) = started_by p.0 p.1 (saved_of h) (start_of h)

-- the follower's base, and that of what was saved last
abbrev pub bases_of : History → ℕ × ℕ
bases_of [] = (0, 0)
bases_of (p ∷ h) = based_by p.0 p.1 (bases_of h)

-- the number after which the follower counts edits: that of its last beginning, or the base of what
-- had been saved last before its last restart, whichever came later, or 0
abbrev pub base_of : History → ℕ
base_of h = (bases_of h).0

-- the base of what was saved last, or 0
abbrev pub saved_base_of : History → ℕ
saved_base_of h = (bases_of h).1

-- whether the number was accepted since the last restart or beginning
abbrev pub accepted_of : History → ℕ → Bool
accepted_of [] j = false
accepted_of (p ∷ h) j = if starts p.0 p.1 then false else (accepts p.0 p.1 j || accepted_of h j)

-- the numbers that were reported as applied since the last restart or beginning, in order
abbrev pub reported_of : History → List ℕ
reported_of [] = []
reported_of (p ∷ h) = if starts p.0 p.1 then [] else (reported_of h ++ applied_by p.1)

-- whether the follower is broken: since the last restart or beginning that was made, an application
-- stopped part-way or a restart was refused
abbrev pub is_broken : History → Bool
is_broken [] = false
is_broken (p ∷ h) = broken_by p.0 p.1 (is_broken h)
