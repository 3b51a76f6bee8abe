-- Which reply may follow a history. The rows of an event exclude one another, so each reply is
-- given exactly if its conditions hold, except that memory may be refused instead.
use Rattle.std.specs.Prelude.{◌≡◌, ℕ, ◌+◌, ◌<◌, ◌≤◌, ◌∷◌, ◌++◌, length, true, false, ◌⊎◌, Bool}
use Rattle.osm_holding.specs.Holding.{window}
use Rattle.osm_model.specs.Filter.{FilterValue}
use Rattle.osm_model.specs.Limits.{max_changes, max_sequence}
use Rattle.osm_world.specs.History.{History, published_of, pending_of, publisher_of, start_of}
use Rattle.osm_world.specs.History.{accepted_of, base_of, has_saved, is_broken, saved_of}
use Rattle.osm_publisher.specs.Published.{last_time, changes_at}
use Rattle.osm_publisher.specs.Publisher.{CanClose, IsSmall, IsTooLarge}
use Rattle.osm_follow.specs.Reach.{Reaches, between}
use Rattle.osm_follow.specs.View.{IsView}
use Rattle.osm_world.specs.declared.event.Event.{Event}
use Rattle.osm_world.specs.declared.event.Event.TheVariants.{Edit, Close, Deliver, Show}
use Rattle.osm_world.specs.declared.event.Event.TheVariants.{Save, Restart, Begin}
use Rattle.osm_world.specs.declared.event.Reply.{Reply}
use Rattle.osm_world.specs.declared.event.Reply.TheVariants.{Edited, BatchFull, WantOfMemory}
use Rattle.osm_world.specs.declared.event.Reply.TheVariants.{Closed, SequenceFull, TimeBack}
use Rattle.osm_world.specs.declared.event.Reply.TheVariants.{TooLarge, NotPublished, Broken, Old}
use Rattle.osm_world.specs.declared.event.Reply.TheVariants.{Again, TooEarly, Held, Applied}
use Rattle.osm_world.specs.declared.event.Reply.TheVariants.{Broke, Shown, Saved, Restarted, Begun}

-- the number of a history: the greatest such that it and all below it, above the start, were
-- accepted
abbrev pub IsNumber : History → ℕ → Type 0
IsNumber h n = Reaches (accepted_of h) (start_of h) n

-- sequence k was published, and the follower isn't broken and is at n
pub record IsOpen (h : History) (k n : ℕ) : Type 0 where
  pub above : 0 < k
  pub there : k ≤ length (published_of h)
  pub whole : is_broken h ≡ false
  pub number : IsNumber h n

-- IsOpen, and k is above n and within the window, and wasn't accepted
pub record IsWanted (h : History) (k n : ℕ) : Type 0 where
  pub is_open : IsOpen h k n
  pub above : n < k
  pub within : k ≤ n + window
  pub fresh : accepted_of h k ≡ false

-- the sequences from k up to the last that can then be applied aren't all empty
pub record HasChanges (h : History) (k : ℕ) : Type 0 where
  pub count : ℕ
  pub reach : Reaches (accepted_of h) k (k + count)
  pub some :
      0 < length (changes_at (published_of h) k ++ between (changes_at (published_of h)) k count)

abbrev pub AllowedEdit : History → Reply → Type 0
AllowedEdit h Edited = length (pending_of h) < max_changes
AllowedEdit h BatchFull = length (pending_of h) ≡ max_changes
AllowedEdit h WantOfMemory = length (pending_of h) < max_changes
AllowedEdit h r = ⊥

abbrev pub AllowedClose : History → ℕ → Reply → Type 0
AllowedClose h t (Closed n) =
    CanClose (publisher_of h) t × IsSmall (pending_of h) × (n ≡ length (published_of h) + 1)
AllowedClose h t SequenceFull = length (published_of h) ≡ max_sequence
AllowedClose h t TimeBack =
    (length (published_of h) < max_sequence) × (t < last_time (published_of h))
AllowedClose h t TooLarge = CanClose (publisher_of h) t × IsTooLarge (pending_of h)
AllowedClose h t WantOfMemory = CanClose (publisher_of h) t
AllowedClose h t r = ⊥

abbrev pub AllowedDeliver : History → ℕ → Reply → Type 0
AllowedDeliver h k NotPublished = (k ≡ 0) ⊎ (length (published_of h) < k)
AllowedDeliver h k Broken = (0 < k) × (k ≤ length (published_of h)) × (is_broken h ≡ true)
AllowedDeliver h k Old = (n : ℕ) × IsOpen h k n × (k ≤ n)
AllowedDeliver h k Again = (n : ℕ) × IsOpen h k n × (n < k) × (accepted_of h k ≡ true)
AllowedDeliver h k TooEarly =
    (n : ℕ) × IsOpen h k n × (n + window < k) × (accepted_of h k ≡ false)
AllowedDeliver h k WantOfMemory =
    (n : ℕ) × IsWanted h k n × (0 < length (changes_at (published_of h) k))
AllowedDeliver h k Held = (n : ℕ) × IsWanted h k n × (n + 1 < k)
AllowedDeliver h k (Applied low high) =
    (n : ℕ) × IsWanted h k n × (k ≡ n + 1) × (low ≡ k) × Reaches (accepted_of h) k high
AllowedDeliver h k Broke = (n : ℕ) × IsWanted h k n × (k ≡ n + 1) × HasChanges h k
AllowedDeliver h k r = ⊥

abbrev pub AllowedShow : FilterValue → History → Reply → Type 0
AllowedShow filter h Broken = is_broken h ≡ true
AllowedShow filter h WantOfMemory = is_broken h ≡ false
AllowedShow filter h (Shown v) =
    (is_broken h ≡ false)
    × IsView filter (published_of h) (base_of h) (start_of h) (accepted_of h) v
AllowedShow filter h r = ⊥

abbrev pub AllowedSave : History → Reply → Type 0
AllowedSave h Broken = is_broken h ≡ true
AllowedSave h WantOfMemory = is_broken h ≡ false
AllowedSave h (Saved n) = (is_broken h ≡ false) × IsNumber h n
AllowedSave h r = ⊥

abbrev pub AllowedRestart : History → Reply → Type 0
AllowedRestart h WantOfMemory = has_saved h ≡ true
AllowedRestart h (Restarted n) = n ≡ saved_of h
AllowedRestart h r = ⊥

abbrev pub AllowedBegin : History → ℕ → Reply → Type 0
AllowedBegin h k NotPublished = (k ≡ 0) ⊎ (length (published_of h) < k)
AllowedBegin h k (Begun n) = (0 < k) × (k ≤ length (published_of h)) × (n ≡ k)
AllowedBegin h k WantOfMemory = (0 < k) × (k ≤ length (published_of h))
AllowedBegin h k r = ⊥

-- the reply may follow the history at that event, if the follower keeps what the filter keeps: only
-- what it shows depends on that
abbrev pub Allowed : FilterValue → History → Event → Reply → Type 0
Allowed filter h (Edit c) r = AllowedEdit h r
Allowed filter h (Close t) r = AllowedClose h t r
Allowed filter h (Deliver k form) r = AllowedDeliver h k r
Allowed filter h Show r = AllowedShow filter h r
Allowed filter h Save r = AllowedSave h r
Allowed filter h Restart r = AllowedRestart h r
Allowed filter h (Begin k) r = AllowedBegin h k r

-- whether the reply says that memory was refused
abbrev pub is_want_of_memory : Reply → Bool
is_want_of_memory WantOfMemory = true
is_want_of_memory Broke = true
is_want_of_memory r = false

-- each reply of a history is allowed after what came before it
pub record IsLegal (filter : FilterValue) (h : History) : Type 0 where
  pub each : (later before : History) (e : Event) (r : Reply) →
      h ≡ later ++ (e, r) ∷ before → Allowed filter before e r
