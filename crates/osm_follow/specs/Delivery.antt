-- What a delivery answers, and the follower after it, given the state text and the bytes that are
-- delivered. The form of the bytes is a parameter.
use Rattle.std.specs.Prelude.{◌≡◌, ◌≢◌, ℕ, ◌+◌, ◌<◌, ◌≤◌, List, [], ◌++◌, length, None, Some}
use Rattle.std.specs.Prelude.{IsSome, true, false, Result, Ok, Err}
use Rattle.osm_model.specs.Change.{ChangeValue}
use Rattle.osm_model.specs.ChangeForm.{SpellsNothing}
use Rattle.osm_model.specs.Limits.{max_file}
use Rattle.osm_model.specs.declared.form.FormError.{FormError}
use Rattle.osm_model.specs.declared.form.FormError.TheVariants as faults
use Rattle.osm_state.specs.State.{StateValue}
use Rattle.osm_state.specs.StateFault.{FaultOf}
use Rattle.osm_state.specs.StateText.{StateOf}
use Rattle.osm_follow.specs.Follower.{FollowerValue, changes_held, held_at, is_held, time_in}
use Rattle.osm_holding.specs.Holding.{window}
use Rattle.osm_mirror.specs.Mirror.{Applies, NeedsMemory}
use Rattle.osm_publisher.specs.Published.{PublishedValue}
use Rattle.osm_follow.specs.Reach.{Reaches, between}
use Rattle.osm_follow.specs.declared.delivery.Delivered.{Delivered}
use Rattle.osm_follow.specs.declared.delivery.Delivered.TheVariants.{Old, Again, Held}
use Rattle.osm_follow.specs.declared.delivery.Delivered.TheVariants.{Applied}
use Rattle.osm_follow.specs.declared.delivery.DeliverError.{DeliverError}
use Rattle.osm_follow.specs.declared.delivery.DeliverError.TheVariants.{Broken, BadState}
use Rattle.osm_follow.specs.declared.delivery.DeliverError.TheVariants.{BadSequence}
use Rattle.osm_follow.specs.declared.delivery.DeliverError.TheVariants.{TooEarly, BadChange}
use Rattle.osm_follow.specs.declared.delivery.DeliverError.TheVariants.{WantOfMemory, Broke}

-- which batches bytes spell
abbrev pub Spelling : Type 1
Spelling = List ℕ → List ChangeValue → Type 0

-- the place of the fault of bytes that spell no batch
abbrev pub FaultPlaces : Type 1
FaultPlaces = List ℕ → ℕ → Type 0

-- the sequence is held, and nothing else has changed
pub record Holds (f : FollowerValue) (p : PublishedValue) (g : FollowerValue) : Type 0 where
  pub here : held_at g p.number ≡ Some p
  pub others : (j : ℕ) → j ≢ p.number → held_at g j ≡ held_at f j
  pub rest : g ≡ record f { holding = g.holding }

-- the sequence was applied under the follower's filter, and after it those that were held, in the
-- order of their numbers, up to the greatest number that is reached without a gap
pub record Takes (f : FollowerValue) (p : PublishedValue) (high : ℕ) (g : FollowerValue)
    : Type 0 where
  pub count : ℕ
  pub high_is : high ≡ p.number + count
  pub reach : Reaches (is_held f) p.number high
  pub applied :
      Applies f.filter f.mirror (p.changes ++ between (changes_held f) p.number count) g.mirror
  pub number : g.number ≡ high
  pub base : g.base ≡ f.base
  pub same_filter : g.filter ≡ f.filter
  pub time : g.time ≡ Some (time_in f.holding high p.time)
  pub whole : g.is_broken ≡ false
  pub gone : (j : ℕ) → j ≤ high → held_at g j ≡ None
  pub rest : (j : ℕ) → high < j → held_at g j ≡ held_at f j

-- that application stopped part-way, at a change that needs a new entry
pub record Breaks (f : FollowerValue) (p : PublishedValue) (g : FollowerValue) : Type 0 where
  pub high : ℕ
  pub count : ℕ
  pub high_is : high ≡ p.number + count
  pub reach : Reaches (is_held f) p.number high
  pub needs : NeedsMemory f.filter f.mirror (p.changes ++ between (changes_held f) p.number count)
  pub rest : g ≡ record f { mirror = g.mirror; holding = g.holding; is_broken = true }

-- the answers that are given before the bytes are read, and when: they depend on the follower and
-- on the state text alone
abbrev pub AnswersUnread :
    FollowerValue → List ℕ → Result Delivered DeliverError → Type 0
AnswersUnread f state (Err Broken) = f.is_broken ≡ true
AnswersUnread f state (Err (BadState fault)) = (f.is_broken ≡ false) × FaultOf state fault
AnswersUnread f state (Err BadSequence) =
    (s : StateValue) × (f.is_broken ≡ false) × StateOf state s × (s.sequence ≡ 0)
AnswersUnread f state (Ok Old) =
    (s : StateValue) × (f.is_broken ≡ false) × StateOf state s
    × (0 < s.sequence) × (s.sequence ≤ f.number)
AnswersUnread f state (Ok Again) =
    (s : StateValue) × (f.is_broken ≡ false) × StateOf state s
    × (f.number < s.sequence) × IsSome (held_at f s.sequence)
AnswersUnread f state (Err TooEarly) =
    (s : StateValue) × (f.is_broken ≡ false) × StateOf state s
    × (f.number + window < s.sequence) × (held_at f s.sequence ≡ None)
AnswersUnread f state answer = ⊥

-- the follower isn't broken, and the state text names a number within the window after the
-- follower's, for which it holds nothing: the bytes are read
pub record IsDue (f : FollowerValue) (state : List ℕ) (s : StateValue) : Type 0 where
  pub whole : f.is_broken ≡ false
  pub names : StateOf state s
  pub above : f.number < s.sequence
  pub within : s.sequence ≤ f.number + window
  pub fresh : held_at f s.sequence ≡ None

-- the sequence of that state with those changes
abbrev pub sequence_of : StateValue → List ChangeValue → PublishedValue
sequence_of s changes = record { number = s.sequence; changes = changes; time = s.time }

-- why bytes that are read are refused, apart from memory
abbrev pub BytesStop : Spelling → FaultPlaces → List ℕ → FormError → Type 0
BytesStop spells fault_place bytes faults.TooLarge = max_file < length bytes
BytesStop spells fault_place bytes (faults.Fault place why) =
    (length bytes ≤ max_file) × SpellsNothing spells bytes × fault_place bytes place
BytesStop spells fault_place bytes faults.WantOfMemory = ⊥

-- the state text and the bytes were delivered to the follower: each answer with all its conditions,
-- so that no two apply, except that memory may be refused instead of an application
abbrev pub Delivers :
    Spelling → FaultPlaces → FollowerValue → List ℕ → List ℕ
    → Result Delivered DeliverError → FollowerValue → Type 0
Delivers spells fault_place f state bytes (Ok Held) g =
    (s : StateValue) × (changes : List ChangeValue) × IsDue f state s
    × (f.number + 1 < s.sequence) × (length bytes ≤ max_file) × spells bytes changes
    × Holds f (sequence_of s changes) g
Delivers spells fault_place f state bytes (Ok (Applied low high)) g =
    (s : StateValue) × (changes : List ChangeValue) × IsDue f state s
    × (s.sequence ≡ f.number + 1) × (length bytes ≤ max_file) × spells bytes changes
    × (low ≡ s.sequence) × Takes f (sequence_of s changes) high g
Delivers spells fault_place f state bytes (Err Broke) g =
    (s : StateValue) × (changes : List ChangeValue) × IsDue f state s
    × (s.sequence ≡ f.number + 1) × (length bytes ≤ max_file) × spells bytes changes
    × Breaks f (sequence_of s changes) g
Delivers spells fault_place f state bytes (Err (BadChange fault)) g =
    (s : StateValue) × IsDue f state s × BytesStop spells fault_place bytes fault × (g ≡ f)
Delivers spells fault_place f state bytes (Err WantOfMemory) g =
    (s : StateValue) × IsDue f state s
    × (length bytes ≤ max_file) × (spells bytes [] → ⊥) × (g ≡ f)
Delivers spells fault_place f state bytes answer g = AnswersUnread f state answer × (g ≡ f)
