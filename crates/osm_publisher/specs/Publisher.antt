-- A publisher: the number and the time of its last sequence, and the edits since then.
use Rattle.std.specs.Prelude.{◌≡◌, ℕ, ◌+◌, ◌<◌, ◌≤◌, List, [], length, ◌⊎◌, Result, Ok, Err}
use Rattle.osm_model.specs.Change.{ChangeValue}
use Rattle.osm_model.specs.Limits.{IsPositive, max_changes, max_file, max_sequence}
use Rattle.osm_o5c.specs.Written.{o5c_text}
use Rattle.osm_opl.specs.Written.{opl_text}
use Rattle.osm_publisher.specs.Published.{PublishedValue, PublishedTexts, written_of}
use Rattle.osm_publisher.specs.declared.publisher.CloseError.{CloseError}
use Rattle.osm_publisher.specs.declared.publisher.CloseError.TheVariants.{SequenceFull, TimeBack}
use Rattle.osm_publisher.specs.declared.publisher.CloseError.TheVariants.{TooLarge, WantOfMemory}
use Rattle.osm_publisher.specs.declared.publisher.EditError.{EditError}
use Rattle.osm_publisher.specs.declared.publisher.EditError.TheVariants as edits

pub record PublisherValue : Type 0 where
  pub number : ℕ
  pub time : ℕ
  pub pending : List ChangeValue

-- before the first sequence, which may have any time from 1 on
abbrev pub new_publisher : PublisherValue
new_publisher = record { number = 0; time = 1; pending = [] }

-- the sequence that a close at that time publishes
abbrev pub closing : PublisherValue → ℕ → PublishedValue
closing p time = record { number = p.number + 1; changes = p.pending; time = time }

-- the publisher after that close
abbrev pub closed : PublisherValue → ℕ → PublisherValue
closed p time = record { number = p.number + 1; time = time; pending = [] }

-- a number is left, and the time isn't before the last one
pub record CanClose (p : PublisherValue) (time : ℕ) : Type 0 where
  pub room : p.number < max_sequence
  pub onward : p.time ≤ time

-- both files of the changes are within 64 MiB
pub record IsSmall (changes : List ChangeValue) : Type 0 where
  pub opl : length (opl_text changes) ≤ max_file
  pub o5c : length (o5c_text changes) ≤ max_file

-- one of the two files passes 64 MiB
abbrev pub IsTooLarge : List ChangeValue → Type 0
IsTooLarge changes = (max_file < length (opl_text changes)) ⊎ (max_file < length (o5c_text changes))

-- why an edit is handed back
abbrev pub EditStops : PublisherValue → ChangeValue → EditError → Type 0
EditStops p c (edits.BatchFull d) = (length p.pending ≡ max_changes) × (d ≡ c)
EditStops p c (edits.WantOfMemory d) = (length p.pending < max_changes) × (d ≡ c)

-- why a publisher can't close at that time, whatever is pending
abbrev pub CloseBarred : PublisherValue → ℕ → CloseError → Type 0
CloseBarred p time SequenceFull = p.number ≡ max_sequence
CloseBarred p time TimeBack = (p.number < max_sequence) × (time < p.time)
CloseBarred p time error = ⊥

-- what a close answers, and the publisher after it: nothing changes unless a sequence is published,
-- and a refusal names the first cause that applies
abbrev pub Closes :
    PublisherValue → ℕ → Result PublishedTexts CloseError → PublisherValue → Type 0
Closes a time (Ok p) b =
    CanClose a time × IsPositive time × IsSmall a.pending
    × (p ≡ written_of (closing a time)) × (b ≡ closed a time)
Closes a time (Err SequenceFull) b = (a.number ≡ max_sequence) × (b ≡ a)
Closes a time (Err TimeBack) b = (a.number < max_sequence) × (time < a.time) × (b ≡ a)
Closes a time (Err TooLarge) b = CanClose a time × IsTooLarge a.pending × (b ≡ a)
Closes a time (Err WantOfMemory) b = CanClose a time × (b ≡ a)
