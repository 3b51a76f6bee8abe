-- Published sequences, counted from 1 (OSM wiki, Planet.osm/diffs): each a batch of changes and the
-- time of its state. Sequence 0 is the empty start.
use Rattle.std.specs.Prelude.{◌≡◌, ℕ, zero, suc, ◌-◌, ◌<◌, ◌≤◌, length, List, Option, Some, None}
use Rattle.std.specs.Prelude.{drop, take, get_or, [], ◌∷◌}
use Rattle.std.specs.List.{flat_map}
use Rattle.osm_model.specs.Batch.{IsBatch}
use Rattle.osm_model.specs.Change.{ChangeValue}
use Rattle.osm_model.specs.Limits.{IsPositive, max_sequence}
use Rattle.osm_o5c.specs.Written.{o5c_text}
use Rattle.osm_opl.specs.Written.{opl_text}
use Rattle.osm_state.specs.StateText.{state_text}

-- a sequence: its number, its changes and its time
pub record PublishedValue : Type 0 where
  pub number : ℕ
  pub changes : List ChangeValue
  pub time : ℕ

-- what a publisher gives out for a sequence: its number, the text of its state, and its changes as
-- an o5c file and as an OPL file
pub record PublishedTexts : Type 0 where
  pub number : ℕ
  pub state : List ℕ
  pub o5c : List ℕ
  pub opl : List ℕ

-- the texts that are written for a sequence
abbrev pub written_of : PublishedValue → PublishedTexts
written_of p = record {
  number = p.number;
  state = state_text (record { sequence = p.number; time = p.time });
  o5c = o5c_text p.changes;
  opl = opl_text p.changes;
}

-- stands in for a sequence that wasn't published
abbrev pub unpublished : PublishedValue
unpublished = record { number = 0; changes = []; time = 0 }

-- the published sequence with that number
abbrev pub sequence_at : List PublishedValue → ℕ → PublishedValue
sequence_at published number = get_or published (number - 1) unpublished

-- stands in for the texts of a sequence that wasn't published
abbrev pub no_texts : PublishedTexts
no_texts = record { number = 0; state = []; o5c = []; opl = [] }

-- the archived texts of the sequence with that number
abbrev pub texts_at : List PublishedTexts → ℕ → PublishedTexts
texts_at archive number = get_or archive (number - 1) no_texts

-- the sequence has that number and is within the limits
pub record IsSequence (number : ℕ) (p : PublishedValue) : Type 0 where
  pub number_is : p.number ≡ number
  pub most : number ≤ max_sequence
  pub changes : IsBatch p.changes
  pub time : IsPositive p.time

-- the sequences are numbered from 1 and within the limits
abbrev pub AreSequences : List PublishedValue → Type 0
AreSequences published =
    (k : ℕ) → 0 < k → k ≤ length published → IsSequence k (sequence_at published k)

-- the changes of that sequence
abbrev pub changes_at : List PublishedValue → ℕ → List ChangeValue
changes_at published number = (sequence_at published number).changes

-- the time of that sequence; the empty start has none
abbrev pub time_at : List PublishedValue → ℕ → Option ℕ
time_at published zero = None
time_at published (suc n) = Some (sequence_at published (suc n)).time

-- the changes of sequences 1 to that number, joined
abbrev pub changes_up_to : List PublishedValue → ℕ → List ChangeValue
changes_up_to published number = flat_map (λ p. p.changes) (take number published)

-- the changes of the sequences after `base`, up to that number, joined
abbrev pub changes_after : List PublishedValue → ℕ → ℕ → List ChangeValue
changes_after published base number = flat_map (λ p. p.changes) (drop base (take number published))

-- the least time that the next close may have: that of the last sequence, or 1 before the first
abbrev pub last_time : List PublishedValue → ℕ
last_time [] = 1
last_time (p ∷ []) = p.time
last_time (p ∷ q ∷ ps) = last_time (q ∷ ps)
