-- Archived texts that can be delivered, and what a close adds to the archive.
use Rattle.std.specs.Prelude.{◌≡◌, ℕ, ◌+◌, ◌<◌, ◌≤◌, List, [], ◌∷◌, ◌++◌, length, Result, Ok, Err}
use Rattle.std.specs.Prelude.{Option, IfSome}
use Rattle.osm_model.specs.ChangeForm.{SpellsNothing}
use Rattle.osm_model.specs.Filter.{FilterValue}
use Rattle.osm_model.specs.Limits.{IsPositive, max_file, max_sequence}
use Rattle.osm_o5c.specs.File.{SpellsO5c}
use Rattle.osm_opl.specs.File.{SpellsOpl}
use Rattle.osm_state.specs.State.{StateValue}
use Rattle.osm_state.specs.StateFault.{FaultOf}
use Rattle.osm_state.specs.StateText.{StateOf}
use Rattle.osm_state.specs.declared.state_text.StateError.{StateError}
use Rattle.osm_follow.specs.Delivery.{Spelling}
use Rattle.osm_save.specs.Save.{SpellsSave}
use Rattle.osm_save.specs.declared.save.Saved.{Saved}
use Rattle.osm_publisher.specs.Published.{PublishedTexts, texts_at, written_of}
use Rattle.osm_publisher.specs.Publisher.{PublisherValue, CanClose, IsSmall, IsTooLarge}
use Rattle.osm_publisher.specs.Publisher.{closing, closed}
use Rattle.osm_publisher.specs.declared.publisher.CloseError.{CloseError}
use Rattle.osm_publisher.specs.declared.publisher.CloseError.TheVariants.{SequenceFull, TimeBack}
use Rattle.osm_publisher.specs.declared.publisher.CloseError.TheVariants.{TooLarge, WantOfMemory}

-- the state text names a sequence from 1 on, and the bytes spell a batch
pub record IsReadable (spells : Spelling) (state bytes : List ℕ) : Type 0 where
  pub named : (e : StateError) → FaultOf state e → ⊥
  pub above : (s : StateValue) → StateOf state s → 0 < s.sequence
  pub small : length bytes ≤ max_file
  pub some : SpellsNothing spells bytes → ⊥

-- the texts of a sequence can be read in both forms
pub record AreReadable (p : PublishedTexts) : Type 0 where
  pub in_opl : IsReadable SpellsOpl p.state p.opl
  pub in_o5c : IsReadable SpellsO5c p.state p.o5c

-- an archive of the texts of that many sequences, all of them readable
pub record IsArchive (number : ℕ) (archive : List PublishedTexts) : Type 0 where
  pub count : length archive ≡ number
  pub each : (k : ℕ) → 0 < k → k ≤ length archive → AreReadable (texts_at archive k)

-- the bytes are a save text under that filter
abbrev pub IsSaveUnder : FilterValue → List ℕ → Type 0
IsSaveUnder filter bytes = (v : Saved) × SpellsSave bytes v × (v.filter ≡ filter)

-- what a world keeps can be read: its archive, and what its follower saved last, by a follower with
-- that filter
pub record IsKept (number : ℕ) (texts : List PublishedTexts) (filter : FilterValue)
    (text : Option (List ℕ)) : Type 0 where
  pub archive : IsArchive number texts
  pub saved : IfSome text (IsSaveUnder filter)

-- the publisher and the archive after a close
abbrev pub ClosesInto :
    PublisherValue → List PublishedTexts → ℕ → Result ℕ CloseError
    → PublisherValue → List PublishedTexts → Type 0
ClosesInto a archive time (Ok n) b grown =
    CanClose a time × IsPositive time × IsSmall a.pending × (n ≡ a.number + 1)
    × (b ≡ closed a time) × (grown ≡ archive ++ written_of (closing a time) ∷ [])
ClosesInto a archive time (Err SequenceFull) b grown =
    (a.number ≡ max_sequence) × (b ≡ a) × (grown ≡ archive)
ClosesInto a archive time (Err TimeBack) b grown =
    (a.number < max_sequence) × (time < a.time) × (b ≡ a) × (grown ≡ archive)
ClosesInto a archive time (Err TooLarge) b grown =
    CanClose a time × IsTooLarge a.pending × (b ≡ a) × (grown ≡ archive)
ClosesInto a archive time (Err WantOfMemory) b grown =
    CanClose a time × (b ≡ a) × (grown ≡ archive)
