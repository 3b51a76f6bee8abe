-- Steps of a publication. `known` says that it is known what the files hold, and a word that ends
-- in `In` takes the state of a store in place of `known` and the files.
use Rattle.std.specs.Prelude.{◌≡◌, ℕ, ◌+◌, ◌<◌, ◌≤◌, ◌⊎◌, List, [], ◌∷◌, length, take}
use Rattle.std.specs.Prelude.{Option, Some, None, string_bytes}
use Rattle.osm_model.specs.Change.{ChangeValue}
use Rattle.osm_model.specs.Limits.{max_file, max_sequence}
use Rattle.osm_publisher.specs.Published.{PublishedTexts, PublishedValue, written_of}
use Rattle.osm_publisher.specs.Publisher.{CanClose, IsSmall, IsTooLarge, PublisherValue, closing}
use Rattle.osm_publisher.specs.Publisher.{new_publisher}
use Rattle.osm_opl.specs.File.{SpellsOpl}
use Rattle.osm_state.specs.State.{StateValue}
use Rattle.osm_state.specs.declared.paths.Suffix.TheVariants.{O5c, Opl, State}
use Rattle.osm_store.specs.Files.{Files, IsOver}
use Rattle.osm_store.specs.Frames.{IsKnown, StoreState}
use Rattle.osm_runs.specs.Folder.{max_state}
use Rattle.osm_runs.specs.Forms.{IsFaulty}
use Rattle.osm_runs.specs.Names.{file_name_of, top_name_of}
use Rattle.osm_publishing.specs.Publication.{CutsOff, IsBadChanges, IsReady, Writes}
use Rattle.osm_runs.specs.Folder.{IsBadState}
use Rattle.osm_publishing.specs.Publication.{file_after}
use Rattle.osm_runs.specs.Reports.{publish_report_of}
use Rattle.osm_runs.specs.declared.fault.FileName.TheVariants.{Top, Changes}
use Rattle.osm_runs.specs.declared.fault.RunFault.{RunFault}
use Rattle.osm_runs.specs.declared.fault.RunFault.TheVariants.{WantOfMemory, ReadFault, TooLarge}
use Rattle.osm_runs.specs.declared.fault.RunFault.TheVariants.{WriteFault}
use Rattle.osm_runs.specs.declared.fault.RunFault.TheVariants.{BadState, BadChange, Absent}
use Rattle.osm_runs.specs.declared.fault.RunFault.TheVariants.{TimeBack, SequenceFull}
use Rattle.osm_runs.specs.declared.form.Form.TheVariants as forms
use Rattle.osm_publishing.specs.declared.publish.FolderNames.{FolderNames}
use Rattle.osm_publishing.specs.declared.publish.Publication.{Publication}

-- why no publisher goes on from the top state
abbrev pub TopStops : Type 0 → Option (List ℕ) → RunFault → Type 0
TopStops known told WantOfMemory = Unit {0}
TopStops known told (ReadFault file) = file ≡ Top
TopStops known told (TooLarge file) = (file ≡ Top) × (known → IsOver max_state told)
TopStops known told (BadState file cause) = (file ≡ Top) × (known → IsBadState told cause)
TopStops known told fault = ⊥

-- the publisher that goes on from that top state, if there is one
abbrev pub from_top : Option StateValue → PublisherValue
from_top None = new_publisher
from_top (Some s) = record { number = s.sequence; time = s.time; pending = [] }

-- the file's changes
pub record IsChangesOf (told : Option (List ℕ)) (batch : List ChangeValue) : Type 0 where
  pub bytes : List ℕ
  pub there : told ≡ Some bytes
  pub small : length bytes ≤ max_file
  pub spelled : SpellsOpl bytes batch

-- why bytes aren't the changes of a batch
abbrev pub ParseStops : List ℕ → RunFault → Type 0
ParseStops bytes WantOfMemory = Unit {0}
ParseStops bytes (TooLarge file) = (file ≡ Changes) × (max_file < length bytes)
ParseStops bytes (BadChange file place why) = (file ≡ Changes) × IsFaulty forms.Opl bytes place
ParseStops bytes fault = ⊥

-- why the file of changes isn't read
abbrev pub ChangesStop : Type 0 → Option (List ℕ) → RunFault → Type 0
ChangesStop known told WantOfMemory = Unit {0}
ChangesStop known told (ReadFault file) = file ≡ Changes
ChangesStop known told (Absent file) = (file ≡ Changes) × (known → told ≡ None)
ChangesStop known told (TooLarge file) = (file ≡ Changes) × (known → IsOver max_file told)
ChangesStop known told (BadChange file place why) =
    (file ≡ Changes) × (known → IsBadChanges told place)
ChangesStop known told fault = ⊥

-- why a publisher doesn't close
abbrev pub CloseStops : PublisherValue → ℕ → RunFault → Type 0
CloseStops a time WantOfMemory = Unit {0}
CloseStops a time SequenceFull = a.number ≡ max_sequence
CloseStops a time TimeBack = (a.number < max_sequence) × (time < a.time)
CloseStops a time (TooLarge file) = (file ≡ Changes) × CanClose a time × IsTooLarge a.pending
CloseStops a time fault = ⊥

-- the four names of a publication
pub record AreNames (dir : List ℕ) (number : ℕ) (names : FolderNames) : Type 0 where
  pub o5c : string_bytes names.o5c ≡ file_name_of dir number O5c
  pub opl : string_bytes names.opl ≡ file_name_of dir number Opl
  pub state : string_bytes names.state ≡ file_name_of dir number State
  pub top : string_bytes names.top ≡ top_name_of dir

-- the writes to those names
abbrev pub writes_to : FolderNames → PublishedTexts → List (List ℕ × List ℕ)
writes_to names p =
    (string_bytes names.o5c, p.o5c) ∷ (string_bytes names.opl, p.opl)
    ∷ (string_bytes names.state, p.state) ∷ (string_bytes names.top, p.state) ∷ []

-- all that the publication of a sequence needs was made
pub record IsMadeOf (dir : List ℕ) (p : PublishedValue) (made : Publication) : Type 0 where
  pub fits : IsSmall p.changes
  pub published_is : made.published ≡ written_of p
  pub names_are : AreNames dir p.number made.names
  pub report_is : made.report ≡ publish_report_of p.number

-- the same for the sequence that the words and the files ask for
pub record IsMade (known : Type 0) (dir changes now : List ℕ) (files : Files) (made : Publication) :
    Type 0 where
  pub publisher : PublisherValue
  pub time : ℕ
  pub ready : known → IsReady dir changes now files publisher time
  pub published_is : made.published ≡ written_of (closing publisher time)
  pub names_are : AreNames dir (publisher.number + 1) made.names
  pub report_is : made.report ≡ publish_report_of (publisher.number + 1)

-- the same in a store
abbrev pub IsMadeIn : StoreState → List ℕ → List ℕ → List ℕ → Publication → Type 0
IsMadeIn store dir changes now = IsMade (IsKnown store) dir changes now store.files

-- a write fails after some of the others were made
pub record IsCut (known : Type 0) (names : FolderNames) (p : PublishedTexts) (old new : Files)
    (fault : RunFault) : Type 0 where
  pub count : ℕ
  pub few : count < 4
  pub cut : CutsOff p.number count fault
  pub written : known → Writes (take count (writes_to names p)) old new

-- the read at which no call was left: the top state, then the changes
abbrev pub ReadsOut : Option ℕ → RunFault → Type 0
ReadsOut left (ReadFault file) =
    ((left ≡ Some 0) × (file ≡ Top)) ⊎ ((left ≡ Some 1) × (file ≡ Changes))
ReadsOut left (WriteFault file) = ⊥
ReadsOut left fault = Unit {0}

-- the write at which no call was left
abbrev pub WritesOut : ℕ → Option ℕ → RunFault → Type 0
WritesOut number left (ReadFault file) = ⊥
WritesOut number left (WriteFault file) =
    (count : ℕ) × (count < 4) × (left ≡ Some count) × (file ≡ file_after number count)
WritesOut number left fault = Unit {0}
