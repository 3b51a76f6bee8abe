-- Steps of a publication by number. `known` says that it is known what the files hold, and a word
-- that ends in `In` takes the state of a store in place of `known` and the files.
use Rattle.std.specs.Prelude.{◌≡◌, ℕ, ◌+◌, ◌<◌, ◌≤◌, Bool, true, false, List, length, Option, Some}
use Rattle.osm_model.specs.Change.{ChangeValue}
use Rattle.osm_model.specs.Limits.{max_file, max_sequence}
use Rattle.osm_model.specs.Time.{TimeText}
use Rattle.osm_publisher.specs.Published.{PublishedValue}
use Rattle.osm_reading.specs.Sequence.{SpellsSequence}
use Rattle.osm_state.specs.declared.paths.Suffix.{Suffix}
use Rattle.osm_state.specs.declared.paths.Suffix.TheVariants.{State}
use Rattle.osm_store.specs.Files.{Files, IsOver}
use Rattle.osm_store.specs.Frames.{IsKnown, StoreState}
use Rattle.osm_runs.specs.Folder.{IsStateFile, IsThere}
use Rattle.osm_runs.specs.Forms.{spells_of}
use Rattle.osm_runs.specs.Names.{file_name_of}
use Rattle.osm_publishing.specs.Numbered.{IsAsked, IsBigToWrite, IsEarly, IsFar, IsOld}
use Rattle.osm_runs.specs.Following.{AreFilesOf}
use Rattle.osm_publishing.specs.Numbered.{IsOther, IsPublishedIn, IsToWrite, file_read_after}
use Rattle.osm_runs.specs.Forms.{suffix_of}
use Rattle.osm_publishing.specs.Steps.Publishing.{IsMadeOf, from_top}
use Rattle.osm_runs.specs.declared.fault.FileName.{FileName}
use Rattle.osm_runs.specs.declared.fault.FileName.TheVariants.{Sequence, Changes}
use Rattle.osm_runs.specs.declared.fault.RunFault.{RunFault}
use Rattle.osm_runs.specs.declared.fault.RunFault.TheVariants.{WantOfMemory, ReadFault}
use Rattle.osm_runs.specs.declared.fault.RunFault.TheVariants.{WriteFault, Differs}
use Rattle.osm_runs.specs.declared.fault.RunFault.TheVariants.{TimeBack, TooLarge, TopAt}
use Rattle.osm_runs.specs.declared.form.Form.{Form}
use Rattle.osm_publishing.specs.declared.publish.Publication.{Publication}
use Rattle.osm_publishing.specs.declared.publish_as.Asked.{Asked}
use Rattle.std.specs.Prelude.{None, ◌==◌, if◌then◌else◌}

-- the state of a number is there, and names that time
abbrev pub IsStateIn : StoreState → List ℕ → ℕ → ℕ → Type 0
IsStateIn store dir number time =
    IsKnown store
    → IsThere (store.files (file_name_of dir number State)) (IsStateFile number time)

-- the bytes are a file of that form, with those changes
abbrev pub HoldsChanges : Form → List ChangeValue → List ℕ → Type 0
HoldsChanges form changes bytes = (length bytes ≤ max_file) × spells_of form bytes changes

-- the file isn't there, or this holds of its bytes
abbrev pub IsCompared : Bool → Option (List ℕ) → (List ℕ → Type 0) → Type 0
IsCompared false told holds = told ≡ None
IsCompared true told holds = IsThere told holds

-- the number's file of that form isn't there, or holds those changes
abbrev pub IsComparedIn : StoreState → List ℕ → ℕ → Form → List ChangeValue → Bool → Type 0
IsComparedIn store dir number form changes is_there =
    IsKnown store
    → IsCompared is_there (store.files (file_name_of dir number (suffix_of form)))
    (HoldsChanges form changes)

-- why a file isn't found to be as it should
abbrev pub FileDiffers : Type 0 → FileName → ℕ → Type 0 → RunFault → Type 0
FileDiffers known file number holds WantOfMemory = Unit {0}
FileDiffers known file number holds (ReadFault named) = named ≡ file
FileDiffers known file number holds (Differs k) = (k ≡ number) × (known → holds → ⊥)
FileDiffers known file number holds fault = ⊥

-- the same for a file of that number in a store
abbrev pub FileDiffersIn : StoreState → List ℕ → ℕ → Suffix → (Option (List ℕ) → Type 0) → RunFault
    → Type 0
FileDiffersIn store dir number suffix holds =
    FileDiffers (IsKnown store) (Sequence number suffix) number
    (holds (store.files (file_name_of dir number suffix)))

-- why bytes aren't found to be as they should
abbrev pub BytesDiffer : ℕ → Type 0 → RunFault → Type 0
BytesDiffer number holds WantOfMemory = Unit {0}
BytesDiffer number holds (Differs k) = (k ≡ number) × (holds → ⊥)
BytesDiffer number holds fault = ⊥

-- why a file of a number isn't read; one over its limit differs
abbrev pub OverDiffers : Type 0 → FileName → ℕ → ℕ → Option (List ℕ) → RunFault → Type 0
OverDiffers known file number limit told WantOfMemory = Unit {0}
OverDiffers known file number limit told (ReadFault named) = named ≡ file
OverDiffers known file number limit told (Differs k) =
    (k ≡ number) × (known → IsOver limit told)
OverDiffers known file number limit told fault = ⊥

-- the same for a file of that number in a store
abbrev pub OverDiffersIn : StoreState → List ℕ → ℕ → Suffix → ℕ → RunFault → Type 0
OverDiffersIn store dir number suffix limit =
    OverDiffers (IsKnown store) (Sequence number suffix) number limit
    (store.files (file_name_of dir number suffix))

-- the files of a sequence are there in a store
abbrev pub AreFilesIn : StoreState → List ℕ → PublishedValue → Type 0
AreFilesIn store dir p = IsKnown store → AreFilesOf store.files dir p

-- why the files of a sequence aren't found to be there
abbrev pub CheckStops : Type 0 → List ℕ → Files → PublishedValue → RunFault → Type 0
CheckStops known dir files p WantOfMemory = Unit {0}
CheckStops known dir files p (ReadFault file) =
    (suffix : Suffix) × (file ≡ Sequence p.number suffix)
CheckStops known dir files p (Differs k) =
    (k ≡ p.number) × (known → AreFilesOf files dir p → ⊥)
CheckStops known dir files p fault = ⊥

-- the file at which no call was left: the state, the o5c file, then the OPL file
abbrev pub CheckOut : ℕ → Option ℕ → RunFault → Type 0
CheckOut number left (ReadFault file) =
    (count : ℕ) × (count < 3) × (left ≡ Some count)
    × (file ≡ file_read_after number (2 + count))
CheckOut number left (WriteFault file) = ⊥
CheckOut number left fault = Unit {0}

-- the sequence that is asked for
abbrev pub asked_for : Asked → PublishedValue
asked_for a = record { number = a.number; changes = a.batch; time = a.time }

-- the words were read
pub record AreReadWords (now sequence : List ℕ) (a : Asked) : Type 0 where
  pub now_is : TimeText now a.time
  pub number_is : SpellsSequence sequence a.number
  pub most : a.number ≤ max_sequence

-- what the words ask for was read, and the top state with it
abbrev pub IsAskedIn : StoreState → List ℕ → List ℕ → List ℕ → List ℕ → Asked → Type 0
IsAskedIn store dir changes now sequence a =
    IsKnown store
    → IsAsked dir changes now sequence store.files (from_top a.top).number (from_top a.top).time
    (asked_for a)

-- all that is to be written was made, or nothing is to be written
abbrev pub IsPrepared : Type 0 → List ℕ → Files → ℕ → ℕ → PublishedValue → Option Publication
    → Type 0
IsPrepared known dir files top time p None =
    (p.number < top) × (known → IsPublishedIn files dir top time p)
IsPrepared known dir files top time p (Some made) =
    (known → IsToWrite files dir top time p) × IsMadeOf dir p made

-- the same in a store, for the sequence that is asked for
abbrev pub IsPreparedIn : StoreState → List ℕ → Asked → Option Publication → Type 0
IsPreparedIn store dir a =
    IsPrepared (IsKnown store) dir store.files (from_top a.top).number (from_top a.top).time
    (asked_for a)

-- why nothing is made
abbrev pub PrepareStops : Type 0 → List ℕ → Files → ℕ → ℕ → PublishedValue → RunFault → Type 0
PrepareStops known dir files top time p WantOfMemory = Unit {0}
PrepareStops known dir files top time p (ReadFault file) =
    IsOld top time p × ((suffix : Suffix) × (file ≡ Sequence p.number suffix))
PrepareStops known dir files top time p (TooLarge file) =
    (file ≡ Changes) × (known → IsBigToWrite files dir top time p)
PrepareStops known dir files top time p TimeBack = IsEarly top time p
PrepareStops known dir files top time p (TopAt number) = IsFar number top time p
PrepareStops known dir files top time p (Differs number) =
    (number ≡ p.number) × (known → IsOther files dir top time p)
PrepareStops known dir files top time p fault = ⊥

-- the same in a store, for the sequence that is asked for
abbrev pub PrepareStopsIn : StoreState → List ℕ → Asked → RunFault → Type 0
PrepareStopsIn store dir a =
    PrepareStops (IsKnown store) dir store.files (from_top a.top).number (from_top a.top).time
    (asked_for a)

-- how many calls it takes to prepare a publication
abbrev pub check_calls : ℕ → ℕ → ℕ
check_calls number top = if number == top + 1 then 0 else 3

-- how many it takes for the sequence that is asked for
abbrev pub asked_calls : Asked → ℕ
asked_calls a = check_calls a.number (from_top a.top).number
