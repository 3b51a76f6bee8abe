-- Beginning a save from a data file and the state that belongs to it. `known` says that it is known
-- what the files hold, and `given` is the filter that the run was given.
use Rattle.std.specs.Prelude.{◌≡◌, ℕ, ◌+◌, ◌*◌, ◌<◌, ◌≤◌, ◌⊎◌, List, [], ◌∷◌, length, Option}
use Rattle.std.specs.Prelude.{Bool, false, None, Some, max}
use Rattle.osm_model.specs.Change.{ChangeValue}
use Rattle.osm_model.specs.ChangeForm.{SpellsNothing}
use Rattle.osm_model.specs.Content.{content_of}
use Rattle.osm_model.specs.Filter.{FilterValue}
use Rattle.osm_model.specs.declared.kind.Key.{Key}
use Rattle.osm_mirror.specs.Mirror.{object_at}
use Rattle.osm_save.specs.Save.{SpellsSave, save_text}
use Rattle.osm_save.specs.declared.save.Saved.{Saved}
use Rattle.osm_save.specs.declared.version.Version.TheVariants.{Three}
use Rattle.osm_state.specs.State.{StateValue}
use Rattle.osm_follow.specs.Begin.{kept_objects}
use Rattle.osm_publisher.specs.Published.{PublishedValue, changes_up_to, sequence_at}
use Rattle.osm_runs.specs.DataForms.{HasNoDataForm, place_of_data, spells_data}
use Rattle.osm_runs.specs.DataForms.{HasDataForm}
use Rattle.osm_runs.specs.declared.data_form.DataForm.{DataForm}
use Rattle.osm_runs.specs.declared.data_form.DataForm.TheVariants as forms
use Rattle.osm_blocks.specs.Places.{IsHuge}
use Rattle.osm_data.specs.Reading.{read_calls}
use Rattle.osm_data.specs.LongDatasets.{HasLong}
use Rattle.osm_data.specs.OplReading.{HasLongLine}
use Rattle.osm_store.specs.Files.{Files, IsOver}
use Rattle.osm_runs.specs.Folder.{IsStateFile, IsThere, max_state}
use Rattle.osm_runs.specs.Folder.{IsBadState}
use Rattle.osm_runs.specs.declared.fault.FileName.TheVariants.{Base, Save, State}
use Rattle.osm_runs.specs.declared.fault.RunFault.{RunFault}
use Rattle.osm_runs.specs.declared.fault.RunFault.TheVariants.{WantOfMemory, ReadFault}
use Rattle.osm_runs.specs.declared.fault.RunFault.TheVariants.{WriteFault, TooLarge, Absent}
use Rattle.osm_runs.specs.declared.fault.RunFault.TheVariants.{BadState, BadChange}
use Rattle.osm_runs.specs.declared.fault.RunFault.TheVariants.{UnknownForm, ZeroBase}
use Rattle.osm_runs.specs.declared.fault.RunFault.TheVariants.{Changed, OlderState}

-- the newest time of those objects; 0 if there are none
abbrev pub newest_time : List ChangeValue → ℕ
newest_time [] = 0
newest_time (c ∷ cs) = max c.meta.time (newest_time cs)

-- how many seconds the newest object may be after the state: those of eight days
abbrev pub most_after : ℕ
most_after = 691200

-- what a beginning saves: its number, its base and its time are the state's, its objects those of
-- the data file that the filter keeps, and no edits are counted
abbrev pub begun_save : FilterValue → StateValue → List ChangeValue → Saved
begun_save given s objects = record {
  number = s.sequence;
  base = s.sequence;
  time = Some s.time;
  filter = given;
  mirror = record { objects = kept_objects given objects; users = []; changesets = [] };
}

-- the state file is there, and names a sequence to begin at
pub record IsStart (told : Option (List ℕ)) (s : StateValue) : Type 0 where
  pub there : IsThere told (IsStateFile s.sequence s.time)
  pub above : 0 < s.sequence

-- the data file is there, and spells those objects in the form of its name
pub record IsBase (base : List ℕ) (told : Option (List ℕ)) (objects : List ChangeValue) :
    Type 0 where
  pub named : HasDataForm base
  pub bytes : List ℕ
  pub there : told ≡ Some bytes
  pub spelled : spells_data named.form bytes objects

-- the text to save was made of the state and the data file, in version 3
pub record IsBeginning (given : FilterValue) (base state : List ℕ) (files : Files) (s : StateValue)
    (text : List ℕ) : Type 0 where
  pub start : IsStart (files state) s
  pub objects : List ChangeValue
  pub base_is : IsBase base (files base) objects
  pub spelled : SpellsSave text (begun_save given s objects)
  pub text_is : text ≡ save_text Three (begun_save given s objects)

-- no object of the data file, kept or not, is more than eight days after the state
pub record IsTimely (base state : List ℕ) (files : Files) : Type 0 where
  pub s : StateValue
  pub start : IsStart (files state) s
  pub objects : List ChangeValue
  pub base_is : IsBase base (files base) objects
  pub within : newest_time objects ≤ s.time + most_after

-- the newest object of the data file, kept or not, is more than eight days after the state. These
-- are the two times
pub record IsOlder (base state : List ℕ) (files : Files) (time newest : ℕ) : Type 0 where
  pub s : StateValue
  pub start : IsStart (files state) s
  pub time_is : s.time ≡ time
  pub objects : List ChangeValue
  pub base_is : IsBase base (files base) objects
  pub newest_is : newest_time objects ≡ newest
  pub after : time + most_after < newest

-- the data file holds exactly the objects that published sequences 1 to the number leave, and the
-- state is that of the number
pub record IsBaseOf (published : List PublishedValue) (number : ℕ) (base state : List ℕ)
    (files : Files) : Type 0 where
  pub above : 0 < number
  pub within : number ≤ length published
  pub start : IsThere (files state) (IsStateFile number (sequence_at published number).time)
  pub objects : List ChangeValue
  pub base_is : IsBase base (files base) objects
  pub content : (k : Key) → object_at objects k ≡ content_of (changes_up_to published number) k

-- the state names the empty start
abbrev pub IsZeroState : Option (List ℕ) → Type 0
IsZeroState told = (time : ℕ) × IsThere told (IsStateFile 0 time)

-- the state was read
abbrev pub HasStart : List ℕ → Files → Type 0
HasStart state files = (s : StateValue) × IsStart (files state) s

-- the data file spells nothing in the form of its name, and goes wrong at that place
pub record IsBadBase (base : List ℕ) (told : Option (List ℕ)) (place : ℕ) : Type 0 where
  pub named : HasDataForm base
  pub bytes : List ℕ
  pub there : told ≡ Some bytes
  pub nothing : SpellsNothing (spells_data named.form) bytes
  pub place_is : place_of_data named.form bytes place

-- the bytes have a line or a dataset of more than 64 MiB, as that form defines it
abbrev pub is_long_data : DataForm → List ℕ → Type 0
is_long_data forms.Opl = HasLongLine
is_long_data forms.O5m = HasLong

-- the data file has such a part in the form of its name, or more bytes than 64 bits count
pub record IsLargeBase (base : List ℕ) (told : Option (List ℕ)) : Type 0 where
  pub named : HasDataForm base
  pub bytes : List ℕ
  pub there : told ≡ Some bytes
  pub large : is_long_data named.form bytes ⊎ IsHuge bytes

-- the most objects that a save text can have
abbrev pub most_kept : ℕ
most_kept = 999999999999999999

-- everything was read, and this holds of the number of the objects that the filter keeps
pub record HasBegun (given : FilterValue) (base state : List ℕ) (files : Files)
    (holds : ℕ → Type 0) : Type 0 where
  pub s : StateValue
  pub start : IsStart (files state) s
  pub objects : List ChangeValue
  pub base_is : IsBase base (files base) objects
  pub many : holds (length (kept_objects given objects))

-- why nothing begins: the name of the data file first, then the state, then the data file, then the
-- save; and after all of these, unless any time is taken, a state that is older than the data file
abbrev pub BeginStops : Type 0 → Bool → FilterValue → List ℕ → List ℕ → Files → RunFault → Type 0
BeginStops known any_time given base state files UnknownForm = HasNoDataForm base
BeginStops known any_time given base state files WantOfMemory = HasDataForm base
BeginStops known any_time given base state files (ReadFault State) = HasDataForm base
BeginStops known any_time given base state files (Absent State) =
    HasDataForm base × (known → files state ≡ None)
BeginStops known any_time given base state files (TooLarge State) =
    HasDataForm base × (known → IsOver max_state (files state))
BeginStops known any_time given base state files (BadState State cause) =
    HasDataForm base × (known → IsBadState (files state) cause)
BeginStops known any_time given base state files ZeroBase =
    HasDataForm base × (known → IsZeroState (files state))
BeginStops known any_time given base state files (ReadFault Base) =
    HasDataForm base × (known → HasStart state files)
BeginStops known any_time given base state files (Absent Base) =
    HasDataForm base × (known → HasStart state files × (files base ≡ None))
BeginStops known any_time given base state files (TooLarge Base) =
    HasDataForm base × (known → HasStart state files × IsLargeBase base (files base))
BeginStops known any_time given base state files (BadChange Base place why) =
    known → HasStart state files × IsBadBase base (files base) place
BeginStops known any_time given base state files (Changed Base) = known → ⊥
BeginStops known any_time given base state files (TooLarge Save) =
    known → HasBegun given base state files (λ many. most_kept < many)
BeginStops known any_time given base state files (WriteFault Save) =
    known → HasBegun given base state files (λ many. many ≤ most_kept)
BeginStops known any_time given base state files (OlderState time newest) =
    (any_time ≡ false) × HasDataForm base × (known → IsOlder base state files time newest)
BeginStops known any_time given base state files fault = ⊥

-- what a beginning from the export of a save gives: its number and time, those of its objects that
-- the filter keeps, that number as the base, and no counts
abbrev pub handed_on : FilterValue → Saved → Saved
handed_on given v = record {
  number = v.number;
  base = v.number;
  time = v.time;
  filter = given;
  mirror = record { objects = kept_objects given v.mirror.objects; users = []; changesets = [] };
}

-- the most calls of a beginning with a data file of so many bytes: that file is read twice, with
-- each read an append at most, so one for each byte, and six more: the state, `begin`, the lines
-- before the objects, those after them, the bytes that wait at the end, and `commit`
abbrev pub begin_calls : ℕ → ℕ
begin_calls bytes = 2 * read_calls bytes + bytes + 6
