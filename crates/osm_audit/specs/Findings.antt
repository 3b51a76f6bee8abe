-- What an audit finds in the files of a folder, from a first number to a last one, in the order of
-- the numbers: numbers side by side of which no file is there, as one range, as long as it can be;
-- and of each other number each file that is wrong, once, with its cause.
use Rattle.std.specs.Prelude.{◌≡◌, ◌⊎◌, ℕ, suc, ◌+◌, ◌-◌, ◌<◌, ◌≤◌, List, [], ◌∷◌, ◌++◌, length}
use Rattle.std.specs.Prelude.{Contains, Option, Some, None}
use Rattle.osm_model.specs.Change.{ChangeValue}
use Rattle.osm_model.specs.Limits.{max_file}
use Rattle.osm_state.specs.declared.paths.Suffix.{Suffix}
use Rattle.osm_state.specs.declared.paths.Suffix.TheVariants.{O5c, Opl, State}
use Rattle.osm_store.specs.Files.{Files, IsOver}
use Rattle.osm_runs.specs.Folder.{IsStateFile, IsThere, max_state}
use Rattle.osm_runs.specs.Following.{NamesOther}
use Rattle.osm_runs.specs.Forms.{IsFaulty, spells_of}
use Rattle.osm_runs.specs.Names.{file_name_of, top_name_of}
use Rattle.osm_runs.specs.Folder.{IsBadState}
use Rattle.osm_runs.specs.declared.fault.FileName.{FileName}
use Rattle.osm_runs.specs.declared.fault.FileName.TheVariants.{Top, Sequence}
use Rattle.osm_runs.specs.declared.form.Form.{Form}
use Rattle.osm_runs.specs.declared.form.Form.TheVariants as forms
use Rattle.osm_audit.specs.declared.finding.Cause.{Cause}
use Rattle.osm_audit.specs.declared.finding.Cause.TheVariants.{Absent, TooLarge, BadState, Mismatch}
use Rattle.osm_audit.specs.declared.finding.Cause.TheVariants.{TimeBack, BadChange, Differs}
use Rattle.osm_audit.specs.declared.finding.Finding.{Finding}
use Rattle.osm_audit.specs.declared.finding.Found.{Found}
use Rattle.osm_audit.specs.declared.finding.Found.TheVariants.{Numbers, File}

-- the bytes are a file of that form, with those changes
abbrev pub HasChanges : Form → List ChangeValue → List ℕ → Type 0
HasChanges form changes bytes = (length bytes ≤ max_file) × spells_of form bytes changes

-- the number before is one of the range too, and its state has a later time
pub record Falls (files : Files) (dir : List ℕ) (from number time : ℕ) : Type 0 where
  pub within : from < number
  pub before : ℕ
  pub there : IsThere (files (file_name_of dir (number - 1) State))
      (IsStateFile (number - 1) before)
  pub later : time < before

-- the changes are there in one form at least, and as an o5c file, if it is there, can be read
abbrev pub IsO5cRight : Option (List ℕ) → Option (List ℕ) → Type 0
IsO5cRight None None = ⊥
IsO5cRight None (Some bytes) = Unit {0}
IsO5cRight (Some bytes) opl = (changes : List ChangeValue) × HasChanges forms.O5c changes bytes

-- why an o5c file, beside an OPL file, is wrong
abbrev pub IsO5cWrong : Option (List ℕ) → Option (List ℕ) → Cause → Type 0
IsO5cWrong o5c opl Absent = (o5c ≡ None) × (opl ≡ None)
IsO5cWrong o5c opl TooLarge = IsOver max_file o5c
IsO5cWrong o5c opl (BadChange place why) = IsThere o5c (λ bytes. IsFaulty forms.O5c bytes place)
IsO5cWrong o5c opl cause = ⊥

-- the OPL file, if it is there, can be read, and has the changes of the o5c file, in their order
abbrev pub IsOplRight : Option (List ℕ) → Option (List ℕ) → Type 0
IsOplRight o5c None = Unit {0}
IsOplRight o5c (Some bytes) =
    (changes : List ChangeValue) × HasChanges forms.Opl changes bytes
    × ((others : List ChangeValue) → IsThere o5c (HasChanges forms.O5c others) → others ≡ changes)

-- why an OPL file, beside an o5c file, is wrong
abbrev pub IsOplWrong : Option (List ℕ) → Option (List ℕ) → Cause → Type 0
IsOplWrong o5c opl TooLarge = IsOver max_file opl
IsOplWrong o5c opl (BadChange place why) = IsThere opl (λ bytes. IsFaulty forms.Opl bytes place)
IsOplWrong o5c opl Differs =
    (others changes : List ChangeValue) × IsThere o5c (HasChanges forms.O5c others)
    × IsThere opl (HasChanges forms.Opl changes) × (others ≡ changes → ⊥)
IsOplWrong o5c opl cause = ⊥

-- nothing is wrong with a number's file of that kind: the state is the number's, and its time not
-- below that of the number before; the change files are right
abbrev pub IsRight : Files → List ℕ → ℕ → ℕ → Suffix → Type 0
IsRight files dir from number State =
    (time : ℕ) × IsThere (files (file_name_of dir number State)) (IsStateFile number time)
    × (Falls files dir from number time → ⊥)
IsRight files dir from number O5c =
    IsO5cRight (files (file_name_of dir number O5c)) (files (file_name_of dir number Opl))
IsRight files dir from number Opl =
    IsOplRight (files (file_name_of dir number O5c)) (files (file_name_of dir number Opl))

-- why a number's file of that kind is wrong
abbrev pub IsWrong : Files → List ℕ → ℕ → ℕ → Suffix → Cause → Type 0
IsWrong files dir from number State Absent = files (file_name_of dir number State) ≡ None
IsWrong files dir from number State TooLarge =
    IsOver max_state (files (file_name_of dir number State))
IsWrong files dir from number State (BadState cause) =
    IsBadState (files (file_name_of dir number State)) cause
IsWrong files dir from number State Mismatch =
    NamesOther (files (file_name_of dir number State)) number
IsWrong files dir from number State TimeBack =
    (time : ℕ) × IsThere (files (file_name_of dir number State)) (IsStateFile number time)
    × Falls files dir from number time
IsWrong files dir from number State cause = ⊥
IsWrong files dir from number O5c cause =
    IsO5cWrong (files (file_name_of dir number O5c)) (files (file_name_of dir number Opl)) cause
IsWrong files dir from number Opl cause =
    IsOplWrong (files (file_name_of dir number O5c)) (files (file_name_of dir number Opl)) cause

-- the cause for which a number's file is wrong, or none if it is right
abbrev pub IsSaid : Files → List ℕ → ℕ → ℕ → Suffix → Option Cause → Type 0
IsSaid files dir from number suffix None = IsRight files dir from number suffix
IsSaid files dir from number suffix (Some cause) = IsWrong files dir from number suffix cause

-- no file of a number is there
pub record IsLost (files : Files) (dir : List ℕ) (number : ℕ) : Type 0 where
  pub state : files (file_name_of dir number State) ≡ None
  pub o5c : files (file_name_of dir number O5c) ≡ None
  pub opl : files (file_name_of dir number Opl) ≡ None

-- a cause as a finding, and no cause as none
abbrev pub noted : ℕ → FileName → Option Cause → List Found
noted number file None = []
noted number file (Some cause) =
    File (record { number = number; file = file; cause = cause }) ∷ []

-- the findings of a number that has a file: of its state, its o5c file and its OPL file
pub record AreOfNumber (files : Files) (dir : List ℕ) (from number : ℕ) (found : List Found) :
    Type 0 where
  pub there : IsLost files dir number → ⊥
  pub state : Option Cause
  pub o5c : Option Cause
  pub opl : Option Cause
  pub state_said : IsSaid files dir from number State state
  pub o5c_said : IsSaid files dir from number O5c o5c
  pub opl_said : IsSaid files dir from number Opl opl
  pub found_are : found ≡ noted number (Sequence number State) state
      ++ (noted number (Sequence number O5c) o5c ++ noted number (Sequence number Opl) opl)

-- no file of the numbers from the first one to the last one is there
abbrev pub AreLost : Files → List ℕ → ℕ → ℕ → Type 0
AreLost files dir first last = (k : ℕ) → first ≤ k → k ≤ last → IsLost files dir k

-- a number is the first of the range, or the one before it has a file
abbrev pub Begins : Files → List ℕ → ℕ → ℕ → Type 0
Begins files dir from number = from < number → IsLost files dir (number - 1) → ⊥

-- the findings of the numbers from a first one up to the one before `next`: of numbers side by side
-- of which no file is there one range, before and after which a number has a file
pub data AreOfNumbers (files : Files) (dir : List ℕ) (from : ℕ) : ℕ → List Found → Type 0 where
  of_none : AreOfNumbers files dir from from []
  of_number : (number : ℕ) (earlier last : List Found) → AreOfNumbers files dir from number earlier
      → AreOfNumber files dir from number last
      → AreOfNumbers files dir from (suc number) (earlier ++ last)
  of_range : (first last : ℕ) (earlier : List Found) → AreOfNumbers files dir from first earlier
      → Begins files dir from first → first ≤ last → AreLost files dir first last
      → AreOfNumbers files dir from (suc last) (earlier ++ Numbers first last ∷ [])

-- the newest state is that of the last number, which has a state of its own with another time
pub record IsOtherTop (files : Files) (dir : List ℕ) (from to : ℕ) : Type 0 where
  pub some : from ≤ to
  pub top : ℕ
  pub own : ℕ
  pub top_is : IsThere (files (top_name_of dir)) (IsStateFile to top)
  pub own_is : IsThere (files (file_name_of dir to State)) (IsStateFile to own)
  pub other : top ≡ own → ⊥

-- the cause for which the newest state is wrong, or none if it is right
abbrev pub IsTopSaid : Files → List ℕ → ℕ → ℕ → Option Cause → Type 0
IsTopSaid files dir from to None = IsOtherTop files dir from to → ⊥
IsTopSaid files dir from to (Some Differs) = IsOtherTop files dir from to
IsTopSaid files dir from to (Some cause) = ⊥

-- the findings of a folder from a first number to a last one: those of the numbers, and then of the
-- newest state
pub record AreFindings (files : Files) (dir : List ℕ) (from to : ℕ) (found : List Found) :
    Type 0 where
  pub numbers : List Found
  pub top : Option Cause
  pub numbers_are : AreOfNumbers files dir from (to + 1) numbers
  pub top_said : IsTopSaid files dir from to top
  pub found_are : found ≡ numbers ++ noted to Top top

-- a finding of a number is true: its file is one of that number, which is in the range and has a
-- file, and it is wrong for that cause
pub record IsOfNumber (files : Files) (dir : List ℕ) (from to : ℕ) (f : Finding) : Type 0 where
  pub suffix : Suffix
  pub file_is : f.file ≡ Sequence f.number suffix
  pub low : from ≤ f.number
  pub high : f.number ≤ to
  pub there : IsLost files dir f.number → ⊥
  pub wrong : IsWrong files dir from f.number suffix f.cause

-- a finding of the newest state is true
pub record IsOfTop (files : Files) (dir : List ℕ) (from to : ℕ) (f : Finding) : Type 0 where
  pub number_is : f.number ≡ to
  pub file_is : f.file ≡ Top
  pub cause_is : f.cause ≡ Differs
  pub wrong : IsOtherTop files dir from to

-- a range is true: it is within that of the audit, no file of its numbers is there, and it is as
-- long as it can be
pub record IsOfRange (files : Files) (dir : List ℕ) (from to first last : ℕ) : Type 0 where
  pub low : from ≤ first
  pub some : first ≤ last
  pub high : last ≤ to
  pub lost : AreLost files dir first last
  pub begins : Begins files dir from first
  pub ends : last < to → IsLost files dir (last + 1) → ⊥

-- a finding is true
abbrev pub IsTrueFinding : Files → List ℕ → ℕ → ℕ → Found → Type 0
IsTrueFinding files dir from to (Numbers first last) = IsOfRange files dir from to first last
IsTrueFinding files dir from to (File f) =
    IsOfNumber files dir from to f ⊎ IsOfTop files dir from to f

-- a file is named by a finding
abbrev pub IsFound : List Found → FileName → Type 0
IsFound found file = (f : Finding) × Contains found (File f) × (f.file ≡ file)

-- a number is in a range of which no file is there
abbrev pub IsInRange : List Found → ℕ → Type 0
IsInRange found number =
    (first last : ℕ) × Contains found (Numbers first last) × (first ≤ number) × (number ≤ last)
