-- Reading the files of a number, and making a save. `known` says that it is known what the files
-- hold, and a word that ends in `In` takes the state of a store in place of `known` and the files.
use Rattle.std.specs.Prelude.{◌≡◌, ℕ, ◌+◌, ◌<◌, ◌≤◌, Bool, true, List, length}
use Rattle.std.specs.Prelude.{suc, filter, MatchOption, Option, Some, None, Vec}
use Rattle.osm_model.specs.ChangeForm.{SpellsNothing}
use Rattle.osm_model.specs.Limits.{IsPositive, max_file}
use Rattle.osm_state.specs.StateFault.{FaultOf}
use Rattle.osm_state.specs.declared.paths.Suffix.{Suffix}
use Rattle.osm_state.specs.declared.paths.Suffix.TheVariants as suffixes
use Rattle.osm_follow.specs.Delivery.{FaultPlaces, Spelling}
use Rattle.osm_follow.specs.Reach.{numbers}
use Rattle.osm_store.specs.Files.{Files}
use Rattle.osm_store.specs.Frames.{IsKnown, StoreState}
use Rattle.osm_runs.specs.Folder.{IsStateFile, IsThere}
use Rattle.osm_runs.specs.Following.{IsEarlier, IsLookedFor, IsOnward}
use Rattle.osm_runs.specs.Following.{IsReached, is_lost}
use Rattle.osm_runs.specs.Forms.{place_of, spells_of, suffix_of}
use Rattle.osm_runs.specs.Names.{file_name_of}
use Rattle.osm_runs.specs.declared.fault.FileName.{FileName}
use Rattle.osm_runs.specs.declared.fault.FileName.TheVariants.{Sequence}
use Rattle.osm_runs.specs.declared.fault.RunFault.{RunFault}
use Rattle.osm_runs.specs.declared.fault.RunFault.TheVariants.{WantOfMemory, ReadFault}
use Rattle.osm_runs.specs.declared.fault.RunFault.TheVariants.{BadState}
use Rattle.osm_runs.specs.declared.fault.RunFault.TheVariants.{BadChange, Mismatch, OlderNumber}
use Rattle.osm_runs.specs.declared.fetch.Fetched.{Fetched}
use Rattle.osm_runs.specs.declared.form.Form.{Form}
use Rattle.osm_runs.specs.declared.form.Form.TheVariants.{Opl, O5c}

-- why a text isn't the state of a number after a number of that time
abbrev pub StateTextStops : List ℕ → Option ℕ → ℕ → RunFault → Type 0
StateTextStops text before number (BadState (Sequence k suffixes.State) cause) =
    (k ≡ number) × FaultOf text cause
StateTextStops text before number (Mismatch k) =
    (k ≡ number) × ((other time : ℕ) × (other ≡ number → ⊥) × IsStateFile other time text)
StateTextStops text before number (OlderNumber k) =
    (k ≡ number) × ((time : ℕ) × IsEarlier before time × IsStateFile number time text)
StateTextStops text before number fault = ⊥

-- the state of a number was read, and names that time, which isn't before that of the number before
abbrev pub IsStateRead : Type 0 → Option (List ℕ) → Option ℕ → ℕ → Option ℕ → Type 0
IsStateRead known told before number None = known → told ≡ None
IsStateRead known told before number (Some time) =
    IsPositive time × (known → IsThere told (IsStateFile number time)) × IsOnward before time

-- the same in a store
abbrev pub IsStateReadIn : StoreState → List ℕ → Option ℕ → ℕ → Option ℕ → Type 0
IsStateReadIn store dir before number = IsStateRead (IsKnown store)
    (store.files (file_name_of dir number suffixes.State)) before number

-- the bytes are those of the change file that is read
abbrev pub IsFileOf : Form → Option (List ℕ) → Option (List ℕ) → List ℕ → Type 0
IsFileOf O5c o5c opl bytes = o5c ≡ Some bytes
IsFileOf Opl o5c opl bytes = (o5c ≡ None) × (opl ≡ Some bytes)

-- the changes of a number were read
abbrev pub AreChangesRead : {Z : Type 0} → Type 0 → Option (List ℕ) → Option (List ℕ)
    → Option (Form × Vec ℕ Z) → Type 0
AreChangesRead known o5c opl None = known → (o5c ≡ None) × (opl ≡ None)
AreChangesRead known o5c opl (Some file) =
    (length file.1.items ≤ max_file) × (known → IsFileOf file.0 o5c opl file.1.items)

-- the same in a store
abbrev pub AreChangesReadIn : {Z : Type 0} → StoreState → List ℕ → ℕ → Option (Form × Vec ℕ Z)
    → Type 0
AreChangesReadIn store dir number =
    AreChangesRead (IsKnown store) (store.files (file_name_of dir number suffixes.O5c))
    (store.files (file_name_of dir number suffixes.Opl))

-- the time of a number's state, and the bytes of its changes
pub record IsFetched (known : Type 0) (files : Files) (dir : List ℕ) (before : Option ℕ)
    (number time : ℕ) (form : Form) (changes : List ℕ) : Type 0 where
  pub positive : IsPositive time
  pub onward : IsOnward before time
  pub small : length changes ≤ max_file
  pub state_is : known
      → IsThere (files (file_name_of dir number suffixes.State)) (IsStateFile number time)
  pub changes_are : known → IsFileOf form (files (file_name_of dir number suffixes.O5c))
      (files (file_name_of dir number suffixes.Opl)) changes

-- what the files of a number in a store give: its time and its changes, or none if it is lost
abbrev pub FetchesIn : StoreState → List ℕ → Option ℕ → ℕ → Option Fetched → Type 0
FetchesIn store dir before number o =
    MatchOption o (IsKnown store → is_lost store.files dir number ≡ true)
    (λ a. IsFetched (IsKnown store) store.files dir before number a.time a.form a.changes.items)

-- why bytes aren't delivered
abbrev pub DeliverStops : Spelling → FaultPlaces → List ℕ → FileName → RunFault → Type 0
DeliverStops spells fault_place bytes file WantOfMemory = Unit {0}
DeliverStops spells fault_place bytes file (BadChange named place why) =
    (named ≡ file) × SpellsNothing spells bytes × fault_place bytes place
DeliverStops spells fault_place bytes file fault = ⊥

-- why the bytes of a change file of a number aren't delivered
abbrev pub FormStops : ℕ → Form → List ℕ → RunFault → Type 0
FormStops number form bytes =
    DeliverStops (spells_of form) (place_of form) bytes (Sequence number (suffix_of form))

-- the answer is whether the number is lost
abbrev pub TellsIfLost : StoreState → List ℕ → ℕ → Bool → Type 0
TellsIfLost store dir number lost = IsKnown store → lost ≡ is_lost store.files dir number

-- why a number isn't looked for
abbrev pub LookStops : Type 0 → List ℕ → Files → ℕ → RunFault → Type 0
LookStops known dir files number WantOfMemory = Unit {0}
LookStops known dir files number (ReadFault (Sequence k suffix)) =
    (k ≡ number) × (known → IsLookedFor files dir number suffix)
LookStops known dir files number fault = ⊥

-- the same in a store
abbrev pub LookStopsIn : StoreState → List ℕ → ℕ → RunFault → Type 0
LookStopsIn store dir number = LookStops (IsKnown store) dir store.files number

-- the lost ones of the numbers after the one that was reached are named, up to the last one
pub record AreNamed (known : Type 0) (files : Files) (dir : List ℕ) (reached top last : ℕ)
    (missing : List ℕ) : Type 0 where
  pub count : ℕ
  pub last_is : last ≡ reached + suc count
  pub some : 0 < length missing
  pub named : known → IsReached files dir reached top
      → missing ≡ filter (is_lost files dir) (numbers reached (suc count))
