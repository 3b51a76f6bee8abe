-- Reading the files of a number.
use Rattle.std.proofs.Common.{◌≡◌, ℕ, ◌≤◌, List, length, Option, Some, refl}
use Rattle.osm_model.specs.Change.{ChangeValue}
use Rattle.osm_model.specs.Limits.{max_file}
use Rattle.osm_state.specs.declared.paths.Suffix.TheVariants.{O5c, Opl, State}
use Rattle.osm_publisher.specs.Published.{PublishedValue}
use Rattle.osm_store.specs.Files.{Files}
use Rattle.osm_runs.specs.Folder.{IsStateFile, IsThere, max_state}
use Rattle.osm_runs.specs.Following.{AreChanges, HasFiles, HasState, IsOnward, NumberStops, size_in}
use Rattle.osm_runs.specs.Forms.{place_of, spells_of}
use Rattle.osm_runs.specs.Names.{file_name_of}
use Rattle.osm_runs.specs.Steps.Following.{DeliverStops, IsFetched, IsFileOf, StateTextStops}
use Rattle.osm_runs.specs.Forms.{suffix_of}
use Rattle.osm_runs.specs.declared.fault.FileName.TheVariants.{Sequence}
use Rattle.osm_runs.specs.declared.fault.RunFault.{RunFault}
use Rattle.osm_runs.specs.declared.fault.RunFault.TheVariants.{WantOfMemory, BadState, BadChange, Mismatch, OlderNumber}
use Rattle.osm_runs.specs.declared.form.Form.{Form}
use Rattle.osm_runs.specs.declared.form.Form.TheVariants as forms

-- the text of a state that isn't the number's, or has an earlier time
pub state_text_stops : (known : Type 0) (dir : List ℕ) (files : Files) (before : Option ℕ) (number : ℕ) (text : List ℕ) (fault : RunFault)
    → (known → files (file_name_of dir number State) ≡ Some text) → length text ≤ max_state
    → StateTextStops text before number fault → NumberStops known dir files before number fault
state_text_stops known dir files before number text (BadState (Sequence k State) cause) there small h =
    (h.0, λ yes. record { bytes = text; there = there yes; small = small; fault = h.1 })
state_text_stops known dir files before number text (Mismatch k) there small h = (h.0, λ yes. (h.1.0, h.1.1, h.1.2, rw (there yes) h.1.3))
state_text_stops known dir files before number text (OlderNumber k) there small h = (h.0, λ yes. (h.1.0, h.1.1, rw (there yes) h.1.2))
state_text_stops known dir files before number text fault there small h = absurd h

-- the state that was read
pub has_state : (known : Type 0) (dir : List ℕ) (files : Files) (before : Option ℕ) (number time : ℕ)
    → (known → IsThere (files (file_name_of dir number State)) (IsStateFile number time)) → IsOnward before time → known
    → HasState files dir before number
has_state known dir files before number time there onward sure = (time, there sure, onward)

-- bytes that aren't delivered
pub deliver_stops : (known : Type 0) (dir : List ℕ) (files : Files) (before : Option ℕ) (number time : ℕ) (form : Form)
    (changes : List ℕ) (fault : RunFault) → IsFetched known files dir before number time form changes
    → DeliverStops (spells_of form) (place_of form) changes (Sequence number (suffix_of form)) fault
    → NumberStops known dir files before number fault
deliver_stops known dir files before number time form changes WantOfMemory has h = tt
deliver_stops known dir files before number time forms.O5c changes (BadChange file place why) has h =
    rw h.0 (
      refl,
      λ yes. (
        has_state known dir files before number time has.state_is has.onward yes,
        rw (has.changes_are yes) (record { small = has.small; nothing = h.1; is_place = h.2 }),
      ),
    )
deliver_stops known dir files before number time forms.Opl changes (BadChange file place why) has h =
    rw h.0 (
      refl,
      λ yes. (
        (has_state known dir files before number time has.state_is has.onward yes, (has.changes_are yes).0),
        rw (has.changes_are yes).1 (record { small = has.small; nothing = h.1; is_place = h.2 }),
      ),
    )
deliver_stops known dir files before number time form changes fault has h = absurd h

has_changes : (files : Files) (dir : List ℕ) (number : ℕ) (form : Form) (bytes : List ℕ) (p : PublishedValue)
    → length bytes ≤ max_file → spells_of form bytes p.changes → IsFileOf form (files (file_name_of dir number O5c))
    (files (file_name_of dir number Opl)) bytes → AreChanges (files (file_name_of dir number O5c))
    (files (file_name_of dir number Opl)) p
has_changes files dir number forms.O5c bytes p small spelled is = rw is (small, spelled)
has_changes files dir number forms.Opl bytes p small spelled is = rw (is.0, is.1) (small, spelled)

pub has_files : (known : Type 0) (dir : List ℕ) (files : Files) (before : Option ℕ) (number time : ℕ) (form : Form) (bytes : List ℕ)
    (changes : List ChangeValue) → IsFetched known files dir before number time form bytes → spells_of form bytes changes → known
    → HasFiles files dir (record { number = number; changes = changes; time = time })
has_files known dir files before number time form bytes changes has spelled sure = record {
  state = has.state_is sure;
  changes = has_changes files dir number form bytes (record { number = number; changes = changes; time = time })
      has.small spelled (has.changes_are sure);
}

-- how many bytes the file that was read has
pub size_is : (form : Form) (o5c opl : Option (List ℕ)) (bytes : List ℕ) → IsFileOf form o5c opl bytes → length bytes ≡ size_in o5c opl
size_is forms.O5c o5c opl bytes is = rw is refl
size_is forms.Opl o5c opl bytes is = rw (is.0, is.1) refl
