-- Comparing files of changes.
use Rattle.std.proofs.Common.{◌≡◌, ℕ, List, Option, Some, None}
use Rattle.osm_publisher.specs.Published.{PublishedValue}
use Rattle.osm_o5c.proofs.FrontLemmas as o5c_file
use Rattle.osm_opl.proofs.FileLaws as opl_file
use Rattle.osm_state.specs.declared.paths.Suffix.TheVariants.{O5c, Opl}
use Rattle.osm_store.specs.Files.{Files}
use Rattle.osm_runs.specs.Folder.{IsAbsentOr, IsFile}
use Rattle.osm_runs.specs.Forms.{spells_of}
use Rattle.osm_runs.specs.Names.{file_name_of}
use Rattle.osm_publishing.specs.Steps.Numbering.{CheckStops, FileDiffers, HoldsChanges}
use Rattle.osm_runs.specs.declared.fault.FileName.TheVariants.{Sequence}
use Rattle.osm_runs.specs.declared.fault.RunFault.{RunFault}
use Rattle.osm_runs.specs.declared.fault.RunFault.TheVariants.{WantOfMemory, ReadFault, Differs}
use Rattle.osm_runs.specs.declared.form.Form.{Form}
use Rattle.osm_runs.specs.declared.form.Form.TheVariants as forms
use Rattle.osm_model.specs.Change.{ChangeValue}

-- bytes hold the changes of one batch
pub one_batch : (form : Form) (bytes : List ℕ) (a b : List ChangeValue) → spells_of form bytes a → spells_of form bytes b → a ≡ b
one_batch forms.Opl bytes a b p q = opl_file.one_batch bytes a b p q
one_batch forms.O5c bytes a b p q = o5c_file.one_batch bytes a b p q

o5c_of : (told : Option (List ℕ)) (p : PublishedValue) → IsAbsentOr told (IsFile O5c p) → IsAbsentOr told (HoldsChanges forms.O5c p.changes)
o5c_of None p h = tt
o5c_of (Some bytes) p h = h

opl_of : (told : Option (List ℕ)) (p : PublishedValue) → IsAbsentOr told (IsFile Opl p) → IsAbsentOr told (HoldsChanges forms.Opl p.changes)
opl_of None p h = tt
opl_of (Some bytes) p h = h

pub o5c_stops : (known : Type 0) (dir : List ℕ) (files : Files) (p : PublishedValue) (fault : RunFault)
    → FileDiffers known (Sequence p.number O5c) p.number (IsAbsentOr (files (file_name_of dir p.number O5c))
    (HoldsChanges forms.O5c p.changes)) fault → CheckStops known dir files p fault
o5c_stops known dir files p WantOfMemory h = tt
o5c_stops known dir files p (ReadFault file) h = (O5c, h)
o5c_stops known dir files p (Differs k) h = (h.0, λ yes are. h.1 yes (o5c_of (files (file_name_of dir p.number O5c)) p are.o5c))
o5c_stops known dir files p fault h = absurd h

pub opl_stops : (known : Type 0) (dir : List ℕ) (files : Files) (p : PublishedValue) (fault : RunFault)
    → FileDiffers known (Sequence p.number Opl) p.number (IsAbsentOr (files (file_name_of dir p.number Opl))
    (HoldsChanges forms.Opl p.changes)) fault → CheckStops known dir files p fault
opl_stops known dir files p WantOfMemory h = tt
opl_stops known dir files p (ReadFault file) h = (Opl, h)
opl_stops known dir files p (Differs k) h = (h.0, λ yes are. h.1 yes (opl_of (files (file_name_of dir p.number Opl)) p are.opl))
opl_stops known dir files p fault h = absurd h
