-- Exporting the objects of what a save and the journal beside it keep. `known` says that it is
-- known what the files hold.
use Rattle.std.specs.Prelude.{◌≡◌, ℕ, ◌+◌, ◌*◌, List, [], Option, Some, None}
use Rattle.osm_model.specs.Data.{IsData}
use Rattle.osm_model.specs.Limits.{max_changes, max_file}
use Rattle.osm_save.specs.Save.{SpellsSave}
use Rattle.osm_save.specs.declared.save.Saved.{Saved}
use Rattle.osm_store.specs.Files.{Files, IsOver, Puts}
use Rattle.osm_kept.specs.Finding.{bytes_of}
use Rattle.osm_kept.specs.Kept.{Keeps}
use Rattle.osm_kept.specs.Names.{journal_name_of}
use Rattle.osm_kept.specs.Refusal.{HasNoOther, IsBadJournal, IsOther}
use Rattle.osm_runs.specs.Checking.{ReadStops}
use Rattle.osm_runs.specs.DataForms.{HasDataForm, HasNoDataForm, data_text_of}
use Rattle.osm_runs.specs.declared.fault.FileName.TheVariants.{Journal, Output, Save}
use Rattle.osm_runs.specs.declared.fault.RunFault.{RunFault}
use Rattle.osm_runs.specs.declared.fault.RunFault.TheVariants.{Absent, BadJournal, OtherJournal}
use Rattle.osm_runs.specs.declared.fault.RunFault.TheVariants.{ReadFault, TooLarge, UnknownForm}
use Rattle.osm_runs.specs.declared.fault.RunFault.TheVariants.{WriteFault}
use Rattle.osm_exporting.specs.Exporting.{export_calls}

-- the output can be made: its form is known, and the save, which is there, and its journal, which
-- isn't one of another save that ends above it, keep something
pub record CanExportKept (save output : List ℕ) (files : Files) : Type 0 where
  pub named : HasDataForm output
  pub value : Saved
  pub kept : Keeps (files save) (files (journal_name_of save)) value
  pub free : HasNoOther (files save) (files (journal_name_of save))

-- the output holds exactly the objects of what is kept, and no other name changes
pub record IsExportedKept (save output : List ℕ) (old new : Files) : Type 0 where
  pub made : CanExportKept save output old
  pub are_data : IsData made.value.mirror.objects
  pub put : Puts old output (Some (data_text_of made.named.form made.value.mirror.objects)) new

-- why objects aren't exported: the output's name first, then the journal and the save, then the
-- output. A journal that isn't empty comes before a save that isn't there
abbrev pub ExportKeptStops : Type 0 → List ℕ → List ℕ → Files → RunFault → Type 0
ExportKeptStops known save output files UnknownForm = HasNoDataForm output
ExportKeptStops known save output files (ReadFault Journal) = HasDataForm output
ExportKeptStops known save output files (TooLarge Journal) =
    HasDataForm output × (known → IsOver max_file (files (journal_name_of save)))
ExportKeptStops known save output files (BadJournal line) =
    HasDataForm output × (known → IsBadJournal (files save) (files (journal_name_of save)) line)
ExportKeptStops known save output files (OtherJournal number) =
    HasDataForm output × (known → IsOther (files save) (files (journal_name_of save)) number)
ExportKeptStops known save output files (Absent file) = (file ≡ Save) × HasDataForm output
    × (known → (files save ≡ None) × (bytes_of (files (journal_name_of save)) ≡ []))
ExportKeptStops known save output files (WriteFault file) =
    (file ≡ Output) × HasDataForm output × (known → CanExportKept save output files)
ExportKeptStops known save output files fault =
    HasDataForm output × ReadStops known (files save) fault

-- the most objects that a journal of so many bytes leaves: each of its batches takes 32 bytes at
-- least, and has 100,000 changes at most
abbrev pub most_left : ℕ → ℕ
most_left bytes = 3125 * bytes

-- what the two files keep is so many numbers after what the save saves
pub record KeepsAfter (told journal : Option (List ℕ)) (numbers : ℕ) : Type 0 where
  pub file : List ℕ
  pub there : told ≡ Some file
  pub saved : Saved
  pub spells : SpellsSave file saved
  pub value : Saved
  pub kept : Keeps told journal value
  pub number : value.number ≡ saved.number + numbers

-- the most calls of an export of a save and a journal of so many bytes: those of an export of the
-- save alone, two more to read the journal and what the save begins with, and an append for each
-- object that the journal leaves
abbrev pub export_kept_calls : ℕ → ℕ → ℕ
export_kept_calls saved journal = export_calls saved + most_left journal + 2

-- the most calls if what they keep is so many numbers after the save, of which each leaves 100,000
-- objects at most
abbrev pub export_after_calls : ℕ → ℕ → ℕ
export_after_calls saved numbers = export_calls saved + max_changes * numbers + 2
