-- Printing what a save and the journal beside it keep. `known` says that it is known what the files
-- hold.
use Rattle.std.specs.Prelude.{◌≡◌, ℕ, ◌⊎◌, List, [], None, Option, take}
use Rattle.std.specs.Io.KnownBytes.{Appends}
use Rattle.osm_model.specs.Filter.{FilterValue}
use Rattle.osm_model.specs.Limits.{max_file}
use Rattle.osm_save.specs.declared.save.Saved.{Saved}
use Rattle.osm_publisher.specs.Published.{PublishedValue}
use Rattle.osm_store.specs.Files.{Files, IsOver}
use Rattle.osm_kept.specs.Finding.{bytes_of}
use Rattle.osm_kept.specs.Kept.{Keeps}
use Rattle.osm_kept.specs.Names.{journal_name_of}
use Rattle.osm_kept.specs.Refusal.{HasNoOther, IsBadJournal, IsOther}
use Rattle.osm_runs.specs.Checking.{ReadStops}
use Rattle.osm_runs.specs.Keeping.{IsKeptOf}
use Rattle.osm_runs.specs.Reports.{ReportValue}
use Rattle.osm_runs.specs.declared.fault.FileName.TheVariants.{Journal, Save}
use Rattle.osm_runs.specs.declared.fault.RunFault.{RunFault}
use Rattle.osm_runs.specs.declared.fault.RunFault.TheVariants.{Absent, BadJournal, OtherJournal}
use Rattle.osm_runs.specs.declared.fault.RunFault.TheVariants.{ReadFault, TooLarge}
use Rattle.osm_printing.specs.Printing.{CopyStops, IsShownOf, IsShowReport, show_report_of}
use Rattle.osm_printing.specs.Printing.{view_of_saved}

-- the two files keep something, and that is shown, whatever its filter is; the journal isn't one of
-- another save that ends above the save
pub record IsKeptShown (told journal : Option (List ℕ)) (report : ReportValue) : Type 0 where
  pub value : Saved
  pub kept : Keeps told journal value
  pub free : HasNoOther told journal
  pub report_is : report ≡ show_report_of (view_of_saved value)

-- the report is that of a show of the save and its journal
pub record IsShowOfKept (known : Type 0) (save : List ℕ) (files : Files) (report : ReportValue)
    : Type 0 where
  pub shown : known → IsKeptShown (files save) (files (journal_name_of save)) report
  pub in_step : known → (published : List PublishedValue) (given : FilterValue) (base number : ℕ)
      → IsKeptOf published given base number save files
      → IsShownOf published given base number report
  pub form : IsShowReport report

-- all of the report was printed
pub record IsKeptPrinted (known : Type 0) (save : List ℕ) (files : Files)
    (printed after : Option (List ℕ)) : Type 0 where
  pub report : ReportValue
  pub is : IsShowOfKept known save files report
  pub all : Appends printed after report.text

-- why it isn't found that the two files keep something: a line is bad only if they keep nothing,
-- and a journal that isn't empty comes before a save that isn't there
abbrev pub KeepingStops : Type 0 → List ℕ → Files → RunFault → Type 0
KeepingStops known save files (ReadFault file) = (file ≡ Save) ⊎ (file ≡ Journal)
KeepingStops known save files (TooLarge Journal) =
    known → IsOver max_file (files (journal_name_of save))
KeepingStops known save files (BadJournal line) =
    known → IsBadJournal (files save) (files (journal_name_of save)) line
KeepingStops known save files (OtherJournal number) =
    known → IsOther (files save) (files (journal_name_of save)) number
KeepingStops known save files (Absent file) = (file ≡ Save)
    × (known → (files save ≡ None) × (bytes_of (files (journal_name_of save)) ≡ []))
KeepingStops known save files fault = ReadStops known (files save) fault

-- it wasn't found that they keep something, and nothing was printed
pub record IsKeptRefused (known : Type 0) (save : List ℕ) (files : Files)
    (printed after : Option (List ℕ)) (fault : RunFault) : Type 0 where
  pub stops : KeepingStops known save files fault
  pub nothing : after ≡ printed

-- they keep something, and a prefix of its report was printed: standard output failed, or the save
-- wasn't read again
pub record IsKeptCutOff (known : Type 0) (save : List ℕ) (files : Files)
    (printed after : Option (List ℕ)) (fault : RunFault) : Type 0 where
  pub report : ReportValue
  pub is : IsShowOfKept known save files report
  pub stops : CopyStops known (files save) fault
  pub count : ℕ
  pub some : Appends printed after (take count report.text)

-- why not all was printed
abbrev pub IsKeptNotPrinted : Type 0 → List ℕ → Files → Option (List ℕ) → Option (List ℕ)
    → RunFault → Type 0
IsKeptNotPrinted known save files printed after fault =
    IsKeptRefused known save files printed after fault
    ⊎ IsKeptCutOff known save files printed after fault
