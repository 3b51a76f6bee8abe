-- Why neither a fingerprint nor counts are given. `known` says that it is known what the files
-- hold.
use Rattle.std.specs.Prelude.{◌≡◌, ℕ, ◌⊎◌, List, [], None}
use Rattle.osm_model.specs.Limits.{max_file}
use Rattle.osm_store.specs.Files.{Files, IsOver}
use Rattle.osm_kept.specs.Finding.{bytes_of}
use Rattle.osm_kept.specs.Names.{journal_name_of}
use Rattle.osm_kept.specs.Refusal.{IsBadJournal, IsOther}
use Rattle.osm_runs.specs.Checking.{ReadStops}
use Rattle.osm_runs.specs.declared.fault.FileName.TheVariants.{Journal, Save}
use Rattle.osm_runs.specs.declared.fault.RunFault.{RunFault}
use Rattle.osm_runs.specs.declared.fault.RunFault.TheVariants.{Absent, BadJournal, OtherJournal}
use Rattle.osm_runs.specs.declared.fault.RunFault.TheVariants.{ReadFault, TooLarge}

-- it isn't found that the two files keep something, as for `show`: a line is bad only if they keep
-- nothing, and a journal that isn't empty comes before a save that isn't there
abbrev pub SumStops : Type 0 → List ℕ → Files → RunFault → Type 0
SumStops known save files (ReadFault file) = (file ≡ Save) ⊎ (file ≡ Journal)
SumStops known save files (TooLarge Journal) =
    known → IsOver max_file (files (journal_name_of save))
SumStops known save files (BadJournal line) =
    known → IsBadJournal (files save) (files (journal_name_of save)) line
SumStops known save files (OtherJournal number) =
    known → IsOther (files save) (files (journal_name_of save)) number
SumStops known save files (Absent file) = (file ≡ Save)
    × (known → (files save ≡ None) × (bytes_of (files (journal_name_of save)) ≡ []))
SumStops known save files fault = ReadStops known (files save) fault
