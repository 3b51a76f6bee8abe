-- The main statement over folders, under a filter. After every list of publications, runs of the
-- follower, exports and beginnings, any of these killed, losses and returns of files, files that
-- are spoiled while the follower runs, and runs under another filter, on one store: the folder is
-- that of the sequences that the history published; what the save and its journal keep is that of
-- sequences base + 1 to their number over the objects of the base. The base is what the filter
-- keeps of the mirror of sequences 1 to it, as an earlier export gave it, or 0, the empty start, if
-- there was no beginning; so the two files hold exactly what the filter keeps of the mirror of
-- sequences 1 to their number and the counts of those after the base. The save alone holds the same
-- of a number of its own. The numbers that were reported since the last beginning are those after
-- the base, once each, in order; and the extract holds what the filter keeps of the objects that
-- sequences 1 to the exported number leave.
use Rattle.std.specs.Prelude.{◌≡◌, ℕ, ◌-◌, ◌<◌, ◌≤◌, List, length, Option, Some, None}
use Rattle.std.specs.Prelude.{is_none, not}
use Rattle.osm_model.specs.Filter.{FilterValue}
use Rattle.osm_model.specs.Limits.{max_file}
use Rattle.osm_state.specs.declared.paths.Suffix.{Suffix}
use Rattle.osm_state.specs.declared.paths.Suffix.TheVariants.{State}
use Rattle.osm_publisher.specs.Published.{PublishedValue}
use Rattle.osm_follow.specs.Reach.{numbers}
use Rattle.osm_exporting.specs.Exporting.{IsExportOf}
use Rattle.osm_store.specs.Files.{Files, IsOver}
use Rattle.osm_kept.specs.Names.{journal_name_of}
use Rattle.osm_kept.specs.Refusal as kept
use Rattle.osm_runs.specs.Folder.{IsApart, IsFolderOf}
use Rattle.osm_runs.specs.Keeping.{IsKeptOf}
use Rattle.osm_runs.specs.Names.{file_name_of, top_name_of}
use Rattle.osm_operations.specs.Allowed.{AreAllowed}
use Rattle.osm_operations.specs.Alone.{IsInStepAlone}
use Rattle.osm_operations.specs.History.{History, history_of, published_of, file_of, number_of}
use Rattle.osm_operations.specs.History.{base_of, is_saved, exported_of, reported_of, cut_of}
use Rattle.osm_operations.specs.declared.operation.Operation.{Operation}
use Rattle.osm_operations.specs.declared.operation.Reply.{Reply}

-- the save, the file of changes and the extract are outside the folder, as the journal always is,
-- and these are four files
pub record AreApart (dir save changes extract : List ℕ) : Type 0 where
  pub save_is : IsApart dir save
  pub changes_are : IsApart dir changes
  pub extract_is : IsApart dir extract
  pub differ : save ≡ changes → ⊥
  pub not_saved : extract ≡ save → ⊥
  pub not_changed : extract ≡ changes → ⊥
  pub not_journal : extract ≡ journal_name_of save → ⊥
  pub no_changes : journal_name_of save ≡ changes → ⊥

-- nothing is published, nothing is saved, there is no journal, and there is no state of number 0,
-- the empty start, which is never published
pub record IsNew (dir save : List ℕ) (files : Files) : Type 0 where
  pub top : files (top_name_of dir) ≡ None
  pub saved : files save ≡ None
  pub journal : files (journal_name_of save) ≡ None
  pub zero : files (file_name_of dir 0 State) ≡ None

-- the name is that of no file that the operations may touch
pub record IsOther (dir save changes extract name : List ℕ) : Type 0 where
  pub folder : IsApart dir name
  pub save_is : name ≡ save → ⊥
  pub journal_is : name ≡ journal_name_of save → ⊥
  pub changes_are : name ≡ changes → ⊥
  pub extract_is : name ≡ extract → ⊥

-- the extract holds exactly what the filter keeps of the objects that published sequences 1 to the
-- exported number leave; if nothing was exported, it is as it was
abbrev pub IsExtractOf : List PublishedValue → FilterValue → Option ℕ → List ℕ → Option (List ℕ)
    → Option (List ℕ) → Type 0
IsExtractOf published given None extract start told = told ≡ start
IsExtractOf published given (Some number) extract start told =
    IsExportOf published given number extract told

-- the files are what the history says: the folder is that of the sequences that it published, each
-- file as it was written unless it is lost; the save is there exactly if something was saved, and
-- with its journal it is that of the follower's number under the filter, begun at its base; the
-- save alone is that of some number too; the journal isn't too long to be read, and is one of
-- another save that ends above it only if a beginning was cut short, and then at the number that
-- the history says; the numbers after the base were reported once each, in order; the extract is
-- that of the number exported last; and no other file has changed
pub record IsInStep (given : FilterValue) (h : History) (dir save changes extract : List ℕ)
    (start files : Files) : Type 0 where
  pub folder : IsFolderOf (published_of h) files dir
  pub each : (k : ℕ) (suffix : Suffix) → 0 < k → k ≤ length (published_of h)
      → files (file_name_of dir k suffix) ≡ file_of h k suffix
  pub saved : IsKeptOf (published_of h) given (base_of h) (number_of h) save files
  pub alone : IsInStepAlone (published_of h) given (files save)
  pub short : IsOver max_file (files (journal_name_of save)) → ⊥
  pub free : (n : ℕ) → kept.IsOther (files save) (files (journal_name_of save)) n
      → cut_of h ≡ Some n
  pub is_there : is_none (files save) ≡ not (is_saved h)
  pub reported : reported_of h ≡ numbers (base_of h) (number_of h - base_of h)
  pub exported : IsExtractOf (published_of h) given (exported_of h) extract (start extract)
      (files extract)
  pub others : (name : List ℕ) → IsOther dir save changes extract name → files name ≡ start name

-- the replies to the operations under the filter, and the files after them
pub record IsRun (given : FilterValue) (operations : List Operation) (replies : List Reply)
    (dir save changes extract : List ℕ) (start files : Files) : Type 0 where
  pub allowed : AreAllowed given extract (history_of operations replies)
  pub in_step :
      IsInStep given (history_of operations replies) dir save changes extract start files
