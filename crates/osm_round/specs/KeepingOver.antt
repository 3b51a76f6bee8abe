-- What a run of the follower does over the folder of published sequences, from a save and a journal
-- that are in step with them.
use Rattle.std.specs.Prelude.{◌≡◌, ℕ, ◌+◌, ◌-◌, ◌*◌, ◌⊎◌, List, length, Option, Result, IfErr, IfOk}
use Rattle.std.specs.Prelude.{None, true}
use Rattle.osm_model.specs.Filter.{FilterValue}
use Rattle.osm_model.specs.Limits.{max_file}
use Rattle.osm_publisher.specs.Published.{PublishedValue}
use Rattle.osm_store.specs.Files.{Files, IsOver}
use Rattle.osm_store.specs.Frames.{StoreState}
use Rattle.osm_merge.specs.Calls.{bytes_in, merge_calls}
use Rattle.osm_merge.specs.Checking.{IsHugeFile}
use Rattle.osm_kept.specs.Names.{journal_name_of}
use Rattle.osm_kept.specs.Refusal.{IsOther}
use Rattle.osm_runs.specs.Following.{is_lost, last_number, lost_numbers, ranges, standing_at}
use Rattle.osm_runs.specs.Keeping.{IsKeptOf}
use Rattle.osm_runs.specs.Reports.{ReportValue, report_of}
use Rattle.osm_runs.specs.Runs.{CallsUpTo}
use Rattle.osm_runs.specs.declared.fault.FileName.TheVariants.{Journal, Save, Top}
use Rattle.osm_runs.specs.declared.fault.RunFault.{RunFault}
use Rattle.osm_runs.specs.declared.fault.RunFault.TheVariants.{Absent, OtherJournal, ReadFault}
use Rattle.osm_runs.specs.declared.fault.RunFault.TheVariants.{TooLarge, WantOfMemory, WriteFault}
use Rattle.osm_runs.specs.declared.options.FollowOptions.{FollowOptions}
use Rattle.osm_round.specs.Keeping.{ChangesBoth}
use Rattle.osm_round.specs.Over.{HasMany}

-- a follower in step with what was published went on from that number: the two files keep as many
-- more numbers as it reports, with its base, and it stopped at the last one or before a lost one.
-- If there are none, no file changes
pub record IsKeptAfter (published : List PublishedValue) (options : FollowOptions)
    (base number : ℕ) (dir save : List ℕ) (old new : Files) (report : ReportValue)
    : Type 0 where
  pub count : ℕ
  pub kept : IsKeptOf published options.filter base (number + count) save new
  pub far : (number + count ≡ last_number options.limit number (length published))
      ⊎ (is_lost old dir (number + count + 1) ≡ true)
  pub report_is : report ≡ report_of options.layout None (record {
    standing = standing_at published base (number + count);
    applied = ranges number count;
    missing = lost_numbers old dir (number + count)
        (last_number options.limit number (length published));
  })
  pub others : ChangesBoth save old new
  pub still : count ≡ 0 → new ≡ old

-- why a run of the follower over them is refused: never for a fault in one of their files. Besides
-- memory and the device, only since nothing was published yet, for the size of a file, or for a
-- journal of another save that has more
abbrev pub KeepingStopsOver : List PublishedValue → FilterValue → Option (List ℕ)
    → Option (List ℕ) → RunFault → Type 0
KeepingStopsOver published given told journal WantOfMemory = Unit {0}
KeepingStopsOver published given told journal (ReadFault file) = Unit {0}
KeepingStopsOver published given told journal (WriteFault Save) = Unit {0}
KeepingStopsOver published given told journal (WriteFault Journal) = Unit {0}
KeepingStopsOver published given told journal (Absent Top) = length published ≡ 0
KeepingStopsOver published given told journal (TooLarge Save) =
    IsHugeFile told ⊎ HasMany published given
KeepingStopsOver published given told journal (TooLarge Journal) = IsOver max_file journal
KeepingStopsOver published given told journal (OtherJournal last) = IsOther told journal last
KeepingStopsOver published given told journal fault = ⊥

-- the most calls of a run from that number: the journal, what the save begins with, whether it is a
-- large one, the top state, at most three files of each number after it, and what is laid over the
-- save
abbrev pub kept_calls : List PublishedValue → ℕ → Option (List ℕ) → ℕ
kept_calls published number told =
    4 + 3 * (length published - number) + merge_calls (bytes_in told)

-- what a run of the follower does over them: it goes on in step, within its calls, or is refused
pub record GoesOnOver (published : List PublishedValue) (options : FollowOptions) (base number : ℕ)
    (dir save : List ℕ) (old new : StoreState) (result : Result ReportValue RunFault) : Type 0 where
  pub in_step :
      IfOk result (IsKeptAfter published options base number dir save old.files new.files)
  pub refuses : IfErr result (KeepingStopsOver published options.filter (old.files save)
      (old.files (journal_name_of save)))
  pub calls : CallsUpTo (kept_calls published number (old.files save)) old new result
