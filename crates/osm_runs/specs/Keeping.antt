-- What a follower goes on from: what its save and the journal beside it keep. `given` is the filter
-- that the run was given.
use Rattle.std.specs.Prelude.{◌≡◌, ℕ, List, Option, Some, None}
use Rattle.osm_model.specs.Filter.{FilterValue}
use Rattle.osm_save.specs.declared.save.Saved.{Saved}
use Rattle.osm_publisher.specs.Published.{PublishedValue}
use Rattle.osm_store.specs.Files.{Files}
use Rattle.osm_kept.specs.Kept.{Keeps}
use Rattle.osm_kept.specs.Names.{journal_name_of}
use Rattle.osm_kept.specs.Refusal.{IsBadJournal}
use Rattle.osm_kept.specs.declared.fault.KeptFault.{KeptFault}
use Rattle.osm_kept.specs.declared.fault.KeptFault.TheVariants as kept
use Rattle.osm_runs.specs.Following.{IsInStep, no_save}
use Rattle.osm_runs.specs.declared.fault.FileName.TheVariants.{Journal, Save}
use Rattle.osm_runs.specs.declared.fault.RunFault.{RunFault}
use Rattle.osm_runs.specs.declared.fault.RunFault.TheVariants.{BadJournal, BadSave, Changed}
use Rattle.osm_runs.specs.declared.fault.RunFault.TheVariants.{OtherJournal, ReadFault, TooLarge}
use Rattle.osm_runs.specs.declared.fault.RunFault.TheVariants.{WantOfMemory}

-- what the two files keep, under whatever filter; no save is the start under the given one,
-- whatever the journal is
abbrev pub KeptIn : FilterValue → Option (List ℕ) → Option (List ℕ) → Saved → Type 0
KeptIn given None journal v = v ≡ no_save given
KeptIn given (Some bytes) journal v = Keeps (Some bytes) journal v

-- what the save of that name and its journal keep
abbrev pub IsKept : FilterValue → List ℕ → Files → Saved → Type 0
IsKept given save files v = KeptIn given (files save) (files (journal_name_of save)) v

-- the journal of the save of that name isn't bad. If there is a save, that follows once the two
-- files keep something
abbrev pub HasNoBadJournal : List ℕ → Files → Type 0
HasNoBadJournal save files =
    (line : ℕ) → IsBadJournal (files save) (files (journal_name_of save)) line → ⊥

-- what they keep is what the published sequences 1 to that number leave under the filter, begun at
-- that base; no save is that of 0, begun at 0, and then too the journal isn't bad
pub record IsKeptOf (published : List PublishedValue) (given : FilterValue) (base number : ℕ)
    (save : List ℕ) (files : Files) : Type 0 where
  pub value : Saved
  pub kept : IsKept given save files value
  pub right : HasNoBadJournal save files
  pub base_is : value.base ≡ base
  pub number_is : value.number ≡ number
  pub in_step : IsInStep published given value

-- why a save and its journal aren't read, as the fault of a run
abbrev pub kept_fault_of : KeptFault → RunFault
kept_fault_of kept.JournalFailed = ReadFault Journal
kept_fault_of kept.JournalTooLarge = TooLarge Journal
kept_fault_of (kept.BadJournal line) = BadJournal line
kept_fault_of (kept.OtherJournal number) = OtherJournal number
kept_fault_of kept.SaveFailed = ReadFault Save
kept_fault_of (kept.BadSave line) = BadSave line
kept_fault_of kept.Changed = Changed Save
kept_fault_of kept.WantOfMemory = WantOfMemory
