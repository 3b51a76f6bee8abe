-- What the journal of a save lays over its objects.
use Rattle.std.specs.Prelude.{◌≡◌, ℕ, ◌+◌, List, length, Option, Result, IfErr, OnOk}
use Rattle.osm_merge.specs.Calls.{bytes_in, check_calls}
use Rattle.osm_merge.specs.Frames.{ReplacesOften}
use Rattle.osm_kept.specs.Laying.{LaysOver}
use Rattle.osm_kept.specs.Names.{journal_name_of}
use Rattle.osm_kept.specs.declared.laid.Laid.{Laid}
use Rattle.osm_runs.specs.Checking.{IsSaveText, ReadStops}
use Rattle.osm_runs.specs.Runs.{IsDeviceFault}
use Rattle.osm_runs.specs.declared.data_form.DataForm.{DataForm}
use Rattle.osm_runs.specs.declared.fault.FileName.TheVariants.{Output}
use Rattle.osm_runs.specs.declared.fault.RunFault.{RunFault}
use Rattle.osm_runs.specs.declared.fault.RunFault.TheVariants.{WriteFault}
use Rattle.osm_store.specs.Files.{Spends}
use Rattle.osm_store.specs.Frames.{IsKnown, MakesAtMost, StoreState}
use Rattle.osm_exporting.specs.Exporting.{export_calls}
use Rattle.osm_exporting.specs.Steps.Copying.{IsWritten}

-- that is what the journal of the save of that name lays over it, if the two are known
abbrev pub LaysOn : StoreState → List ℕ → Laid → Type 0
LaysOn state save laid =
    IsKnown state → LaysOver (state.files save) (state.files (journal_name_of save)) laid

-- why a save with net changes laid over it isn't exported: for the output only if the save is a
-- save text
abbrev pub LaidStops : Type 0 → Option (List ℕ) → RunFault → Type 0
LaidStops known told (WriteFault file) = (file ≡ Output) × (known → IsSaveText told)
LaidStops known told fault = ReadStops known told fault

-- the most calls of an export of a save over which that is laid: an append more for each entry
abbrev pub laid_calls : Option (List ℕ) → Laid → ℕ
laid_calls told laid = export_calls (bytes_in told) + length laid.lists.objects.items

-- those before the output is put into its place: one reading of the save, an append for each line
-- and each entry, `begin`, and one for the bytes that wait at the end
abbrev pub staged_calls : Option (List ℕ) → Laid → ℕ
staged_calls told laid =
    check_calls (bytes_in told) + bytes_in told + length laid.lists.objects.items + 2

-- and with the call that puts it there
abbrev pub written_calls : Option (List ℕ) → Laid → ℕ
written_calls told laid = staged_calls told laid + 1

-- the save with that laid over it was exported, or why it wasn't, and how many calls it took
pub record Exports (Stops : Type 0 → Option (List ℕ) → RunFault → Type 0)
    (most : Option (List ℕ) → Laid → ℕ) (old new : StoreState) (save output : List ℕ)
    (form : DataForm) (laid : Laid) (result : Result (Unit {0}) RunFault) : Type 0 where
  pub put : OnOk result (IsKnown old
      → IsWritten save output form laid.lists.objects.items old.files new.files)
  pub stops : IfErr result (Stops (IsKnown old) (old.files save))
  pub frame : ReplacesOften IsDeviceFault old new result
  pub spends : OnOk result (Spends 2 old.left new.left)
  pub calls : IsKnown old → MakesAtMost IsDeviceFault (most (old.files save) laid) old new result
