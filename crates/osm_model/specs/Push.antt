-- What refuses a change.
use Rattle.std.specs.Prelude.{◌≡◌, ◌<◌, List, length}
use Rattle.osm_model.specs.Change.{ChangeValue}
use Rattle.osm_model.specs.Limits.{max_changes}
use Rattle.osm_model.specs.declared.batch.PushError.{PushError}
use Rattle.osm_model.specs.declared.batch.PushError.TheVariants.{Full, WantOfMemory}

-- the change is handed back; `Full` comes exactly if the batch has as many changes as it may
abbrev pub PushStops : List ChangeValue → ChangeValue → PushError → Type 0
PushStops old change (Full c) = (c ≡ change) × (length old ≡ max_changes)
PushStops old change (WantOfMemory c) = (c ≡ change) × (length old < max_changes)
