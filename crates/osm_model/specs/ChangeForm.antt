-- What the two forms of change files, o5c and OPL, have in common.
use Rattle.std.specs.Prelude.{ℕ, ◌<◌, ◌≤◌, List, [], length}
use Rattle.osm_model.specs.Change.{ChangeValue}
use Rattle.osm_model.specs.Limits.{max_file}
use Rattle.osm_model.specs.declared.form.FormError.{FormError}
use Rattle.osm_model.specs.declared.form.FormError.TheVariants.{WantOfMemory, TooLarge, Fault}

-- no batch is spelled by the bytes
abbrev pub SpellsNothing : (List ℕ → List ChangeValue → Type 0) → List ℕ → Type 0
SpellsNothing spells bytes = (batch : List ChangeValue) → spells bytes batch → ⊥

-- when a read may be refused: for memory only if the bytes don't spell the empty batch; as too
-- large exactly above 64 MiB; with a fault exactly if they spell nothing, at the fault's place
abbrev pub ReadStops : (List ℕ → List ChangeValue → Type 0) → (List ℕ → ℕ → Type 0)
    → List ℕ → FormError → Type 0
ReadStops spells fault_place bytes WantOfMemory =
    (length bytes ≤ max_file) × (spells bytes [] → ⊥)
ReadStops spells fault_place bytes TooLarge = max_file < length bytes
ReadStops spells fault_place bytes (Fault place why) =
    (length bytes ≤ max_file) × SpellsNothing spells bytes × fault_place bytes place

-- when a write may be refused: as too large only if the written text passes 64 MiB
abbrev pub WriteStops : List ℕ → FormError → Type 0
WriteStops text WantOfMemory = Unit {0}
WriteStops text TooLarge = max_file < length text
WriteStops text (Fault place why) = ⊥
