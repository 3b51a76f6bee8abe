-- What one line does to the changes read so far, and why a text isn't written. Only clauses of
-- private functions cite these definitions.
use Rattle.std.specs.Prelude.{◌≡◌, ℕ, ◌<◌, true, false, List, [], ◌∷◌, ◌++◌, length}
use Rattle.osm_model.specs.Change.{ChangeValue}
use Rattle.osm_model.specs.Limits.{max_file}
use Rattle.osm_model.specs.declared.form.FormError.{FormError}
use Rattle.osm_model.specs.declared.form.FormError.TheVariants as forms
use Rattle.osm_reading.specs.Lines.{is_skipped}
use Rattle.osm_opl.specs.Line.{SpellsLine}
use Rattle.osm_model.specs.declared.files.WriteError.{WriteError}
use Rattle.osm_model.specs.declared.files.WriteError.TheVariants.{TooLarge, WantOfMemory}

-- a line is skipped, or adds the change that it spells
pub data AddsLine : List ℕ → List ChangeValue → List ChangeValue → Type 0 where
  skipped : (line : List ℕ) (changes : List ChangeValue) → is_skipped line ≡ true
      → AddsLine line changes changes
  change : (line : List ℕ) (changes : List ChangeValue) (c : ChangeValue) → is_skipped line ≡ false
      → SpellsLine line c → AddsLine line changes (changes ++ c ∷ [])

-- a line is refused: it isn't skipped and, unless out of memory, it spells no change with which the
-- changes so far are still within the limits
abbrev pub NextLineStops : (List ChangeValue → Type 0) → List ℕ → ℕ → List ChangeValue → FormError
    → Type 0
NextLineStops Limits line place changes forms.WantOfMemory = is_skipped line ≡ false
NextLineStops Limits line place changes forms.TooLarge = ⊥
NextLineStops Limits line place changes (forms.Fault p why) =
    (p ≡ place) × (is_skipped line ≡ false)
    × ((c : ChangeValue) → SpellsLine line c → Limits (changes ++ c ∷ []) → ⊥)

-- a text isn't written: as too large only if it passes 64 MiB
abbrev pub WriteStops : List ℕ → WriteError → Type 0
WriteStops text TooLarge = max_file < length text
WriteStops text WantOfMemory = Unit {0}
