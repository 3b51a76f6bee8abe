-- Steps of making a filter of words.
use Rattle.std.specs.Prelude.{ℕ, ◌↔◌, List, Contains}
use Rattle.osm_model.specs.Filter.{AreRising}
use Rattle.osm_model.specs.Text.{IsText}
use Rattle.osm_runs.specs.Filters.{HasNoText}
use Rattle.osm_runs.specs.declared.fault.RunFault.{RunFault}
use Rattle.osm_runs.specs.declared.fault.RunFault.TheVariants.{BadFilter, WantOfMemory}

-- the words, each once, rising by their bytes
pub record AreKeysOf (words keys : List (List ℕ)) : Type 0 where
  pub rising : AreRising keys
  pub each : (word : List ℕ) → Contains keys word ↔ Contains words word

-- why a word isn't a text
abbrev pub WordStops : List ℕ → RunFault → Type 0
WordStops word WantOfMemory = Unit {0}
WordStops word BadFilter = IsText word → ⊥
WordStops word fault = ⊥

-- why words aren't texts
abbrev pub TextStops : List (List ℕ) → RunFault → Type 0
TextStops words WantOfMemory = Unit {0}
TextStops words BadFilter = HasNoText words
TextStops words fault = ⊥
