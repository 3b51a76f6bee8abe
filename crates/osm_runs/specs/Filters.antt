-- The filter that words of the command line ask for: a word of letters for its kinds, and a word
-- for each of its keys (our choice: `osmium tags-filter` takes both from one word, as `w/highway`).
use Rattle.std.specs.Prelude.{◌≡◌, ℕ, ◌<◌, ◌⊎◌, ◌↔◌, Bool, true, List, length, Contains}
use Rattle.osm_model.specs.Filter.{AreRising, FilterValue, has_kind}
use Rattle.osm_model.specs.Limits.{max_keys}
use Rattle.osm_model.specs.Text.{IsText}
use Rattle.osm_save.specs.Filters.{kinds_text}
use Rattle.osm_runs.specs.declared.fault.RunFault.{RunFault}
use Rattle.osm_runs.specs.declared.fault.RunFault.TheVariants.{WantOfMemory, BadFilter}

-- the letters are those of the filter's kinds, and its keys are exactly the words, each once and in
-- order
pub record IsAsked (letters : List ℕ) (words : List (List ℕ)) (f : FilterValue) : Type 0 where
  pub kinds : letters ≡ kinds_text f.nodes f.ways f.relations
  pub rising : AreRising f.keys
  pub keys : (word : List ℕ) → Contains f.keys word ↔ Contains words word

-- the letters are those of no kinds, of which there has to be one at least
abbrev pub AreNoKinds : List ℕ → Type 0
AreNoKinds letters = (nodes ways relations : Bool) → has_kind nodes ways relations ≡ true
    → letters ≡ kinds_text nodes ways relations → ⊥

-- one of the words is no text
pub record HasNoText (words : List (List ℕ)) : Type 0 where
  pub word : List ℕ
  pub among : Contains words word
  pub wrong : ¬ IsText word

-- more than 100 of the words are different
pub record AreTooMany (words : List (List ℕ)) : Type 0 where
  pub different : List (List ℕ)
  pub rising : AreRising different
  pub among : (word : List ℕ) → Contains different word → Contains words word
  pub many : max_keys < length different

-- why no filter is made of the words: besides memory, only that there is none
abbrev pub FilterStops : List ℕ → List (List ℕ) → RunFault → Type 0
FilterStops letters words WantOfMemory = Unit {0}
FilterStops letters words BadFilter = AreNoKinds letters ⊎ HasNoText words ⊎ AreTooMany words
FilterStops letters words fault = ⊥
