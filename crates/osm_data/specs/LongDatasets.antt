-- Data files with a long dataset.
use Rattle.std.specs.Prelude.{◌≡◌, ℕ, ◌<◌, List, ◌∷◌, ◌++◌}
use Rattle.osm_model.specs.Change.{ChangeValue}
use Rattle.osm_model.specs.Data.{IsData}
use Rattle.osm_o5c.specs.Context.{Context}
use Rattle.osm_o5c.specs.File.{Front, data_beginning}
use Rattle.osm_o5c.specs.Number.{SpellsNumber}

-- the most bytes of a dataset after its length: 64 MiB
abbrev pub max_size : ℕ
max_size = 67108864

-- after a valid prefix, a dataset with a length begins, an object or one that would be skipped, and
-- its length is more than that, whether so many bytes follow or not
pub record HasLong (bytes : List ℕ) : Type 0 where
  pub prefix : List ℕ
  pub context : Context
  pub objects : List ChangeValue
  pub kind : ℕ
  pub length_bytes : List ℕ
  pub size : ℕ
  pub after : List ℕ
  pub is_front : Front data_beginning IsData prefix context objects
  pub has_length : kind < 0xf0
  pub spells : SpellsNumber length_bytes size
  pub long : max_size < size
  pub whole : bytes ≡ prefix ++ (kind ∷ (length_bytes ++ after))
