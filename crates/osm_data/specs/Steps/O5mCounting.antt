-- How many objects the datasets of a file are, by their types and lengths alone.
use Rattle.std.specs.Prelude.{◌≡◌, ℕ, ◌+◌, ◌==◌, List, [], ◌∷◌, drop, Option, Some, None, nat_lt}
use Rattle.std.specs.Prelude.{if◌then◌else◌}
use Rattle.osm_model.specs.Filter.{FilterValue}
use Rattle.osm_model.specs.declared.kind.Kind.{Kind}
use Rattle.osm_reading.specs.Answers.{and_then}
use Rattle.osm_o5c.specs.Datasets.{kind_of_byte}
use Rattle.osm_o5c.specs.NumberReading.{unsigned_at}
use Rattle.osm_data.specs.Counting.{IsTotal, one_of}
use Rattle.osm_data.specs.declared.o5m_counting.O5mCounter.{O5mCounter}

-- the number of the bytes of a dataset of that type after its length, and all that follows the
-- length; none at the end byte
unfoldable pub content_at : ℕ → List ℕ → Option (ℕ × List ℕ)
content_at t bytes =
    if nat_lt t 0xf0 then unsigned_at bytes else (if t == 0xfe then None else Some (0, bytes))

-- the type and the length of a dataset: its kind, if it is an object, the number of the bytes after
-- them, and all that follows them
unfoldable pub head_at : List ℕ → Option (Option Kind × ℕ × List ℕ)
head_at [] = None
head_at (t ∷ bytes) = and_then (content_at t bytes) (λ x. Some (kind_of_byte t, x.0, x.1))

-- so many objects of the kinds that the filter chooses are in the bytes, dataset by dataset
pub data Counts (f : FilterValue) : List ℕ → ℕ → Type 0 where
  ends : (bytes : List ℕ) → head_at bytes ≡ None → Counts f bytes 0
  goes_on : (bytes : List ℕ) (kind : Option Kind) (size : ℕ) (after : List ℕ) (many : ℕ)
      → head_at bytes ≡ Some (kind, size, after) → Counts f (drop size after) many
      → Counts f bytes (one_of f kind + many)

-- with those bytes it comes to that total
pub record ComesTo (f : FilterValue) (counter : O5mCounter) (bytes : List ℕ) (total : ℕ) : Type 0
  where
    pub many : ℕ
    pub counts : Counts f (drop counter.skip bytes) many
    pub is_total : IsTotal counter.count many total

-- nothing was counted, and a dataset begins
pub record BeginsCounter (counter : O5mCounter) : Type 0 where
  pub none : counter.count ≡ 0
  pub outside : counter.skip ≡ 0
