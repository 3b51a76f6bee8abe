-- How many objects the lines of a file are, by their first bytes.
use Rattle.std.specs.Prelude.{◌≡◌, ℕ, ◌+◌, ◌==◌, Bool, true, false, not, List, [], ◌∷◌}
use Rattle.std.specs.Prelude.{Option, None, Some, if◌then◌else◌}
use Rattle.osm_model.specs.Filter.{FilterValue}
use Rattle.osm_model.specs.declared.kind.Kind.{Kind}
use Rattle.osm_model.specs.declared.kind.Kind.TheVariants.{Node, Way, Relation}
use Rattle.osm_data.specs.Counting.{IsTotal, one_of}
use Rattle.osm_data.specs.declared.opl_counting.OplCounter.{OplCounter}

-- the kind of the object of a line, by its first byte: `n`, `w` or `r`
abbrev pub kind_of_letter : ℕ → Option Kind
kind_of_letter b =
    if b == 110 then Some Node else (if b == 119 then Some Way
    else (if b == 114 then Some Relation else None))

-- what a byte adds: nothing inside a line
abbrev pub number_at : FilterValue → Bool → ℕ → ℕ
number_at f true b = 0
number_at f false b = one_of f (kind_of_letter b)

-- how many objects begin in the bytes, which come inside a line or at the beginning of one
unfoldable pub number_in : FilterValue → Bool → List ℕ → ℕ
number_in f is_inside [] = 0
number_in f is_inside (b ∷ bytes) = number_at f is_inside b + number_in f (not (b == 10)) bytes

-- with those bytes it comes to that total
abbrev pub ComesTo : FilterValue → OplCounter → List ℕ → ℕ → Type 0
ComesTo f counter bytes total = IsTotal counter.count (number_in f counter.is_inside bytes) total

-- nothing was counted, and a line begins
pub record BeginsCounter (counter : OplCounter) : Type 0 where
  pub none : counter.count ≡ 0
  pub outside : counter.is_inside ≡ false
