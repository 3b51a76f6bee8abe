-- The digits of an id in a word.
use Rattle.std.specs.Prelude.{ℕ, ◌==◌, ◌&&◌, not, nat_lt, Bool, List, length, slice_index}

-- there is no plus, and no zero before another digit or after a minus
abbrev pub is_plain : List ℕ → Bool
is_plain bs =
    not (slice_index bs 0 == 43)
    && not (slice_index bs 0 == 48 && nat_lt 1 (length bs))
    && not (slice_index bs 0 == 45 && slice_index bs 1 == 48)
