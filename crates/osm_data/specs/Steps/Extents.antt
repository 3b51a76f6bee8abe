-- How far the dataset at the start of bytes reaches.
use Rattle.std.specs.Prelude.{ℕ, ◌==◌, List, [], ◌∷◌, length, Option, Some, None, nat_lt}
use Rattle.std.specs.Prelude.{if◌then◌else◌}
use Rattle.osm_o5c.specs.NumberReading.{unsigned_at}
use Rattle.osm_data.specs.declared.extents.Extent.{Extent}
use Rattle.osm_data.specs.declared.extents.Extent.TheVariants.{Whole, Cut, Long, Trailing}

-- how far a length reaches, and that many bytes, if there is a length; so many bytes are there
abbrev pub size_at : ℕ → Option (ℕ × List ℕ) → Extent
size_at count None = if nat_lt count 10 then Cut else Whole
size_at count (Some x) =
    if nat_lt 67108864 x.0 then Long else (if nat_lt (length x.1) x.0 then Cut else Whole)

unfoldable pub sized_at : List ℕ → Extent
sized_at bytes = size_at (length bytes) (unsigned_at bytes)

-- after the end byte: nothing yet, or bytes
abbrev pub end_at : List ℕ → Extent
end_at [] = Cut
end_at (b ∷ bytes) = Trailing

-- the same for a dataset; no bytes are a dataset that is cut
unfoldable pub extent_at : List ℕ → Extent
extent_at [] = Cut
extent_at (t ∷ bytes) =
    if nat_lt t 0xf0 then sized_at bytes else (if t == 0xfe then end_at bytes else Whole)
