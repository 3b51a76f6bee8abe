-- The number at the start of bytes, and the bytes after it.
use Rattle.std.specs.Prelude.{ℕ, zero, suc, ◌+◌, ◌*◌, ◌/◌, ◌%◌, ◌^◌, ◌==◌, ◌&&◌, List, [], ◌∷◌}
use Rattle.std.specs.Prelude.{length, take, drop, Option, Some, None, Bool, if◌then◌else◌, nat_lt}
use Rattle.std.specs.Prelude.{◌<◌, ◌≤◌, get_or, nat_le, int_le, ℤ, pos, negsuc, neg_ℤ, ◌+ℤ◌, ◌-ℤ◌}
use Rattle.osm_reading.specs.Answers.{and_then, when}
use Rattle.std.specs.Int.{int_rem_euclid}

-- a varint of at most this many bytes, of a number below 2^64
unfoldable pub varint_at : ℕ → List ℕ → Option (ℕ × List ℕ)
varint_at zero bytes = None
varint_at (suc k) [] = None
varint_at (suc k) (b ∷ bs) =
    if nat_lt b 128 then Some (b, bs)
    else and_then (varint_at k bs) (λ h.
    when (nat_lt (b % 128 + 128 * h.0) (2 ^ 64)) (Some (b % 128 + 128 * h.0, h.1)))

-- the index of the last byte of a varint of at most this many bytes
pub record EndsVarint (most : ℕ) (bytes : List ℕ) (index : ℕ) : Type 0 where
  pub within : index < length bytes
  pub few : index < most
  pub high : (k : ℕ) → k < index → 128 ≤ get_or bytes k 0
  pub low : get_or bytes index 0 < 128

abbrev pub unsigned_at : List ℕ → Option (ℕ × List ℕ)
unsigned_at bytes = varint_at 10 bytes

-- the signed number that has this zigzag
abbrev pub from_zigzag : ℕ → ℤ
from_zigzag n = if n % 2 == 0 then pos (n / 2) else negsuc (n / 2)

unfoldable pub signed_at : List ℕ → Option (ℤ × List ℕ)
signed_at bytes = and_then (unsigned_at bytes) (λ n. Some (from_zigzag n.0, n.1))

-- a sum in 32 bits, from -2^31 to 2^31 - 1
unfoldable pub wrapped_of : ℤ → ℤ
wrapped_of sum = int_rem_euclid (sum +ℤ pos 2147483648) (pos 4294967296) -ℤ pos 2147483648

-- a length, and that many bytes
unfoldable pub part_at : List ℕ → Option (List ℕ × List ℕ)
part_at bytes = and_then (unsigned_at bytes) (λ n.
    when (nat_le n.0 (length n.1)) (Some (take n.0 n.1, drop n.0 n.1)))

-- a number within the limits of versions, changesets, user ids and times
abbrev pub is_positive : ℕ → Bool
is_positive n = nat_le 1 n && nat_lt n (2 ^ 32)

abbrev pub is_id : ℤ → Bool
is_id id = int_le (neg_ℤ (pos 4611686018427387903)) id && int_le id (pos 4611686018427387903)

abbrev pub is_longitude : ℤ → Bool
is_longitude lon = int_le (neg_ℤ (pos 1800000000)) lon && int_le lon (pos 1800000000)

abbrev pub is_latitude : ℤ → Bool
is_latitude lat = int_le (neg_ℤ (pos 900000000)) lat && int_le lat (pos 900000000)

unfoldable pub positive_at : List ℕ → Option (ℕ × List ℕ)
positive_at bytes = and_then (unsigned_at bytes) (λ n. when (is_positive n.0) (Some n))

-- the integer as a natural number; 0 if it is negative
abbrev pub natural : ℤ → ℕ
natural (pos n) = n
natural (negsuc n) = 0

-- the sum after a difference, if it is within the limits
unfoldable pub positive_sum_at : ℤ → List ℕ → Option (ℕ × List ℕ)
positive_sum_at before bytes = and_then (signed_at bytes) (λ d.
    when (is_positive (natural (before +ℤ d.0))) (Some (natural (before +ℤ d.0), d.1)))

unfoldable pub id_at : ℤ → List ℕ → Option (ℤ × List ℕ)
id_at before bytes = and_then (signed_at bytes) (λ d.
    when (is_id (before +ℤ d.0)) (Some (before +ℤ d.0, d.1)))

unfoldable pub longitude_at : ℤ → List ℕ → Option (ℤ × List ℕ)
longitude_at before bytes = and_then (signed_at bytes) (λ d.
    when (is_longitude (wrapped_of (before +ℤ d.0))) (Some (wrapped_of (before +ℤ d.0), d.1)))

unfoldable pub latitude_at : ℤ → List ℕ → Option (ℤ × List ℕ)
latitude_at before bytes = and_then (signed_at bytes) (λ d.
    when (is_latitude (wrapped_of (before +ℤ d.0))) (Some (wrapped_of (before +ℤ d.0), d.1)))
