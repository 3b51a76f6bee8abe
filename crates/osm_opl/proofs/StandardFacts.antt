-- The definitions at values that a person knows: the examples of the Osmium manual's page, and the
-- edges of our own choices.
use Rattle.std.proofs.Common.{◌≡◌, ℕ, zero, suc, ◌+◌, List, [], ◌∷◌, Some, None, refl}
use Rattle.std.specs.Prelude.{codes, filter, not, pos, negsuc}
use Rattle.std.specs.Fmt.{digits}
use Rattle.std.specs.Str.{chars}
use Rattle.osm_opl.specs.Escape.{is_reserved}
use Rattle.osm_opl.specs.Reading.{digits_at, escape_at}
use Rattle.osm_opl.specs.Written.{char_text, coordinate_text, decimals, escaped_text, hex_digits, is_written_bare}

-- that many numbers, from the first on
numbers_from : ℕ → ℕ → List ℕ
numbers_from first zero = []
numbers_from first (suc k) = first ∷ numbers_from (first + 1) k

-- nine of the bytes can't be bare; no quote and no other blank is among them
reserved_bytes : filter is_reserved (numbers_from 0 256) ≡ 0 ∷ 9 ∷ 10 ∷ 13 ∷ 32 ∷ 37 ∷ 44 ∷ 61 ∷ 64 ∷ []
unfolding numbers_from
reserved_bytes = refl

-- of `!` to `~`, four are escaped
escaped_of_printable : filter (λ c. not (is_written_bare c)) (numbers_from 33 94) ≡ 37 ∷ 44 ∷ 61 ∷ 64 ∷ []
unfolding numbers_from
escaped_of_printable = refl

-- and so is everything below or above them
below_printable : filter is_written_bare (numbers_from 0 33) ≡ []
unfolding numbers_from
below_printable = refl

above_printable : filter is_written_bare (numbers_from 127 129) ≡ []
unfolding numbers_from
above_printable = refl

-- the digits of an escape: at least two, otherwise as few as possible
two_digits : char_text 0x0a ≡ codes "%0a%"
unfolding char_text hex_digits
two_digits = refl

still_two_digits : char_text 0xff ≡ codes "%ff%"
unfolding char_text hex_digits
still_two_digits = refl

three_digits : char_text 0x100 ≡ codes "%100%"
unfolding char_text hex_digits
three_digits = refl

still_three_digits : char_text 0xfff ≡ codes "%fff%"
unfolding char_text hex_digits
still_three_digits = refl

four_digits : char_text 0x1000 ≡ codes "%1000%"
unfolding char_text hex_digits
four_digits = refl

still_four_digits : char_text 0x65e5 ≡ codes "%65e5%"
unfolding char_text hex_digits
still_four_digits = refl

five_digits : char_text 0x10000 ≡ codes "%10000%"
unfolding char_text hex_digits
five_digits = refl

six_digits : char_text 0x10ffff ≡ codes "%10ffff%"
unfolding char_text hex_digits
six_digits = refl

-- a text with a space and a comma
space_and_comma : escaped_text (codes "a b,c") ≡ codes "a%20%b%2c%c"
unfolding escaped_text chars char_text hex_digits
space_and_comma = refl

-- an escape of eight digits is read, and one of nine is not
eight_digits_read : escape_at (codes "000065E5") ≡ Some 0x65e5
unfolding escape_at digits_at
eight_digits_read = refl

nine_digits_refused : escape_at (codes "0000065E5") ≡ None
unfolding escape_at digits_at
nine_digits_refused = refl

-- coordinates, in units of 10^-7 degree
zero_units : coordinate_text (pos 0) ≡ codes "0"
unfolding coordinate_text decimals digits
zero_units = refl

minus_one_unit : coordinate_text (negsuc 0) ≡ codes "-0.0000001"
unfolding coordinate_text decimals digits
minus_one_unit = refl

no_last_zero : coordinate_text (pos 12345670) ≡ codes "1.234567"
unfolding coordinate_text decimals digits
no_last_zero = refl

no_decimals : coordinate_text (pos 1800000000) ≡ codes "180"
unfolding coordinate_text decimals digits
no_decimals = refl

-- and their limits, in degrees
north_pole : coordinate_text (pos 900000000) ≡ codes "90"
unfolding coordinate_text decimals digits
north_pole = refl
