-- The moment that the code's clock holds, and the one that a text's digits give.
use Rattle.std.specs.Prelude.{ℕ, ◌+◌, ◌-◌, ◌*◌, ◌<◌, List, min, get_or}
use Rattle.osm_model.specs.Time.{Moment}
use Rattle.osm_model.specs.declared.time.Clock.{Clock}

abbrev pub moment_of : Clock → Moment
moment_of p = record {
  year = p.year;
  month = p.month;
  day = p.day;
  hour = p.hour;
  minute = p.minute;
  second = p.second;
}

-- each number has as many digits as its field in the text
pub record HasDigits (m : Moment) : Type 0 where
  pub year : m.year < 10000
  pub month : m.month < 100
  pub day : m.day < 100
  pub hour : m.hour < 100
  pub minute : m.minute < 100
  pub second : m.second < 100

-- what a byte is as a digit: its distance from `0`, at most 9
abbrev pub digit_value : List ℕ → ℕ → ℕ
digit_value bytes i = min (get_or bytes i 0 - 48) 9

-- two digits, or whatever is there
abbrev pub pair_value : List ℕ → ℕ → ℕ
pair_value bytes i = 10 * digit_value bytes i + digit_value bytes (i + 1)

-- the moment that the digits give, or whatever is in their positions
abbrev pub loose_moment : List ℕ → Moment
loose_moment bytes = record {
  year = 100 * pair_value bytes 0 + pair_value bytes 2;
  month = pair_value bytes 5;
  day = pair_value bytes 8;
  hour = pair_value bytes 11;
  minute = pair_value bytes 14;
  second = pair_value bytes 17;
}
