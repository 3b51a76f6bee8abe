-- Times as texts, in the form of ISO 8601 that OpenStreetMap uses: YYYY-MM-DDTHH:MM:SSZ.
use Rattle.std.specs.Prelude.{◌≡◌, ℕ, ◌+◌, ◌*◌, ◌/◌, ◌%◌, ◌<◌, List, [], ◌∷◌, ◌++◌, ℤ, pos, ◌+ℤ◌}
use Rattle.std.specs.Prelude.{◌*ℤ◌}
use Rattle.jiff_core.specs.Calendar.{IsCivilDate, days_from_civil}
use Rattle.osm_model.specs.Limits.{IsPositive}

-- a date and a time of day
pub record Moment : Type 0 where
  pub year : ℕ
  pub month : ℕ
  pub day : ℕ
  pub hour : ℕ
  pub minute : ℕ
  pub second : ℕ

-- the calendar has this date, and the clock this time of day
pub record IsMoment (m : Moment) : Type 0 where
  pub year : m.year < 10000
  pub date : IsCivilDate (pos m.year) m.month m.day
  pub hour : m.hour < 24
  pub minute : m.minute < 60
  pub second : m.second < 60

-- the seconds since 1970-01-01T00:00:00Z: 86,400 times the date's day number, and those of the day
unfoldable pub seconds_of : Moment → ℤ
seconds_of m =
    days_from_civil (pos m.year) m.month m.day *ℤ pos 86400
    +ℤ pos (m.hour * 3600 + m.minute * 60 + m.second)

-- the last digit of a number
abbrev pub last_digit : ℕ → ℕ
last_digit n = 48 + n % 10

-- two digits, with leading zeros
abbrev pub two_digits : ℕ → List ℕ
two_digits n = last_digit (n / 10) ∷ last_digit n ∷ []

-- four digits, with leading zeros
abbrev pub four_digits : ℕ → List ℕ
four_digits n =
    last_digit (n / 1000) ∷ last_digit (n / 100) ∷ last_digit (n / 10) ∷ last_digit n ∷ []

-- YYYY-MM-DDTHH:MM:SSZ
abbrev pub moment_text : Moment → List ℕ
moment_text m =
    four_digits m.year ++ 45 ∷ two_digits m.month ++ 45 ∷ two_digits m.day
    ++ 84 ∷ two_digits m.hour ++ 58 ∷ two_digits m.minute ++ 58 ∷ two_digits m.second ++ 90 ∷ []

-- the text shows the moment that many seconds after 1970-01-01T00:00:00Z
pub record Shows (bytes : List ℕ) (time : ℕ) : Type 0 where
  pub moment : Moment
  pub is_moment : IsMoment moment
  pub text : bytes ≡ moment_text moment
  pub seconds : seconds_of moment ≡ pos time

-- the text of a time within the limits
pub record TimeText (bytes : List ℕ) (time : ℕ) : Type 0 where
  pub shows : Shows bytes time
  pub limits : IsPositive time
