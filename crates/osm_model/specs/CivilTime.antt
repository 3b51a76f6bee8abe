-- The text of a time as a function of its seconds since 1970, by counting years and months on from
-- January 1970.
use Rattle.std.specs.Prelude.{ℕ, zero, suc, ◌+◌, ◌-◌, ◌/◌, ◌%◌, nat_lt, List, if◌then◌else◌, pos}
use Rattle.jiff_core.specs.Calendar.{days_in_year, days_in_month}
use Rattle.osm_model.specs.Time.{Moment, moment_text}

-- a year or a month, and the number of days from its first day to a day
pub record DayIn : Type 0 where
  pub number : ℕ
  pub days : ℕ

-- the year of the day that is so many days after the first of a year, searched for within so many
-- years
unfoldable pub year_of_day : ℕ → ℕ → ℕ → DayIn
year_of_day zero year days = record { number = year; days = days }
year_of_day (suc k) year days =
    if nat_lt days (days_in_year (pos year)) then record { number = year; days = days }
    else year_of_day k (year + 1) (days - days_in_year (pos year))

-- the month of the day that is so many days after the first of a month of the year
unfoldable pub month_of_day : ℕ → ℕ → ℕ → ℕ → DayIn
month_of_day zero year month days = record { number = month; days = days }
month_of_day (suc k) year month days =
    if nat_lt days (days_in_month (pos year) month) then record { number = month; days = days }
    else month_of_day k year (month + 1) (days - days_in_month (pos year) month)

-- the moment so many seconds after a date's midnight
abbrev pub moment_on : ℕ → DayIn → ℕ → Moment
moment_on year month second = record {
  year = year;
  month = month.number;
  day = month.days + 1;
  hour = second / 3600;
  minute = second / 60 % 60;
  second = second % 60;
}

-- the moment of a time: its year is one of the 137 from 1970 to 2106
abbrev pub moment_at : ℕ → Moment
moment_at time =
    let year = year_of_day 136 1970 (time / 86400) in
    moment_on year.number (month_of_day 11 year.number 1 year.days) (time % 86400)

-- YYYY-MM-DDTHH:MM:SSZ
unfoldable pub time_text : ℕ → List ℕ
time_text time = moment_text (moment_at time)
