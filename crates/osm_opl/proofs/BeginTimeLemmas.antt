-- Bytes that begin with the text of a time from 2000 to 2099.
use Rattle.std.proofs.Common.{◌≡◌, ℕ, ◌+◌, ◌-◌, ◌*◌, ◌/◌, ◌<◌, ◌≤◌, ◌^◌, zero, suc, List, [], ◌∷◌, ◌++◌}
use Rattle.std.proofs.Common.{length, get_or, drop, drop-cons, refl, sym, ap, ◌∙◌, arith, pos}
use Rattle.std.specs.Prelude.{◌&&◌, Bool, true, false, cond, nat_lt}
use Rattle.std.proofs.lemmas.Bool.Decides.{nat_tests}
use Rattle.std.proofs.lemmas.Int.{ints}
use Rattle.jiff_core.specs.Calendar.{IsCivilDate, day_count, day_of_year, days_from_civil, days_in_month, is_leap_year}
use Rattle.jiff_core.specs.March.{march_days, march_months}
use Rattle.jiff_core.proofs.CalendarLemmas.{day_count-day_of_year, day_count-epoch, day_count-lt_year, days_from_civil-day_count, days_of_months_table}
use Rattle.jiff_core.proofs.MarchLemmas.{day_count-early, leap_day}
use Rattle.jiff_core.proofs.SignedLemmas.{signed_arith}
use Rattle.osm_model.specs.CivilTime.{time_text}
use Rattle.osm_model.specs.Limits.{IsPositive}
use Rattle.osm_model.specs.Time.{IsMoment, Moment, Shows, four_digits, last_digit, moment_text, seconds_of, two_digits}
use Rattle.osm_model.proofs.CivilTimeLemmas.{time_text_shows}
use Rattle.osm_model.proofs.TimeLemmas.{one_text}
use Rattle.osm_opl.specs.Steps.Begins.{BeginsWith, HasMarks, IsPair}

-- ---- the calendar from 2000 to 2099

pub recent_date : (year month day : ℕ) → year < 100 → (1 ≤ month) × (month ≤ 12) → 1 ≤ day
    → day ≤ days_in_month (pos (2000 + year)) month → IsCivilDate (pos (2000 + year)) month day
recent_date year month day small months first last =
    ((omega (arith, signed_arith), omega (arith, signed_arith)), months, (first, last))

-- the number of a date's day, from 1970 on
record DayNumber (y m d : ℕ) : Type 0 where
  number : ℕ
  counted : number + 4_371_953 ≡ day_count (pos y) m d
  is : days_from_civil (pos y) m d ≡ pos number
  low : 1 ≤ number
  high : number < 49673

day_number : (y m d : ℕ) → 1970 < y → y < 2106 → IsCivilDate (pos y) m d → DayNumber y m d
day_number y m d low high is =
    let start : day_count (pos 2106) 1 1 ≡ 4_421_626 = day_count-early (pos 2106) 12105 1 1 refl (omega arith) (omega arith) (omega arith) in
    let epoch = day_count-epoch in
    let before : day_count (pos y) m d < day_count (pos 2106) 1 1 = day_count-lt_year (pos y) m d (pos 2106) 1 1 is (omega arith) (omega (arith, ints)) in
    let first : IsCivilDate (pos 1970) 1 1 = ((omega (arith, ints), omega (arith, ints)), (omega arith, omega arith), (omega arith, omega arith)) in
    let after : day_count (pos 1970) 1 1 < day_count (pos y) m d =
    day_count-lt_year (pos 1970) 1 1 (pos y) m d first (omega (arith, is.2.0)) (omega (arith, ints)) in
    let count = days_from_civil-day_count (pos y) m d in
    record {
      number = day_count (pos y) m d - 4_371_953;
      counted = omega (arith, epoch, after);
      is = omega (arith, signed_arith, count, epoch, after);
      low = omega (arith, epoch, after);
      high = omega (arith, start, before, epoch, after);
    }

-- the year begins after all the days of those before it, of which every fourth is a leap year
first_of_year : (y : ℕ) → y < 100 → day_count (pos (2000 + y)) 1 1 ≡ 4_382_910 + 365 * y + (y + 3) / 4
first_of_year y small =
    let start : day_count (pos (2000 + y)) 1 1 ≡ march_days (11999 + y) + march_months 13 + 1 + 59 =
    day_count-early (pos (2000 + y)) (11999 + y) 1 1 (omega (arith, signed_arith)) (omega arith) (omega arith) (omega arith) in
    omega (arith, start)

abbrev pub days_before : List ℕ
days_before = 0 ∷ 31 ∷ 59 ∷ 90 ∷ 120 ∷ 151 ∷ 181 ∷ 212 ∷ 243 ∷ 273 ∷ 304 ∷ 334 ∷ []

one_test : (a b : Bool) → ◌≡◌ {A = ℕ} (cond (a && b) 1 0) (cond a (cond b 1 0) 0)
one_test true b = refl
one_test false b = refl

pub recent_day : (y m d leap : ℕ) → y < 100 → 1 ≤ m → m ≤ 12 → 1 ≤ d
    → leap ≡ cond (nat_lt 2 m && is_leap_year (pos (2000 + y))) 1 0
    → 10957 + (365 * y + (y + 3) / 4) + (get_or days_before (m - 1) 0 + leap) + (d - 1) + 4_371_953 ≡ day_count (pos (2000 + y)) m d
recent_day y m d leap small low high first is =
    let year = first_of_year y small in
    let count : day_count (pos (2000 + y)) m d + 1 ≡ day_count (pos (2000 + y)) 1 1 + day_of_year (pos (2000 + y)) m d =
    day_count-day_of_year (pos (2000 + y)) m d first in
    let months = days_of_months_table (pos (2000 + y)) (m - 1) (omega arith) in
    let late : nat_lt 2 m ≡ nat_lt 1 (m - 1) = grind (arith, nat_tests) in
    let leaps : leap ≡ cond (nat_lt 1 (m - 1)) (leap_day (pos (2000 + y))) 0 =
    is ∙ one_test (nat_lt 2 m) (is_leap_year (pos (2000 + y)))
    ∙ ap (λ (t : Bool). cond t (leap_day (pos (2000 + y))) 0) late in
    omega (arith, year, count, months, leaps)

pub months_bound : (n : ℕ) → get_or days_before n 0 ≤ 334
months_bound zero = omega arith
months_bound (suc zero) = omega arith
months_bound (suc (suc zero)) = omega arith
months_bound (suc (suc (suc zero))) = omega arith
months_bound (suc (suc (suc (suc zero)))) = omega arith
months_bound (suc (suc (suc (suc (suc zero))))) = omega arith
months_bound (suc (suc (suc (suc (suc (suc zero)))))) = omega arith
months_bound (suc (suc (suc (suc (suc (suc (suc zero))))))) = omega arith
months_bound (suc (suc (suc (suc (suc (suc (suc (suc zero)))))))) = omega arith
months_bound (suc (suc (suc (suc (suc (suc (suc (suc (suc zero))))))))) = omega arith
months_bound (suc (suc (suc (suc (suc (suc (suc (suc (suc (suc zero)))))))))) = omega arith
months_bound (suc (suc (suc (suc (suc (suc (suc (suc (suc (suc (suc zero))))))))))) = omega arith
months_bound (suc (suc (suc (suc (suc (suc (suc (suc (suc (suc (suc (suc n)))))))))))) = omega arith

-- ---- the text

-- a moment of such a year is within the limits of a time
moment_begins : (m : Moment) (count : ℕ) (bytes rest : List ℕ) → IsMoment m → 1970 < m.year → m.year < 2106
    → count + 4_371_953 ≡ day_count (pos m.year) m.month m.day → bytes ≡ moment_text m ++ rest
    → BeginsWith time_text IsPositive (86400 * count + (m.hour * 3600 + m.minute * 60 + m.second)) bytes rest
unfolding seconds_of
moment_begins m count bytes rest is low high counted e =
    let day : DayNumber m.year m.month m.day = day_number m.year m.month m.day low high is.date in
    let hour : m.hour < 24 = is.hour in
    let minute : m.minute < 60 = is.minute in
    let second : m.second < 60 = is.second in
    let first : 1 ≤ day.number = day.low in
    let last : day.number < 49673 = day.high in
    let same : day.number ≡ count = omega (arith, day.counted, counted) in
    let t : ℕ = 86400 * count + (m.hour * 3600 + m.minute * 60 + m.second) in
    let within : t < 2 ^ 32 = omega arith in
    let shows : Shows (moment_text m) t = record {
      moment = m;
      is_moment = is;
      text = refl;
      seconds = rw (day.is, same) (omega (arith, ints));
    } in
    record {
      limits = record { low = omega arith; high = within };
      parts = e ∙ ap (λ (l : List ℕ). l ++ rest) (one_text (moment_text m) (time_text t) t shows (time_text_shows t within));
    }

recent_year : (y : ℕ) → y < 100 → four_digits (2000 + y) ≡ 50 ∷ 48 ∷ two_digits y
recent_year y small =
    let thousands : last_digit ((2000 + y) / 1000) ≡ 50 = omega arith in
    let hundreds : last_digit ((2000 + y) / 100) ≡ 48 = omega arith in
    let tens : last_digit ((2000 + y) / 10) ≡ last_digit (y / 10) = omega arith in
    let ones : last_digit (2000 + y) ≡ last_digit y = omega arith in
    cc

-- so many bytes from a place on
abbrev bytes_at : ℕ → ℕ → List ℕ → List ℕ
bytes_at zero k bytes = []
bytes_at (suc n) k bytes = get_or bytes k 0 ∷ bytes_at n (suc k) bytes

cut_at : (n k : ℕ) (bytes : List ℕ) → k + n ≤ length bytes → drop k bytes ≡ bytes_at n k bytes ++ drop (k + n) bytes
cut_at zero k bytes h = let e : k + 0 ≡ k = omega arith in rw e refl
cut_at (suc n) k bytes h =
    let e : k + suc n ≡ suc k + n = omega arith in
    drop-cons bytes k 0 (omega arith) ∙ ap (λ (l : List ℕ). get_or bytes k 0 ∷ l) (cut_at n (suc k) bytes (omega arith))
    ∙ rw e refl

-- bytes with these marks and pairs begin with the text of a time
pub recent_begins : (bytes : List ℕ) (year month day hour minute second count time : ℕ) → 20 ≤ length bytes → HasMarks bytes
    → IsPair (get_or bytes 2 0) (get_or bytes 3 0) year → IsPair (get_or bytes 5 0) (get_or bytes 6 0) month
    → IsPair (get_or bytes 8 0) (get_or bytes 9 0) day → IsPair (get_or bytes 11 0) (get_or bytes 12 0) hour
    → IsPair (get_or bytes 14 0) (get_or bytes 15 0) minute → IsPair (get_or bytes 17 0) (get_or bytes 18 0) second
    → IsCivilDate (pos (2000 + year)) month day → hour < 24 → minute < 60 → second < 60
    → count + 4_371_953 ≡ day_count (pos (2000 + year)) month day → time ≡ 86400 * count + (hour * 3600 + minute * 60 + second)
    → BeginsWith time_text IsPositive time bytes (drop 20 bytes)
recent_begins bytes year month day hour minute second count time long marks y o d h i s date a b c counted timed =
    let small : year < 100 = y.small in
    let m : Moment = record { year = 2000 + year; month = month; day = day; hour = hour; minute = minute; second = second } in
    let is : IsMoment m = record { year = omega arith; date = date; hour = a; minute = b; second = c } in
    let rest : List ℕ = drop 20 bytes in
    let after : List ℕ = 45 ∷ two_digits month ++ 45 ∷ two_digits day ++ 84 ∷ two_digits hour ++ 58 ∷ two_digits minute
    ++ 58 ∷ two_digits second ++ 90 ∷ rest in
    let whole : bytes ≡ bytes_at 20 0 bytes ++ rest = cut_at 20 0 bytes long in
    let same : bytes_at 20 0 bytes ++ rest ≡ (50 ∷ 48 ∷ two_digits year) ++ after =
    rw (
      marks.thousands,
      marks.hundreds,
      y.first,
      y.second,
      marks.year,
      o.first,
      o.second,
      marks.month,
      d.first,
      d.second,
      marks.day,
      h.first,
      h.second,
      marks.hour,
      i.first,
      i.second,
      marks.minute,
      s.first,
      s.second,
      marks.second,
    ) refl in
    rw timed (moment_begins m count bytes rest is (omega arith) (omega arith) counted
    (whole ∙ same ∙ ap (λ (l : List ℕ). l ++ after) (sym (recent_year year small))))
