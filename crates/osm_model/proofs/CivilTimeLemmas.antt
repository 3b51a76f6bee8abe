-- Counting years and months on from January 1970 gives the date.
use Rattle.std.proofs.Common.{◌^◌, ◌≡◌, ℕ, zero, suc, ◌+◌, ◌-◌, ◌/◌, ◌%◌, ◌<◌, ◌≤◌, ◌⊎◌, inl, inr, true, false, refl, ap, ◌∙◌, arith, pos, nat_lt, lit≤}
use Rattle.std.proofs.lemmas.Bool.{cases_lt}
use Rattle.std.proofs.lemmas.Bool.Decides.{nat_tests}
use Rattle.std.proofs.lemmas.Int.{ints}
use Rattle.jiff_core.specs.Calendar.{IsCivilDate, days_in_year, days_in_month, days_from_civil, day_count}
use Rattle.jiff_core.proofs.SignedLemmas.{signed_arith}
use Rattle.jiff_core.proofs.MarchLemmas.{day_count-early}
use Rattle.jiff_core.proofs.CalendarLemmas.{day_count-epoch, day_count-next_year, day_count-next_month}
use Rattle.jiff_core.proofs.CalendarLemmas.{day_count-last_of_year, day_count-day, days_from_civil-day_count}
use Rattle.jiff_core.proofs.CalendarLemmas.{days_in_year_bounds}
use Rattle.osm_model.specs.Time.{Shows, moment_text, seconds_of}
use Rattle.osm_model.specs.CivilTime.{DayIn, time_text, moment_on, year_of_day, month_of_day}

day_count-2106 : day_count (pos 2106) 1 1 ≡ 4_421_626
day_count-2106 = day_count-early (pos 2106) 12105 1 1 refl (omega arith) (omega arith) (omega arith)

-- the day lies in the year, unless the search ended before
record IsYearOf (year days k : ℕ) (found : DayIn) : Type 0 where
  same_day : day_count (pos found.number) 1 1 + found.days ≡ day_count (pos year) 1 1 + days
  from : year ≤ found.number
  to : found.number ≤ year + k
  inside : (found.number ≡ year + k) ⊎ (found.days < days_in_year (pos found.number))

year_after : (year days k : ℕ) (found : DayIn) → days_in_year (pos year) ≤ days
    → IsYearOf (year + 1) (days - days_in_year (pos year)) k found → IsYearOf year days (suc k) found
year_after year days k found h r =
    let next = day_count-next_year (pos year) (pos (year + 1)) (omega (arith, signed_arith)) (omega (arith, ints)) in
    let from : year + 1 ≤ found.number = r.from in
    let to : found.number ≤ year + 1 + k = r.to in
    record {
      same_day = omega (arith, r.same_day, next);
      from = omega arith;
      to = omega arith;
      inside = elim r.inside [ inl last ↦ inl (omega (arith, last)) | inr inside ↦ inr inside ];
    }

is_year_of : (k year days : ℕ) → IsYearOf year days k (year_of_day k year days)
unfolding year_of_day
is_year_of zero year days = record { same_day = refl; from = omega arith; to = omega arith; inside = inl (omega arith) }
is_year_of (suc k) year days =
    elim (cases_lt days (days_in_year (pos year))) [
      | inl lt ↦
          let test : nat_lt days (days_in_year (pos year)) ≡ true = grind (arith, nat_tests) in
          rw test (record { same_day = refl; from = omega arith; to = omega arith; inside = inr lt })
      | inr ge ↦
          let test : nat_lt days (days_in_year (pos year)) ≡ false = grind (arith, nat_tests) in
          rw test (year_after year days k _ ge (is_year_of k (year + 1) (days - days_in_year (pos year))))
    ]

-- the day lies in the month, unless the search ended before
record IsMonthOf (year month days k : ℕ) (found : DayIn) : Type 0 where
  same_day : day_count (pos year) found.number 1 + found.days ≡ day_count (pos year) month 1 + days
  from : month ≤ found.number
  to : found.number ≤ month + k
  inside : (found.number ≡ month + k) ⊎ (found.days < days_in_month (pos year) found.number)

month_after : (year month days k : ℕ) (found : DayIn) → 1 ≤ month → days_in_month (pos year) month ≤ days
    → IsMonthOf year (month + 1) (days - days_in_month (pos year) month) k found
    → IsMonthOf year month days (suc k) found
month_after year month days k found first h r =
    let next = day_count-next_month (pos year) month first in
    let from : month + 1 ≤ found.number = r.from in
    let to : found.number ≤ month + 1 + k = r.to in
    record {
      same_day = omega (arith, r.same_day, next);
      from = omega arith;
      to = omega arith;
      inside = elim r.inside [ inl last ↦ inl (omega (arith, last)) | inr inside ↦ inr inside ];
    }

is_month_of : (k year month days : ℕ) → 1 ≤ month → IsMonthOf year month days k (month_of_day k year month days)
unfolding month_of_day
is_month_of zero year month days first = record { same_day = refl; from = omega arith; to = omega arith; inside = inl (omega arith) }
is_month_of (suc k) year month days first =
    elim (cases_lt days (days_in_month (pos year) month)) [
      | inl lt ↦
          let test : nat_lt days (days_in_month (pos year) month) ≡ true = grind (arith, nat_tests) in
          rw test (record { same_day = refl; from = omega arith; to = omega arith; inside = inr lt })
      | inr ge ↦
          let test : nat_lt days (days_in_month (pos year) month) ≡ false = grind (arith, nat_tests) in
          rw test (month_after year month days k _ first ge (is_month_of k year (month + 1) (days - days_in_month (pos year) month) (omega arith)))
    ]

-- the date with that day number
record IsDateOf (day : ℕ) (year : ℕ) (month : DayIn) : Type 0 where
  low : 1970 ≤ year
  high : year ≤ 2106
  date : IsCivilDate (pos year) month.number (month.days + 1)
  count : day_count (pos year) month.number (month.days + 1) ≡ 4_371_953 + day

year_within : (day : ℕ) (found : DayIn) → day < 49711 → IsYearOf 1970 day 136 found → found.days < days_in_year (pos found.number)
year_within day found h r =
    let epoch = day_count-epoch in
    let bounds = days_in_year_bounds (pos found.number) in
    elim r.inside [
      | inl last ↦
          let year : day_count (pos found.number) 1 1 ≡ 4_421_626 = ap (λ n. day_count (pos n) 1 1) last ∙ day_count-2106 in
          omega (arith, year, epoch, r.same_day, bounds.1)
      | inr inside ↦ inside
    ]

month_within : (year days : ℕ) (found : DayIn) → days < days_in_year (pos year) → IsMonthOf year 1 days 11 found
    → found.days < days_in_month (pos year) found.number
month_within year days found h r =
    elim r.inside [
      | inl last ↦
          let e : found.number ≡ 12 = last in
          let start : day_count (pos year) found.number 1 ≡ day_count (pos year) 12 1 = ap (λ n. day_count (pos year) n 1) e in
          let long : days_in_month (pos year) found.number ≡ 31 = rw e refl in
          omega (arith, start, long, r.same_day, day_count-last_of_year (pos year), day_count-day (pos year) 12 1 31 (omega arith) (omega arith))
      | inr inside ↦ inside
    ]

date_of_day : (day : ℕ) (year : DayIn) (month : DayIn) → day < 49711 → IsYearOf 1970 day 136 year
    → IsMonthOf year.number 1 year.days 11 month → IsDateOf day year.number month
date_of_day day year month h y m =
    let in_year = year_within day year h y in
    let in_month = month_within year.number year.days month in_year m in
    let low : 1970 ≤ year.number = y.from in
    let high : year.number ≤ 2106 = y.to in
    let first : 1 ≤ month.number = m.from in
    let last : month.number ≤ 12 = m.to in
    record {
      low = low;
      high = high;
      date = ((omega (arith, signed_arith), omega (arith, signed_arith)), (first, last), (omega arith, omega arith));
      count = omega (
        arith,
        m.same_day,
        y.same_day,
        day_count-epoch,
        day_count-day (pos year.number) month.number 1
            (month.days + 1) (omega arith) (omega arith),
      );
    }

-- so the moment shows the time
shown_by : (t year : ℕ) (month : DayIn) → IsDateOf (t / 86400) year month → Shows (moment_text (moment_on year month (t % 86400))) t
unfolding seconds_of
shown_by t year month h =
    let date = h.date in
    let low : 1970 ≤ year = h.low in
    let high : year ≤ 2106 = h.high in
    let second : ℕ = t % 86400 in
    let count = days_from_civil-day_count (pos year) month.number (month.days + 1) in
    let day : days_from_civil (pos year) month.number (month.days + 1) ≡ pos (t / 86400) = omega (arith, signed_arith, count, h.count) in
    record {
      moment = moment_on year month (t % 86400);
      is_moment = record { year = omega arith; date = h.date; hour = omega arith; minute = omega arith; second = omega arith };
      text = refl;
      seconds = rw day (omega (arith, ints));
    }

-- the text by counting on is a text of the time
pub time_text_shows : (t : ℕ) → t < 2 ^ 32 → Shows (time_text t) t
unfolding time_text
time_text_shows t h =
    let small : t / 86400 < 49711 = omega arith in
    let in_year = is_year_of 136 1970 (t / 86400) in
    let in_month = is_month_of 11 _ 1 _ (lit≤ tt) in
    shown_by t _ _ (date_of_day (t / 86400) _ _ small in_year in_month)
