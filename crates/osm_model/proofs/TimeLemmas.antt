-- What the digits of a text give back, and that no two texts show one time.
use Rattle.std.proofs.Common.{◌≡◌, ℕ, ◌+◌, ◌-◌, ◌*◌, ◌/◌, ◌%◌, ◌<◌, ◌≤◌, List, arith, refl, ap, ◌∙◌, sym, pos, ℤ, inl, inr}
use Rattle.std.specs.Prelude.{min, ◌+ℤ◌, ◌*ℤ◌, ◌≤ℤ◌}
use Rattle.std.proofs.lemmas.Bool.{cases_lt}
use Rattle.std.proofs.lemmas.Int.{ints, by_lt_z}
use Rattle.jiff_core.specs.Calendar.{IsCivilDate, IsDate, days_in_month, days_from_civil, day_count}
use Rattle.jiff_core.specs.Date.{epoch_day}
use Rattle.jiff_core.specs.declared.civil.date.Date.{Date}
use Rattle.jiff_core.proofs.SignedLemmas.{signed_arith}
use Rattle.jiff_core.proofs.CalendarLemmas.{days_in_month_bounds, day_count-lt_year, day_count-lt_month, day_count-day}
use Rattle.jiff_core.proofs.CalendarLemmas.{day_count-epoch, days_from_civil-day_count}
use Rattle.osm_model.specs.Clock.{loose_moment, HasDigits}
use Rattle.osm_model.specs.Time.{Moment, IsMoment, Shows, moment_text, seconds_of}

four_back : (y : ℕ) → y < 10000 → 100 * (10 * min (48 + y / 1000 % 10 - 48) 9 + min (48 + y / 100 % 10 - 48) 9)
    + (10 * min (48 + y / 10 % 10 - 48) 9 + min (48 + y % 10 - 48) 9) ≡ y
four_back y h = omega arith

two_back : (m : ℕ) → m < 100 → 10 * min (48 + m / 10 % 10 - 48) 9 + min (48 + m % 10 - 48) 9 ≡ m
two_back m h = omega arith

same_parts : (a b c d e f a' b' c' d' e' f' : ℕ) → a ≡ a' → b ≡ b' → c ≡ c' → d ≡ d' → e ≡ e' → f ≡ f'
    → (let m : Moment = record { year = a; month = b; day = c; hour = d; minute = e; second = f } in
    m) ≡ (let n : Moment = record { year = a'; month = b'; day = c'; hour = d'; minute = e'; second = f' } in n)
same_parts a b c d e f a' b' c' d' e' f' p q r s t u = rw (p, q, r, s, t, u) refl

same_moment : (m n : Moment) → m.year ≡ n.year → m.month ≡ n.month → m.day ≡ n.day → m.hour ≡ n.hour → m.minute ≡ n.minute → m.second ≡ n.second → m ≡ n
same_moment m n y o d h i s = same_parts m.year m.month m.day m.hour m.minute m.second n.year n.month n.day n.hour n.minute n.second y o d h i s

-- the digits of a moment's text are the moment
pub loose_moment-moment_text : (m : Moment) → HasDigits m → loose_moment (moment_text m) ≡ m
loose_moment-moment_text m h =
    same_moment (loose_moment (moment_text m)) m (four_back m.year h.year) (two_back m.month h.month)
    (two_back m.day h.day) (two_back m.hour h.hour) (two_back m.minute h.minute) (two_back m.second h.second)

pub has_digits : (m : Moment) → IsMoment m → HasDigits m
has_digits m h =
    let most : days_in_month (pos m.year) m.month ≤ 31 = (days_in_month_bounds (pos m.year) m.month).0 in
    let date = h.date in
    let year = h.year in
    let hour = h.hour in
    let minute = h.minute in
    let second = h.second in
    record { year = omega arith; month = omega arith; day = omega arith; hour = omega arith; minute = omega arith; second = omega arith }

-- what a text shows is what its digits show
pub record ShownByDigits (bytes : List ℕ) (m : Moment) (time : ℕ) : Type 0 where
  pub text : bytes ≡ moment_text m
  pub is_moment : IsMoment m
  pub seconds : seconds_of m ≡ pos time

pub shown_by_digits : (bytes : List ℕ) (m : Moment) (time : ℕ) → m ≡ loose_moment bytes → Shows bytes time → ShownByDigits bytes m time
shown_by_digits bytes m time e h =
    let back : loose_moment (moment_text h.moment) ≡ h.moment = loose_moment-moment_text h.moment (has_digits h.moment h.is_moment) in
    let same : m ≡ h.moment = e ∙ (ap loose_moment h.text ∙ back) in
    rw same (record { text = h.text; is_moment = h.is_moment; seconds = h.seconds })

-- the sum of a day's seconds and those since its midnight
pub sum_of : (p : Moment) (date : Date) (day total : ℤ) → day ≡ epoch_day date → date.year ≡ pos p.year
    → date.month ≡ p.month → date.day ≡ p.day → total ≡ day *ℤ pos 86400 +ℤ pos (p.hour * 3600 + p.minute * 60
    + p.second) → total ≡ seconds_of p
unfolding seconds_of
sum_of p date day total e y m d s = s ∙ rw (e, y, m, d) refl

-- a date of such numbers is one of the calendar's
pub civil : (y m d : ℕ) → IsDate (pos y) (pos m) (pos d) → IsCivilDate (pos y) m d
civil y m d h = (h.0, (omega (arith, ints, h.1.0), omega (arith, ints, h.1.1)), (omega (arith, ints, h.2.0), omega (arith, ints, h.2.1)))

-- no day from 1970 on belongs to an earlier year
pub year_from : (y : ℤ) (m d : ℕ) (day : ℕ) → IsCivilDate y m d → days_from_civil y m d ≡ pos day → pos 1970 ≤ℤ y
year_from y m d day is e =
    by_lt_z y (pos 1970)
    (λ lt. absurd (omega (
      arith,
      signed_arith,
      day_count-lt_year y m d (pos 1970) 1 1 is (omega arith) lt,
      day_count-epoch,
      rw e at (days_from_civil-day_count y m d),
    )))
    (λ le. le)

-- a day number belongs to one date
pub record SameDate (y m d y' m' d' : ℕ) : Type 0 where
  pub year : y ≡ y'
  pub month : m ≡ m'
  pub day : d ≡ d'

same_count : (y y' : ℤ) (m d m' d' : ℕ) → days_from_civil y m d ≡ days_from_civil y' m' d' → day_count y m d ≡ day_count y' m' d'
same_count y y' m d m' d' e =
    let a = days_from_civil-day_count y m d in
    let b = days_from_civil-day_count y' m' d' in
    omega (arith, a, rw (← e) at b)

not_below_year : (y m d y' m' d' : ℕ) → IsCivilDate (pos y) m d → IsCivilDate (pos y') m' d' → day_count (pos y) m d ≡ day_count (pos y') m' d' → y < y' → ⊥
not_below_year y m d y' m' d' is is' e lt =
    let below : day_count (pos y) m d < day_count (pos y') m' d' = day_count-lt_year (pos y) m d (pos y') m' d' is
    (omega (arith, is'.2.0)) (omega (arith, ints)) in omega arith

not_below_month : (y m d m' d' : ℕ) → IsCivilDate (pos y) m d → IsCivilDate (pos y) m' d' → day_count (pos y) m d ≡ day_count (pos y) m' d' → m < m' → ⊥
not_below_month y m d m' d' is is' e lt =
    let below : day_count (pos y) m d < day_count (pos y) m' d' = day_count-lt_month (pos y) m d m' d' is (omega (arith, is'.2.0)) lt in omega arith

not_apart : (a b : ℕ) → (a < b → ⊥) → (b < a → ⊥) → a ≡ b
not_apart a b f g = elim (cases_lt a b) [
  | inl lt ↦ absurd (f lt)
  | inr le ↦ elim (cases_lt b a) [ inl gt ↦ absurd (g gt) | inr ge ↦ omega arith ]
]

pub same_date : (y m d y' m' d' : ℕ) → IsCivilDate (pos y) m d → IsCivilDate (pos y') m' d'
    → days_from_civil (pos y) m d ≡ days_from_civil (pos y') m' d' → SameDate y m d y' m' d'
same_date y m d y' m' d' is is' e =
    let count : day_count (pos y) m d ≡ day_count (pos y') m' d' = same_count (pos y) (pos y') m d m' d' e in
    let year : y ≡ y' = not_apart y y' (not_below_year y m d y' m' d' is is' count) (not_below_year y' m' d' y m d is' is (sym count)) in
    let there : IsCivilDate (pos y) m' d' = rw year is' in
    let counted : day_count (pos y) m d ≡ day_count (pos y) m' d' = count ∙ rw (← year) refl in
    let month : m ≡ m' = not_apart m m' (not_below_month y m d m' d' is there counted) (not_below_month y m' d' m d there is (sym counted)) in
    let days : day_count (pos y) m d ≡ day_count (pos y) m d' = counted ∙ rw (← month) refl in
    let apart : day_count (pos y) m d + d' ≡ day_count (pos y) m d' + d = day_count-day (pos y) m d d' (omega (arith, is.2.0)) (omega (arith, is'.2.0)) in
    record { year = year; month = month; day = omega arith }

-- the sum of their seconds determines a day and a time of day
split_day : (a b : ℤ) (x y : ℕ) → x < 86400 → y < 86400 → a *ℤ pos 86400 +ℤ pos x ≡ b *ℤ pos 86400 +ℤ pos y → (a ≡ b) × (x ≡ y)
split_day a b x y hx hy e =
    let same : a ≡ b = by_lt_z a b (λ lt. absurd (omega (arith, ints, lt, e)))
    (λ ge. by_lt_z b a (λ gt. absurd (omega (arith, ints, gt, e))) (λ le. omega (arith, ints, ge, le))) in
    (same, omega (arith, ints, same, e))

clock_back : (h i s h' i' s' : ℕ) → i < 60 → s < 60 → i' < 60 → s' < 60 → h * 3600 + i * 60 + s ≡ h' * 3600 + i' * 60 + s' → (h ≡ h') × (i ≡ i') × (s ≡ s')
clock_back h i s h' i' s' a b c d e = (omega arith, omega arith, omega arith)

-- a time belongs to one moment
pub one_moment : (m n : Moment) → IsMoment m → IsMoment n → seconds_of m ≡ seconds_of n → m ≡ n
unfolding seconds_of
one_moment m n p q e =
    let hp = p.hour in
    let mp = p.minute in
    let sp = p.second in
    let hq = q.hour in
    let mq = q.minute in
    let sq = q.second in
    let parts = split_day (days_from_civil (pos m.year) m.month m.day) (days_from_civil (pos n.year) n.month n.day)
    (m.hour * 3600 + m.minute * 60 + m.second) (n.hour * 3600 + n.minute * 60 + n.second) (omega arith)
    (omega arith) e in
    let date = same_date m.year m.month m.day n.year n.month n.day p.date q.date parts.0 in
    let clock = clock_back m.hour m.minute m.second n.hour n.minute n.second mp sp mq sq parts.1 in
    same_moment m n date.year date.month date.day clock.0 clock.1 clock.2

-- one time has one text
pub one_text : (a b : List ℕ) (time : ℕ) → Shows a time → Shows b time → a ≡ b
one_text a b time p q = p.text ∙ (ap moment_text (one_moment p.moment q.moment p.is_moment q.is_moment (p.seconds ∙ sym q.seconds)) ∙ sym q.text)
