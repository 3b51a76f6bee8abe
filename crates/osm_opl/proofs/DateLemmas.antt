-- Bytes are read as a time exactly if they are its text.
use Rattle.std.proofs.Common.{◌≡◌, ℕ, ◌^◌, ◌<◌, ◌≤◌, true, leb, ltb, ◌&&◌, List, Option, Some, None, refl, arith}
use Rattle.std.specs.Prelude.{unsigned_abs, IfSome}
use Rattle.std.proofs.lemmas.Bool.Decides.{nat_tests}
use Rattle.std.proofs.lemmas.Option.{same_Some}
use Rattle.std.specs.Str.{bytes_eq}
use Rattle.std.proofs.lemmas.Slice.Eq.{bytes_eq-Decides}
use Rattle.osm_model.specs.Clock.{loose_moment}
use Rattle.osm_model.specs.Time.{Shows, TimeText, seconds_of}
use Rattle.osm_model.proofs.TimeLemmas.{loose_moment-moment_text, has_digits, one_text}
use Rattle.osm_model.specs.CivilTime.{time_text}
use Rattle.osm_model.proofs.CivilTimeLemmas.{time_text_shows}
use Rattle.osm_opl.specs.Reading.{time_at}
use Rattle.osm_reading.proofs.StepLemmas.{both_held, guard_some}

shows_at : (bytes : List ℕ) (t : ℕ) → t < 2 ^ 32 → bytes ≡ time_text t → Shows bytes t
shows_at bytes t h e = rw e (time_text_shows t h)

-- bytes that are read as a time are its text
pub time_takes : (bytes : List ℕ) (t : ℕ) → time_at bytes ≡ Some t → TimeText bytes t
unfolding time_at
time_takes bytes t e =
    let u : ℕ = unsigned_abs (seconds_of (loose_moment bytes)) in
    let g = guard_some (leb 1 u && ltb u (2 ^ 32) && bytes_eq bytes (time_text u)) (Some u) t e in
    let p = both_held (leb 1 u && ltb u (2 ^ 32)) (bytes_eq bytes (time_text u)) g.0 in
    let q = both_held (leb 1 u) (ltb u (2 ^ 32)) p.0 in
    let a : leb 1 u ≡ true = q.0 in
    let b : ltb u (2 ^ 32) ≡ true = q.1 in
    let low : 1 ≤ u = grind (arith, nat_tests) in
    let high : u < 2 ^ 32 = grind (arith, nat_tests) in
    let same : bytes ≡ time_text u = (bytes_eq-Decides bytes (time_text u)).0 p.1 in
    let is : u ≡ t = same_Some u t g.1 in
    rw (← is) (record { shows = shows_at bytes u high same; limits = record { low = low; high = high } })

pub time_again : (bytes : List ℕ) (t : ℕ) → TimeText bytes t → time_at bytes ≡ Some t
unfolding time_at
time_again bytes t h =
    let shown = h.shows in
    let moment : loose_moment bytes ≡ shown.moment = rw shown.text (loose_moment-moment_text shown.moment (has_digits shown.moment shown.is_moment)) in
    let value : unsigned_abs (seconds_of (loose_moment bytes)) ≡ t = rw (moment, shown.seconds) refl in
    let low : 1 ≤ t = h.limits.low in
    let high : t < 2 ^ 32 = h.limits.high in
    let a : leb 1 t ≡ true = grind (arith, nat_tests) in
    let b : ltb t (2 ^ 32) ≡ true = grind (arith, nat_tests) in
    let text : bytes ≡ time_text t = one_text bytes (time_text t) t shown (time_text_shows t high) in
    let eq : bytes_eq bytes (time_text t) ≡ true = (bytes_eq-Decides bytes (time_text t)).1 text in
    rw (value, a, b, eq) refl

pub time_found : (bytes : List ℕ) (r : Option ℕ) → IfSome r (λ t. TimeText bytes t) → ((t : ℕ) → TimeText bytes t → r ≡ Some t) → time_at bytes ≡ r
time_found bytes (Some t) sound complete = time_again bytes t sound
time_found bytes None sound complete = by_option (time_at bytes) (λ t e. let c = complete t (time_takes bytes t e) in absurd cc)
  where
    by_option : (r : Option ℕ) → ((t : ℕ) → r ≡ Some t → ⊥) → r ≡ None
    by_option None f = refl
    by_option (Some t) f = absurd (f t refl)
