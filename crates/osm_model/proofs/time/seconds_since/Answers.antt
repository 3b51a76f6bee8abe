use Rattle.std.proofs.Common.{◌≡◌, rules, arith, pos, w64, w32, w16, w8, FitsSigned, to_z, ◌∙◌, ◌+ℤ◌, ◌*ℤ◌, ◌*◌, ◌+◌}
use Rattle.std.proofs.lemmas.Int.{to_z-of_z, ints}
use Rattle.jiff_core.specs.Calendar.{IsDate, IsCivilDate}
use Rattle.jiff_core.specs.Date.{IsYmd, epoch_day}
use Rattle.osm_model.specs.Clock.{moment_of}
use Rattle.osm_model.specs.Time.{seconds_of}
use Rattle.osm_model.proofs.TimeLemmas.{sum_of, civil}
use Rattle.osm_model.proofs.time.seconds_since.Goals as goal

-- the casts keep the clock's numbers, so the date is the clock's
pub returns-clause-some : goal.returns-clause-some
returns-clause-some c =
    let p = c.args.clock in
    let date = c.in_ok-date.date in
    let f : FitsSigned w64 c.total.result = search rules in
    let fd : FitsSigned w32 c.to_unix_epoch_day.result = search rules in
    let e : c.total.result ≡ c.to_unix_epoch_day.result *ℤ pos 86400 +ℤ pos (p.hour * 3600 + p.minute * 60 + p.second) = simp to_z-of_z at c.total.ensures in
    let d : c.to_unix_epoch_day.result ≡ epoch_day c.in_ok-date.date = search rules in
    let is : IsYmd (to_z w16 p.year) (to_z w8 p.month) (to_z w8 p.day) c.in_ok-date.date = search rules in
    let ey : to_z w16 p.year ≡ pos p.year = omega (arith, ints) in
    let em : to_z w8 p.month ≡ pos p.month = omega (arith, ints) in
    let ed : to_z w8 p.day ≡ pos p.day = omega (arith, ints) in
    let month : pos c.in_ok-date.date.month ≡ pos p.month = is.1 ∙ em in
    let day : pos c.in_ok-date.date.day ≡ pos p.day = is.2 ∙ ed in
    let sum : c.total.result ≡ seconds_of (moment_of p) =
    sum_of (moment_of p) c.in_ok-date.date c.to_unix_epoch_day.result c.total.result d (is.0 ∙ ey) (cc) (cc) e in
    let made : IsDate (to_z w16 p.year) (to_z w8 p.month) (to_z w8 p.day) = search rules in
    let civil_date : IsCivilDate (pos p.year) p.month p.day = civil p.year p.month p.day (rw (ey, em, ed) at made) in
    (simp to_z-of_z sum, record { year = omega arith; date = civil_date; hour = omega arith; minute = omega arith; second = omega arith })
