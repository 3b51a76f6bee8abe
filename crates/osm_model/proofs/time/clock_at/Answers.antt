use Rattle.std.proofs.Common.{◌≡◌, ℕ, pos, rules, arith, ap, sym, refl, ◌+◌, ◌*◌, ◌/◌, ◌%◌, w8, w16, FitsSigned, to_z, of_z, ◌+ℤ◌, ◌*ℤ◌}
use Rattle.std.specs.Prelude.{unsigned_abs}
use Rattle.std.proofs.lemmas.Int.{ints}
use Rattle.jiff_core.specs.Date.{epoch_day}
use Rattle.osm_model.specs.Time.{Moment}
use Rattle.osm_model.proofs.TimeLemmas.{sum_of}
use Rattle.osm_model.proofs.time.clock_at.Goals as goal

-- the casts keep the date's numbers, and the quotients and rests of the seconds make them up again
pub returns-clause-seconds : goal.returns-clause-seconds
returns-clause-seconds c =
    let date = c.args.date in
    let seconds : ℕ = c.args.second_of_day in
    let ey : c.year.result ≡ c.args.date.year = search rules in
    let em : c.month.result ≡ pos c.args.date.month = search rules in
    let ed : c.day.result ≡ pos c.args.date.day = search rules in
    let fy : FitsSigned w16 c.year.result = search rules in
    let fm : FitsSigned w8 c.month.result = search rules in
    let fd : FitsSigned w8 c.day.result = search rules in
    let p : Moment = record {
      year = unsigned_abs (to_z w16 (of_z w16 c.year.result));
      month = unsigned_abs (to_z w8 (of_z w8 c.month.result));
      day = unsigned_abs (to_z w8 (of_z w8 c.day.result));
      hour = c.args.second_of_day / 3600;
      minute = c.args.second_of_day / 60 % 60;
      second = c.args.second_of_day % 60;
    } in
    let whole : seconds / 3600 * 3600 + seconds / 60 % 60 * 60 + seconds % 60 ≡ seconds = omega arith in
    sym (sum_of p c.args.date (epoch_day c.args.date) (epoch_day c.args.date *ℤ pos 86400 +ℤ pos c.args.second_of_day) refl
    (omega (arith, ints, c.requires.year)) (omega (arith, ints)) (omega (arith, ints))
    (ap (λ n. epoch_day c.args.date *ℤ pos 86400 +ℤ pos n) (sym whole)))
