use Rattle.std.proofs.Common.{◌+◌, ◌≤◌, arith, rules, pos}
use Rattle.std.proofs.lemmas.List.{take_rest}
use Rattle.jiff_core.specs.Calendar.{days_in_month}
use Rattle.osm_opl.specs.Steps.Begins.{HasMarks}
use Rattle.osm_opl.proofs.BeginTimeLemmas.{recent_begins, recent_date}
use Rattle.osm_opl.proofs.after_time.after_recent_time.Goals as goal

pub returns : goal.returns
returns c =
    let marks : HasMarks c.args.bytes.now = search rules in
    let last : c.in_ok-day.day ≤ days_in_month (pos (2000 + c.in_ok-year.year)) c.in_ok-month.month = search rules in
    rw (take_rest c.args.bytes.now 20)
    (recent_begins c.args.bytes.now c.in_ok-year.year c.in_ok-month.month c.in_ok-day.day c.in_ok-hour.hour
    c.in_ok-minute.minute c.in_ok-second.second c.days_before-days.result _ (omega arith) marks c.in_ok-year.ensures.pair c.in_ok-month.ensures.pair
    c.in_ok-day.ensures.pair c.in_ok-hour.ensures.pair c.in_ok-minute.ensures.pair c.in_ok-second.ensures.pair
    (recent_date c.in_ok-year.year c.in_ok-month.month c.in_ok-day.day c.in_ok-year.ensures.pair.small c.in_ok-month.ensures.within
    c.in_ok-day.ensures.within.0 last)
    (omega (arith, c.in_ok-hour.ensures.within.1)) (omega (arith, c.in_ok-minute.ensures.within.1))
    (omega (arith, c.in_ok-second.ensures.within.1)) c.days_before-days.ensures.count (omega (arith, c.second_of_day.ensures.seconds)))
