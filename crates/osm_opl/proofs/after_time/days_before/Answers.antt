use Rattle.std.proofs.Common.{◌-◌, arith}
use Rattle.osm_opl.proofs.BeginTimeLemmas.{months_bound, recent_day}
use Rattle.osm_opl.proofs.after_time.days_before.Goals as goal

pub returns-clause-count : goal.returns-clause-count
returns-clause-count c =
    recent_day c.args.year c.args.month c.args.day c.leap_day.result c.requires.0 c.requires.1 c.requires.2 c.requires.3
    c.leap_day.ensures.days

pub returns-clause-limit : goal.returns-clause-limit
returns-clause-limit c = omega (arith, months_bound (c.args.month - 1))
