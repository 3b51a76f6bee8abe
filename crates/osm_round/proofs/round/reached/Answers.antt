use Rattle.std.proofs.Common.{rules}
use Rattle.osm_round.proofs.round.reached.Goals as goal

pub returns-clause-report : goal.returns-clause-report
returns-clause-report g c count taken = (c.in_ok-missing.missing.items, c.requires.reached, search rules, c.in_ok-missing.ensures.gap, search rules)
