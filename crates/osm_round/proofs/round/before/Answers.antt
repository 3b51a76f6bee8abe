use Rattle.std.proofs.Common.{rules}
use Rattle.osm_round.proofs.round.before.Goals as goal

pub returns-clause-report : goal.returns-clause-report
returns-clause-report c count taken = (c.in_ok-said.said.bytes.items, search rules)
