use Rattle.std.proofs.Common.{arith}
use Rattle.osm_merge.proofs.OpeningLemmas.{head_longer, rest_is}
use Rattle.osm_printing.proofs.start.start_of.Goals as goal

pub overflow_sub-result : goal.overflow_sub-result
overflow_sub-result c = head_longer c.args.block.now (c.in-Ok._version, c.in-Ok.head, c.in-Ok._filter, c.in-Ok.rest.now) c.in-Ok.ensures.value

pub returns-in-Ok-clause-starts : goal.returns-in-Ok-clause-starts
returns-in-Ok-clause-starts c = record {
  version = c.in-Ok._version;
  filter = c.in-Ok._filter;
  within = omega arith;
  head = rest_is c.args.block.now (c.in-Ok._version, c.in-Ok.head, c.in-Ok._filter, c.in-Ok.rest.now) c.in-Ok.ensures.value;
}
