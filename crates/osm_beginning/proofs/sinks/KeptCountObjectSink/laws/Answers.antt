use Rattle.osm_beginning.proofs.SinkLemmas.{counts_more}
use Rattle.osm_beginning.proofs.sinks.KeptCountObjectSink.laws.Goals as goal

pub returns-clause-more : goal.returns-clause-more
returns-clause-more c = counts_more
