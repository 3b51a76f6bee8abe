use Rattle.osm_beginning.proofs.SinkLemmas.{lays_more}
use Rattle.osm_beginning.proofs.sinks.KeptLinesObjectSink.laws.Goals as goal

pub returns-clause-more : goal.returns-clause-more
returns-clause-more c = lays_more
