use Rattle.osm_data.proofs.O5mCountLemmas.{over_total}
use Rattle.osm_data.proofs.o5m_counting.O5mCounterObjectCounter.pass.Goals as goal

pub returns-then-rest-ge-MAX_HEAD-clause-over : goal.returns-then-rest-ge-MAX_HEAD-clause-over
returns-then-rest-ge-MAX_HEAD-clause-over c = λ is more total comes.
    over_total c.args.filter.now c.pass_datasets-rest.new.self c.pass_datasets-rest.result.now more total c.if-rest-ge-MAX_HEAD.true
    c.pass_datasets-rest.ensures.over c.pass_datasets-rest.ensures.skipped (c.pass_datasets-rest.ensures.counted more total comes)
