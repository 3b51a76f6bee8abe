use Rattle.osm_merge.proofs.FrameLemmas.{staged_all}
use Rattle.osm_beginning.proofs.writing.flush.Goals as goal

pub returns-in-Ok-clause-flushed : goal.returns-in-Ok-clause-flushed
returns-in-Ok-clause-flushed g c = λ known name text is.
    staged_all (g.S.Store.state c.flush.new.store) c.flush.new.self name text (c.in-Ok.ensures.flushed known name text is) c.in-Ok.ensures.empty
