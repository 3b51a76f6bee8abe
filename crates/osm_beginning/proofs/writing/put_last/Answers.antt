use Rattle.std.proofs.Common.{◌++◌}
use Rattle.osm_beginning.specs.Steps.Passes.{last_text}
use Rattle.osm_merge.proofs.FrameLemmas.{known_still}
use Rattle.osm_beginning.proofs.writing.put_last.Goals as goal

pub returns-clause-staged : goal.returns-clause-staged
unfolding last_text
returns-clause-staged g c = λ known name text is.
    c.in_ok-flush.ensures.flushed
    (known_still (g.S.Store.state c.args.store.now) (g.S.Store.state c.put.new.store) c.in_ok-put.field-0 c.in_ok-put.ensures.appends.frame known) name
    (text ++ last_text) (c.in_ok-put.ensures.written known name text is)
