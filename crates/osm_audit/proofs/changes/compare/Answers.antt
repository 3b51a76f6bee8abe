use Rattle.osm_audit.proofs.ChangeLemmas.{opl_same}
use Rattle.osm_audit.proofs.changes.compare.Goals as goal

pub returns-in-Changes : goal.returns-in-Changes
returns-in-Changes c in_o5c in_opl there held =
    opl_same in_o5c in_opl c.args.batch.now c.in-Changes.other there (rw c.in-Changes.is at held) (c.are_same.ensures.0 c.if-are_same.true)
