use Rattle.osm_repl.proofs.PartLemmas.{begins, carries_some, goes_on}
use Rattle.osm_repl.proofs.execution.follow_and_print.Goals as goal

pub parts-init : goal.parts-init
parts-init g c =
    begins c.args.order c.args.options c.args.sizes (g.S.Store.state c.args.store.now) (g.W.Write.contents c.args.writer.now)
    c.requires.follow

-- one more part
pub parts-preserved : goal.parts-preserved
parts-preserved g c =
    rw c.left_of.ensures (goes_on c.args.order c.args.options c.args.sizes (g.S.Store.state c.args.store.now) (g.W.Write.contents c.args.writer.now)
    (record { options = c.parts.options; store = g.S.Store.state c.parts.store; printed = g.W.Write.contents c.parts.writer })
    (g.S.Store.state c.follow_step.new.store) (g.W.Write.contents c.follow_step.new.writer) c.in-Ok-PartDone.count c.requires.follow c.parts.invariant
    (rw c.in-Ok-PartDone.field-0-is at c.in-Ok-PartDone.ensures.step)
    (carries_some c.args.order (g.S.Store.state c.parts.store) (g.S.Store.state c.follow_step.new.store) _ c.in-Ok-PartDone.ensures.frame))
