use Rattle.osm_repl.proofs.FollowLemmas.{has_followed, stops_over}
use Rattle.osm_repl.proofs.FrameLemmas.{changes_both, follow_changes, follow_leaves}
use Rattle.osm_repl.proofs.execution.follow.Goals as goal

pub returns-clause-followed : goal.returns-clause-followed
returns-clause-followed g c =
    rw c.in-Follow.is (has_followed c.args.options.now c.args.sizes c.in-Follow.dir c.in-Follow.save (g.S.Store.state c.args.store.now)
    (g.S.Store.state c.follow_kept.new.store) c.follow_kept.result c.follow_kept.ensures.follows
    c.follow_kept.ensures.report c.follow_kept.ensures.over)

pub returns-clause-stops : goal.returns-clause-stops
returns-clause-stops g c = rw c.in-Follow.is c.follow_kept.ensures.stops

pub returns-clause-refuses : goal.returns-clause-refuses
returns-clause-refuses g c =
    rw c.in-Follow.is (stops_over c.args.options.now c.in-Follow.dir c.in-Follow.save (g.S.Store.state c.args.store.now)
    (g.S.Store.state c.follow_kept.new.store) c.follow_kept.result c.follow_kept.ensures.over)

pub returns-clause-frame : goal.returns-clause-frame
returns-clause-frame g c = rw c.in-Follow.is
    (changes_both _ c.in-Follow.save.now _ _ c.follow_kept.result (λ name own. own) c.follow_kept.ensures.frame.known
    c.follow_kept.ensures.frame.left c.follow_kept.ensures.frame.failures c.follow_kept.ensures.spends
    (follow_changes _ _ _ _ _ _ _ c.follow_kept.result c.follow_kept.ensures.follows)
    (follow_leaves _ _ _ _ c.follow_kept.result c.follow_kept.ensures.leaves))
