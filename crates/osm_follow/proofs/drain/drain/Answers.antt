use Rattle.std.proofs.Common.{rules, ◌≡◌, ◌+◌, Some}
use Rattle.osm_holding.specs.Holding as area
use Rattle.osm_follow.specs.Steps.Taking.{Stops}
use Rattle.osm_follow.proofs.DrainLemmas.{drained_more, stopped_first, stopped_later}
use Rattle.osm_follow.proofs.drain.drain.Goals as goal

pub returns-in_err-apply_next-clause-stopped : goal.returns-in_err-apply_next-clause-stopped
returns-in_err-apply_next-clause-stopped c =
    let s : Stops c.args.filter.now c.args.mirror.now c.args.holding.now c.args.first =
    stopped_first c.args.filter.now c.args.mirror.now c.args.holding.now c.args.first c.in_err-apply_next.ensures.refused in
    search (rules, s)

pub loop-held-preserved : goal.loop-held-preserved
loop-held-preserved c =
    let value : area.held_at c.loop-held.holding (c.loop-held.holding.reached + 1) ≡ Some c.in-Some.held = cc in
    drained_more c.args.filter.now c.args.mirror.now c.loop-held.mirror c.apply_next-in-Some.new.mirror c.args.holding.now
    c.loop-held.holding c.take_next.new.self c.apply_next-in-Some.new.holding c.args.first c.in-Some.held
    c.loop-held.time c.loop-held.invariant value c.in-Some.ensures.taken c.in_ok-apply_next-2.ensures.applied
    c.in_ok-apply_next-2.ensures.moved c.in_ok-apply_next-2.ensures.within c.in_ok-apply_next-2.ensures.widened

pub returns-in_err-apply_next-2-clause-stopped : goal.returns-in_err-apply_next-2-clause-stopped
returns-in_err-apply_next-2-clause-stopped c =
    let value : area.held_at c.loop-held.holding (c.loop-held.holding.reached + 1) ≡ Some c.in-Some.held = cc in
    let s : Stops c.args.filter.now c.args.mirror.now c.args.holding.now c.args.first =
    stopped_later c.args.filter.now c.args.mirror.now c.loop-held.mirror c.args.holding.now c.loop-held.holding c.args.first
    c.in-Some.held c.loop-held.time c.loop-held.invariant value c.in_err-apply_next-2.ensures.refused in
    search (rules, s)
