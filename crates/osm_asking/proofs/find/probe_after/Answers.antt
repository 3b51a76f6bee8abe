use Rattle.std.proofs.Common.{arith}
use Rattle.osm_reading.specs.Pieces.{cut_at}
use Rattle.osm_asking.proofs.SearchLemmas.{after_lies, after_lies_stops, last_uncut, started_lies, started_lies_stops}
use Rattle.osm_asking.proofs.find.probe_after.Goals as goal
use Rattle.osm_merge.proofs.LineLemmas.{fails_none}

pub returns-in-Ok-clause-probed : goal.returns-in-Ok-clause-probed
returns-in-Ok-clause-probed g c =
    after_lies (g.S.Store.state c.args.store.now) c.args.name.now c.args.after.now c.in-Ok.cut.0.now c.in-Ok.cut.1.now c.args.place
    c.args.is_last c.args.wanted c.sided.result c.sided.ensures.is c.in-Ok.ensures

pub returns-in-Ok-clause-stops : goal.returns-in-Ok-clause-stops
returns-in-Ok-clause-stops g c =
    after_lies_stops (g.S.Store.state c.args.store.now) c.args.name.now c.args.after.now c.in-Ok.cut.0.now c.in-Ok.cut.1.now c.args.place
    c.args.is_last c.args.wanted c.sided.result c.sided.ensures.stops c.in-Ok.ensures

pub returns-then-is_last-clause-probed : goal.returns-then-is_last-clause-probed
returns-then-is_last-clause-probed g c = λ after.
    last_uncut (g.S.Store.state c.args.store.now) c.args.name.now c.args.place c.args.after.now c.args.is_last after c.if-is_last.true
    (fails_none c.in-Err._stop (cut_at 10 c.args.after.now) c.in-Err.ensures)

pub returns-then-after-ge-STARTED-clause-probed : goal.returns-then-after-ge-STARTED-clause-probed
returns-then-after-ge-STARTED-clause-probed g c =
    started_lies (g.S.Store.state c.args.store.now) c.args.name.now c.args.after.now c.args.place c.args.is_last c.args.wanted c.sided_start.result
    c.sided_start.ensures.is (fails_none c.in-Err._stop (cut_at 10 c.args.after.now) c.in-Err.ensures) (omega (arith, c.if-after-ge-STARTED.true))

pub returns-then-after-ge-STARTED-clause-stops : goal.returns-then-after-ge-STARTED-clause-stops
returns-then-after-ge-STARTED-clause-stops g c =
    started_lies_stops (g.S.Store.state c.args.store.now) c.args.name.now c.args.after.now c.args.place c.args.is_last c.args.wanted c.sided_start.result
    c.sided_start.ensures.stops (fails_none c.in-Err._stop (cut_at 10 c.args.after.now) c.in-Err.ensures)
    (omega (arith, c.if-after-ge-STARTED.true))
