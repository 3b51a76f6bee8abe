use Rattle.std.proofs.Common.{◌+◌, arith}
use Rattle.osm_store.specs.Frames.{IsKnown}
use Rattle.osm_range.proofs.RangeLemmas.{inside_stops}
use Rattle.osm_range.proofs.range.read_below.Goals as goal

pub returns-in-Err-clause-stops : goal.returns-in-Err-clause-stops
returns-in-Err-clause-stops g c =
    let a = g.S.Store.state c.args.store.now in
    let last = c.min-last.ensures in
    inside_stops (IsKnown a) a.files c.args.dir.now c.args.range (c.before-place.result.number + 1) c.min-last.result c.in-Err.fault
    c.before-place.ensures.number
    (omega (arith, last)) c.in-Err.ensures.stops
