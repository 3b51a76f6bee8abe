use Rattle.osm_store.specs.Frames.{IsKnown}
use Rattle.osm_beginning.proofs.FirstLemmas.{base_stops}
use Rattle.osm_beginning.proofs.begin.begin_from.Goals as goal

pub returns-in-Err-check_after-clause-stops : goal.returns-in-Err-check_after-clause-stops
returns-in-Err-check_after-clause-stops g c =
    let a = g.S.Store.state c.args.store.now in
    base_stops g.D.DataReader.spells g.D.DataReader.goes_wrong g.D.DataReader.is_long c.args.wanted.now.filter.now c.args.wanted.now.state_time (IsKnown a)
    (a.files c.args.wanted.now.base.now)
    c.in-Err-check_after.found (rw (c.in-Err.ensures.saves.frame.known, c.in-Err.ensures.saves.frame.files) at c.in-Err-check_after.ensures.stops)
