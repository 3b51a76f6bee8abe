use Rattle.osm_store.specs.Frames.{IsKnown}
use Rattle.osm_runs.specs.declared.fault.FileName.TheVariants.{Save}
use Rattle.osm_runs.specs.declared.fault.RunFault.TheVariants.{TooLarge}
use Rattle.osm_beginning.proofs.FirstLemmas.{replaced_stops, right_either, right_many}
use Rattle.osm_beginning.proofs.begin.begin_counted.Goals as goal

pub returns-then-count-gt-MOST_OBJECTS-clause-stops : goal.returns-then-count-gt-MOST_OBJECTS-clause-stops
returns-then-count-gt-MOST_OBJECTS-clause-stops g c = λ checked known.
    let a = g.S.Store.state c.args.store.now in
    right_many g.D.DataReader.spells c.args.wanted.now.filter.now (a.files c.args.wanted.now.base.now) c.in-Ok.count
    (c.in-Ok.ensures.counted known) c.if-count-gt-MOST_OBJECTS.true
    (right_either g.D.DataReader.spells c.args.wanted.now.filter.now (IsKnown a) (a.files c.args.wanted.now.base.now) (TooLarge Save)
    c.in-Ok.ensures.read checked tt known)

pub returns-in-Err-replace-clause-stops : goal.returns-in-Err-replace-clause-stops
returns-in-Err-replace-clause-stops g c = λ checked.
    let a = g.S.Store.state c.args.store.now in
    let stops = rw (c.in-Ok.ensures.reads.frame.known, c.in-Ok.ensures.reads.frame.files) at c.in-Err-replace.ensures.stops in
    replaced_stops g.D.DataReader.spells g.D.DataReader.goes_wrong g.D.DataReader.is_long c.args.wanted.now.filter.now c.args.wanted.now.state_time (IsKnown a)
    (a.files c.args.wanted.now.base.now) c.in-Ok.count c.in-Ok.ensures.counted c.if-count-gt-MOST_OBJECTS.false c.in-Err-replace.fault
    (right_either g.D.DataReader.spells c.args.wanted.now.filter.now (IsKnown a) (a.files c.args.wanted.now.base.now) c.in-Err-replace.fault
    c.in-Ok.ensures.read checked)
    (stops c.in-Ok.ensures.counted)
