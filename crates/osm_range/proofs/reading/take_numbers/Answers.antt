use Rattle.std.proofs.Common.{◌+◌, ◌<◌, ◌≤◌, ap, arith, inl, inr, refl, ◌∙◌, true, false}
use Rattle.std.proofs.lemmas.Grind.{common_steps}
use Rattle.osm_blocks.proofs.OftenLemmas.{often_both, often_none, often_then}
use Rattle.osm_store.specs.Frames.{IsKnown}
use Rattle.osm_runs.proofs.ResultLemmas.{err_map}
use Rattle.osm_runs.specs.Runs.{IsDeviceFault}
use Rattle.osm_range.specs.Steps.Reading.{HasTaken, TakesNumber}
use Rattle.osm_range.specs.declared.reading.Place.{Place}
use Rattle.osm_runs.proofs.FrameLemmas.{often_of, often_told}
use Rattle.osm_range.proofs.ReadingLemmas.{faulty_end, refused_end, same_at_end, taken_holding, taken_more, taken_none}
use Rattle.osm_range.proofs.reading.take_numbers.Goals as goal

pub loop-before-init : goal.loop-before-init
loop-before-init g c =
    let a = g.S.Store.state c.args.store.now in
    record {
      at = refl;
      until = c.requires.below;
      same = refl;
      frame = often_none IsDeviceFault a _;
      taken = taken_none g.T.NumberTaker.holds (IsKnown a) a.files c.args.dir.now c.args.taker.now c.args.place.now c.requires.none c.requires.time;
    }

pub take_number-requires-clause-holding : goal.take_number-requires-clause-holding
take_number-requires-clause-holding g c =
    let i = c.loop-before.invariant in
    let at = i.at in
    let below : c.loop-before.before < c.args.last = grind (arith, common_steps) in
    let a = g.S.Store.state c.args.store.now in
    taken_holding g.T.NumberTaker.holds (IsKnown a) a.files c.args.dir.now (c.args.place.now.number + 1) c.args.last c.loop-before.taker c.loop-before.place
    i.taken (omega arith) (omega (arith, at, below)) c.requires.most

pub loop-before-preserved : goal.loop-before-preserved
loop-before-preserved g c =
    let i = c.loop-before.invariant in
    let at = i.at in
    let a = g.S.Store.state c.args.store.now in
    let b = g.S.Store.state c.loop-before.store in
    let d = g.S.Store.state c.take_number.new.store in
    let took : TakesNumber g.T.NumberTaker.holds (IsKnown a) a.files c.args.dir.now (c.loop-before.before + 1) c.loop-before.taker c.take_number.new.taker
    c.loop-before.place c.take_number.new.place true = rw (i.frame.known, i.frame.files, c.in-Ok-true.field-0-test) at c.in-Ok-true.ensures.taken in
    record {
      at = ap (λ (q : Place). q.number) took.3;
      until = grind (arith, common_steps);
      same = c.in-Ok-true.ensures.same ∙ i.same;
      frame = often_then IsDeviceFault a b d _ _ _ i.frame (often_of IsDeviceFault 0 3 b d _ c.in-Ok-true.ensures.frame);
      taken = taken_more g.T.NumberTaker.holds (IsKnown a) a.files c.args.dir.now (c.args.place.now.number + 1) (c.loop-before.before + 1)
          c.loop-before.taker c.take_number.new.taker c.loop-before.place c.take_number.new.place i.taken (omega (arith, at)) took;
    }

-- ---- before a lost number

pub returns-in-Ok-false-clause-taken : goal.returns-in-Ok-false-clause-taken
returns-in-Ok-false-clause-taken g c =
    let i = c.loop-before.invariant in
    let a = g.S.Store.state c.args.store.now in
    let took : TakesNumber g.T.NumberTaker.holds (IsKnown a) a.files c.args.dir.now (c.loop-before.before + 1) c.loop-before.taker c.take_number.new.taker
    c.loop-before.place c.take_number.new.place false = rw (i.frame.known, i.frame.files, c.in-Ok-false.field-0-test) at c.in-Ok-false.ensures.taken in
    rw (took.1, took.2) i.taken

pub returns-in-Ok-false-clause-until : goal.returns-in-Ok-false-clause-until
returns-in-Ok-false-clause-until g c =
    let i = c.loop-before.invariant in
    let at = i.at in
    let until = i.until in
    let a = g.S.Store.state c.args.store.now in
    let took : TakesNumber g.T.NumberTaker.holds (IsKnown a) a.files c.args.dir.now (c.loop-before.before + 1) c.loop-before.taker c.take_number.new.taker
    c.loop-before.place c.take_number.new.place false = rw (i.frame.known, i.frame.files, c.in-Ok-false.field-0-test) at c.in-Ok-false.ensures.taken in
    rw took.2 (omega (arith, at, until))

pub returns-in-Ok-false-clause-ends : goal.returns-in-Ok-false-clause-ends
returns-in-Ok-false-clause-ends g c = λ yes.
    let i = c.loop-before.invariant in
    let a = g.S.Store.state c.args.store.now in
    let took : TakesNumber g.T.NumberTaker.holds (IsKnown a) a.files c.args.dir.now (c.loop-before.before + 1) c.loop-before.taker c.take_number.new.taker
    c.loop-before.place c.take_number.new.place false = rw (i.frame.known, i.frame.files, c.in-Ok-false.field-0-test) at c.in-Ok-false.ensures.taken in
    rw (took.2, i.at) (inr (took.0 yes))

pub returns-in-Ok-false-clause-frame : goal.returns-in-Ok-false-clause-frame
returns-in-Ok-false-clause-frame g c =
    let a = g.S.Store.state c.args.store.now in
    let b = g.S.Store.state c.loop-before.store in
    let d = g.S.Store.state c.take_number.new.store in
    often_then IsDeviceFault a b d _ _ _ c.loop-before.invariant.frame (often_of IsDeviceFault 0 3 b d _ c.in-Ok-false.ensures.frame)

-- ---- before a faulty number, or refused

pub returns-in-Err-clause-taken : goal.returns-in-Err-clause-taken
returns-in-Err-clause-taken g c =
    let i = c.loop-before.invariant in
    let a = g.S.Store.state c.args.store.now in
    same_at_end (λ t q. HasTaken g.T.NumberTaker.holds (IsKnown a) a.files c.args.dir.now (c.args.place.now.number + 1) t q) c.loop-before.taker
    c.take_number.new.taker c.loop-before.place c.take_number.new.place c.in-Err.fault c.end_at.result c.end_at.ensures.faulty
    c.in-Err.ensures.unchanged i.taken

pub returns-in-Err-clause-until : goal.returns-in-Err-clause-until
returns-in-Err-clause-until g c =
    let i = c.loop-before.invariant in
    let at = i.at in
    let until = i.until in
    same_at_end (λ t (q : Place). q.number ≤ c.args.last) c.loop-before.taker c.take_number.new.taker c.loop-before.place c.take_number.new.place
    c.in-Err.fault c.end_at.result c.end_at.ensures.faulty c.in-Err.ensures.unchanged (omega (arith, at, until))

pub returns-in-Err-clause-ends : goal.returns-in-Err-clause-ends
returns-in-Err-clause-ends g c =
    let i = c.loop-before.invariant in
    let at = i.at in
    let below : c.loop-before.before < c.args.last = grind (arith, common_steps) in
    let a = g.S.Store.state c.args.store.now in
    faulty_end (IsKnown a) a.files c.args.dir.now c.args.last c.loop-before.place c.take_number.new.place c.in-Err.fault c.end_at.result
    c.end_at.ensures.faulty (λ k is. (c.in-Err.ensures.unchanged k is).1) (omega (arith, at, below))
    (rw (at) (rw (i.frame.known, i.frame.files) at c.in-Err.ensures.stops))

pub returns-in-Err-clause-stops : goal.returns-in-Err-clause-stops
returns-in-Err-clause-stops g c =
    let i = c.loop-before.invariant in
    let at = i.at in
    let below : c.loop-before.before < c.args.last = grind (arith, common_steps) in
    let a = g.S.Store.state c.args.store.now in
    refused_end g.T.NumberTaker.holds (IsKnown a) a.files c.args.dir.now (c.args.place.now.number + 1) c.args.last c.loop-before.taker c.loop-before.place
    c.in-Err.fault c.end_at.result c.end_at.ensures.other i.taken (omega (arith, at, below))
    (rw (at) (rw (i.frame.known, i.frame.files) at c.in-Err.ensures.stops))

pub returns-in-Err-clause-frame : goal.returns-in-Err-clause-frame
returns-in-Err-clause-frame g c =
    let a = g.S.Store.state c.args.store.now in
    let b = g.S.Store.state c.loop-before.store in
    let d = g.S.Store.state c.take_number.new.store in
    often_told IsDeviceFault a d c.in-Err.fault c.end_at.result
    (often_both IsDeviceFault a b d _ _ c.loop-before.invariant.frame (often_of IsDeviceFault 0 3 b d _ c.in-Err.ensures.frame))
    (err_map _ _ c.end_at.result c.end_at.ensures.other (λ x is. is.0))

-- ---- at the last number

pub returns-clause-until : goal.returns-clause-until
returns-clause-until g c =
    let i = c.loop-before.invariant in
    let at = i.at in
    let until = i.until in
    omega (arith, at, until)

pub returns-clause-ends : goal.returns-clause-ends
returns-clause-ends g c = λ yes.
    let i = c.loop-before.invariant in
    let at = i.at in
    let until = i.until in
    let past = c.loop-before-test.false in
    inl (omega (arith, at, until, past))
