use Rattle.std.proofs.Common.{◌≡◌, ◌∙◌, ◌+◌, ◌-◌, ◌*◌, ◌<◌, ap, arith, inl, inr, refl, subst, sym, true}
use Rattle.std.specs.Prelude.{Bool, IsTrue, min}
use Rattle.std.proofs.lemmas.Grind.{common_steps}
use Rattle.osm_blocks.proofs.OftenLemmas.{often_both, often_none, often_then}
use Rattle.osm_model.specs.Limits.{max_changes}
use Rattle.osm_store.specs.Frames.{IsKnown}
use Rattle.osm_store.proofs.FrameLemmas.{fewer_after, most_both, most_more, reads_none}
use Rattle.osm_runs.proofs.ResultLemmas.{err_map}
use Rattle.osm_round.specs.News.{TakenValue, came_to}
use Rattle.osm_runs.specs.Runs.{IsDeviceFault}
use Rattle.osm_runs.specs.Following.{NumberStops, bytes_of, is_lost}
use Rattle.osm_runs.proofs.FrameLemmas.{often_of, often_told}
use Rattle.osm_runs.proofs.TakingLemmas.{content_of}
use Rattle.osm_round.proofs.GatherLemmas.{gathers_more, gathers_nothing}
use Rattle.osm_round.specs.Taking.{Fills, LeavesRoom, TakesNumber, TakesUp}
use Rattle.osm_round.proofs.NewsLemmas.{none_holds, none_in}
use Rattle.osm_round.proofs.TakenLemmas.{at_end, bytes_more, count_within, end_stops, fills_more, takes_more, takes_nothing}
use Rattle.osm_round.proofs.taken.take_numbers.Goals.{else-is_full-via-then-is_full+else-before-last, else-is_full-via-else-is_full}
use Rattle.osm_round.proofs.taken.take_numbers.Goals as goal

pub loop-before-init : goal.loop-before-init
loop-before-init g c = let none : c.args.taken.now.head.number - c.args.taken.now.head.number ≡ 0 = omega arith in record {
  at = refl;
  from = omega arith;
  until = c.requires.from;
  frame = often_none IsDeviceFault (g.S.Store.state c.args.store.now) _;
  most = (reads_none IsDeviceFault (3 * (c.args.taken.now.head.number - c.args.taken.now.head.number)) (g.S.Store.state c.args.store.now) _).at_most;
  bytes = λ yes. rw none refl;
  left = λ yes below. rw none c.requires.some;
  but_last = λ yes. rw none c.requires.some;
  taken = takes_nothing (IsKnown (g.S.Store.state c.args.store.now)) (g.S.Store.state c.args.store.now).files c.args.dir.now c.args.filter.now
      (came_to c.args.filter.now c.args.taken.now) (none_in c.args.filter.now c.args.taken.now.news c.requires.none c.requires.held);
  few = none_holds (max_changes * c.args.taken.now.head.number) c.args.taken.now.news c.requires.none c.requires.held;
  held = λ none. c.requires.held;
  gathered = gathers_nothing (IsKnown (g.S.Store.state c.args.store.now)) (g.S.Store.state c.args.store.now).files c.args.dir.now c.args.filter.now
      (came_to c.args.filter.now c.args.taken.now) c.args.gathered.now
      (none_in c.args.filter.now c.args.taken.now.news c.requires.none c.requires.held) c.requires.begun;
}

-- ---- where it ends

pub returns-in-Err-clause-taken : goal.returns-in-Err-clause-taken
returns-in-Err-clause-taken g c =
    let i = c.loop-before.invariant in
    let at = i.at in
    let a = g.S.Store.state c.args.store.now in
    let dir = c.args.dir.now in
    let start = c.args.taken.now.head in
    let head = c.loop-before.taken.head in
    let below : c.loop-before.before < c.args.bounds.last = grind (arith, common_steps) in
    let stops : NumberStops (IsKnown a) dir a.files head.time (head.number + 1) c.in-Err.fault =
    rw (at) (rw (i.frame.known, i.frame.files) at c.in-Err.ensures.stops) in
    at_end (TakesUp (IsKnown a) a.files dir c.args.filter.now c.args.bounds start c.args.gathered.now.left) c.loop-before.taken c.take_number.new.taken
    c.loop-before.gathered c.take_number.new.gathered c.in-Err.fault c.end_at.result c.end_at.ensures.faulty c.end_at.ensures.content
    c.in-Err.ensures.unchanged c.in-Err.ensures.none_added (λ k content. record {
      taken_are = i.taken;
      gathers = i.gathered;
      few = i.few;
      held = i.held;
      until = omega (arith, at, below);
      room = λ yes. subst (λ n. LeavesRoom c.args.bounds.room (bytes_of a.files dir start.number (n - start.number - 1))) (sym at) (i.but_last yes);
      ends = (omega (arith, at, below), content_of (IsKnown a) dir a.files head.time (head.number + 1) k c.in-Err.fault stops content, stops);
    })

pub returns-in-Ok-None-clause-taken : goal.returns-in-Ok-None-clause-taken
returns-in-Ok-None-clause-taken g c =
    let i = c.loop-before.invariant in
    let until = i.until in
    let a = g.S.Store.state c.args.store.now in
    let from = c.args.taken.now.head.number in
    let took = subst (λ t. TakesNumber (IsKnown a) a.files c.args.dir.now (c.loop-before.before + 1) c.args.filter.now
    (came_to c.args.filter.now c.loop-before.taken)
    (came_to c.args.filter.now c.take_number.new.taken) c.loop-before.gathered c.take_number.new.gathered t) c.in-Ok-None.field-0-is
    (rw (i.frame.known, i.frame.files) at c.in-Ok-None.ensures.taken) in
    let number : c.take_number.new.taken.head.number ≡ c.loop-before.before = ap (λ (t : TakenValue). t.head.number) took.1 ∙ i.at in
    record {
      taken_are = rw took.1 i.taken;
      gathers = rw (took.1, took.2) i.gathered;
      few = c.in-Ok-None.ensures.few;
      held = c.in-Ok-None.ensures.held;
      until = omega (arith, number, until);
      room = λ yes. subst (λ n. LeavesRoom c.args.bounds.room (bytes_of a.files c.args.dir.now from (n - from - 1))) (sym number) (i.but_last yes);
      ends = λ yes. inr (subst (λ n. is_lost a.files c.args.dir.now (n + 1) ≡ true) (sym number) (took.0 yes));
    }

-- there is no room for more
pub returns-then-before-last-clause-taken : goal.returns-then-before-last-clause-taken
returns-then-before-last-clause-taken g c =
    let i = c.loop-before.invariant in
    let at = i.at in
    let above = i.from in
    let a = g.S.Store.state c.args.store.now in
    let dir = c.args.dir.now in
    let f = c.args.filter.now in
    let start = c.args.taken.now.head in
    let from = start.number in
    let before = c.loop-before.before in
    let old = came_to f c.loop-before.taken in
    let new = came_to f c.take_number.new.taken in
    let took = subst (λ t. TakesNumber (IsKnown a) a.files c.args.dir.now (c.loop-before.before + 1) c.args.filter.now
    (came_to c.args.filter.now c.loop-before.taken)
    (came_to c.args.filter.now c.take_number.new.taken) c.loop-before.gathered c.take_number.new.gathered t) c.in-Ok-Some.field-0-is
    (rw (i.frame.known, i.frame.files) at c.in-Ok-Some.ensures.taken) in
    let more = takes_more (IsKnown a) a.files dir f start (before + 1) c.in-Ok-Some.more old new c.loop-before.gathered c.take_number.new.gathered
    (omega (arith, at)) i.taken took in
    let number = more.0 in
    let below = c.if-before-last.true in
    record {
      taken_are = more.1;
      gathers = gathers_more (IsKnown a) a.files dir f start c.args.gathered.now.left (before + 1) c.in-Ok-Some.more old new c.loop-before.gathered
          c.take_number.new.gathered (omega (arith, at)) c.requires.left (let most = c.requires.most in omega (arith, most, below)) i.taken i.gathered took;
      few = c.in-Ok-Some.ensures.few;
      held = c.in-Ok-Some.ensures.held;
      until = omega (arith, number, below);
      room = λ yes. subst (λ n. LeavesRoom c.args.bounds.room (bytes_of a.files dir from n)) (omega (arith, number, above))
          (i.left yes (omega (arith, below)));
      ends = (
        omega (arith, number, above),
        omega (arith, number, below),
        subst (λ n. Fills (IsKnown a) c.args.bounds.room (bytes_of a.files dir from (n - from))) (sym number)
            (fills_more (IsKnown a) c.args.bounds.room c.add-size.result _ (c.is_full.ensures.full c.if-is_full.true)
            (λ yes. count_within _ c.add-size.result (bytes_more a.files dir from before c.loop-before.size c.in-Ok-Some.more c.add-size.result above
            (i.bytes yes) (took.6 yes) c.add-size.ensures))),
      );
    }

pub returns-clause-taken : goal.returns-clause-taken
returns-clause-taken g c =
    let i = c.loop-before.invariant in
    let at = i.at in
    let until = i.until in
    let past = c.loop-before-test.false in
    let a = g.S.Store.state c.args.store.now in
    let from = c.args.taken.now.head.number in
    record {
      taken_are = i.taken;
      gathers = i.gathered;
      few = i.few;
      held = i.held;
      until = omega (arith, at, until);
      room = λ yes. subst (λ n. LeavesRoom c.args.bounds.room (bytes_of a.files c.args.dir.now from (n - from - 1))) (sym at) (i.but_last yes);
      ends = λ yes. inl (omega (arith, at, until, past));
    }

pub returns-in-Err-clause-stops : goal.returns-in-Err-clause-stops
returns-in-Err-clause-stops g c =
    let i = c.loop-before.invariant in
    let at = i.at in
    let below : c.loop-before.before < c.args.bounds.last = grind (arith, common_steps) in
    end_stops (IsKnown (g.S.Store.state c.args.store.now)) (g.S.Store.state c.args.store.now).files c.args.dir.now c.args.filter.now c.args.bounds.last
    c.args.taken.now.head (came_to c.args.filter.now c.loop-before.taken) c.in-Err.fault c.end_at.result c.end_at.ensures.other c.end_at.ensures.plain i.taken
    (omega (arith, at, below)) (rw (at) (rw (i.frame.known, i.frame.files) at c.in-Err.ensures.stops))

pub returns-in-Err-clause-frame : goal.returns-in-Err-clause-frame
returns-in-Err-clause-frame g c =
    let a = g.S.Store.state c.args.store.now in
    let b = g.S.Store.state c.loop-before.store in
    let d = g.S.Store.state c.take_number.new.store in
    often_told IsDeviceFault a d c.in-Err.fault c.end_at.result
    (often_both IsDeviceFault a b d _ _ c.loop-before.invariant.frame (often_of IsDeviceFault 0 3 b d _ c.in-Err.ensures.frame)) c.end_at.ensures.other

pub loop-before-preserved : goal.loop-before-preserved
loop-before-preserved g c =
    let i = c.loop-before.invariant in
    let at = i.at in
    let from = i.from in
    let a = g.S.Store.state c.args.store.now in
    let b = g.S.Store.state c.loop-before.store in
    let d = g.S.Store.state c.take_number.new.store in
    let took = subst (λ t. TakesNumber (IsKnown a) a.files c.args.dir.now (c.loop-before.before + 1) c.args.filter.now
    (came_to c.args.filter.now c.loop-before.taken)
    (came_to c.args.filter.now c.take_number.new.taken) c.loop-before.gathered c.take_number.new.gathered t) c.in-Ok-Some.field-0-is
    (rw (i.frame.known, i.frame.files) at c.in-Ok-Some.ensures.taken) in
    let more = takes_more (IsKnown a) a.files c.args.dir.now c.args.filter.now c.args.taken.now.head (c.loop-before.before + 1) c.in-Ok-Some.more
    (came_to c.args.filter.now c.loop-before.taken) (came_to c.args.filter.now c.take_number.new.taken) c.loop-before.gathered c.take_number.new.gathered
    (omega (arith, at)) i.taken took in
    let under : c.loop-before.before < c.args.bounds.last = grind (arith, common_steps) in
    record {
      at = more.0;
      from = omega (arith, from);
      until = grind (arith, common_steps);
      frame = often_then IsDeviceFault a b d _ _ _ i.frame (often_of IsDeviceFault 0 3 b d _ c.in-Ok-Some.ensures.frame);
      most = record {
        spent = most_both (3 * (c.loop-before.before - c.args.taken.now.head.number)) 3 (3 * (c.loop-before.before + 1 - c.args.taken.now.head.number))
            a.left b.left d.left (omega (arith, from)) i.most.spent c.in-Ok-Some.ensures.frame.at_most.spent;
        lacks = tt;
      };
      bytes = λ yes. bytes_more a.files c.args.dir.now c.args.taken.now.head.number c.loop-before.before c.loop-before.size c.in-Ok-Some.more
          c.add-size.result from (i.bytes yes) (took.6 yes) c.add-size.ensures;
      left = λ yes below. elim c.else-is_full.branch [
        | else-is_full-via-then-is_full+else-before-last w ↦ (let past = w.if-before-last.false in absurd (omega (arith, below, past)))
        | else-is_full-via-else-is_full w ↦ c.is_full.ensures.left w.if-is_full.false
            (bytes_of a.files c.args.dir.now c.args.taken.now.head.number (c.loop-before.before + 1 - c.args.taken.now.head.number))
            (bytes_more a.files c.args.dir.now c.args.taken.now.head.number c.loop-before.before c.loop-before.size c.in-Ok-Some.more c.add-size.result from
            (i.bytes yes) (took.6 yes) c.add-size.ensures)
      ];
      but_last = λ yes. subst (λ n. LeavesRoom c.args.bounds.room (bytes_of a.files c.args.dir.now c.args.taken.now.head.number n)) (omega (arith, from))
          (i.left yes under);
      taken = more.1;
      few = c.in-Ok-Some.ensures.few;
      held = c.in-Ok-Some.ensures.held;
      gathered = gathers_more (IsKnown a) a.files c.args.dir.now c.args.filter.now c.args.taken.now.head c.args.gathered.now.left
          (c.loop-before.before + 1) c.in-Ok-Some.more (came_to c.args.filter.now c.loop-before.taken) (came_to c.args.filter.now c.take_number.new.taken)
          c.loop-before.gathered c.take_number.new.gathered
          (omega (arith, at)) c.requires.left (let most = c.requires.most in omega (arith, most, under)) i.taken i.gathered took;
    }

pub returns-in-Ok-None-clause-spent : goal.returns-in-Ok-None-clause-spent
returns-in-Ok-None-clause-spent g c = λ end.
    let i = c.loop-before.invariant in
    let at = i.at in
    let from = i.from in
    let below : c.loop-before.before < c.args.bounds.last = grind (arith, common_steps) in
    let a = g.S.Store.state c.args.store.now in
    let took = subst (λ t. TakesNumber (IsKnown a) a.files c.args.dir.now (c.loop-before.before + 1) c.args.filter.now
    (came_to c.args.filter.now c.loop-before.taken)
    (came_to c.args.filter.now c.take_number.new.taken) c.loop-before.gathered c.take_number.new.gathered t) c.in-Ok-None.field-0-is
    (rw (i.frame.known, i.frame.files) at c.in-Ok-None.ensures.taken) in
    let same : c.take_number.new.taken.head.number ≡ c.loop-before.taken.head.number = ap (λ (t : TakenValue). t.head.number) took.1 in
    most_both (3 * (c.loop-before.before - c.args.taken.now.head.number)) 3
    (3 * (min c.args.bounds.last (c.take_number.new.taken.head.number + 1) - c.args.taken.now.head.number)) _ _ _ (omega (arith, below, from, at, same))
    i.most.spent c.in-Ok-None.ensures.frame.at_most.spent

pub returns-in-Err-clause-lacks : goal.returns-in-Err-clause-lacks
returns-in-Err-clause-lacks g c =
    let i = c.loop-before.invariant in
    let from = i.from in
    let below : c.loop-before.before < c.args.bounds.last = grind (arith, common_steps) in
    err_map _ _ c.end_at.result c.end_at.ensures.other (λ refused same yes blame.
    fewer_after (3 * (c.loop-before.before - c.args.taken.now.head.number)) 3 (3 * (c.args.bounds.last - c.args.taken.now.head.number)) _ _
    (omega (arith, below, from)) i.most.spent
    (c.in-Err.ensures.frame.at_most.lacks (subst (λ (t : Bool). IsTrue t) (sym i.frame.known) yes) (subst IsDeviceFault same blame)))

pub returns-clause-spent : goal.returns-clause-spent
returns-clause-spent g c = λ end.
    let i = c.loop-before.invariant in
    let at = i.at in
    let until = i.until in
    let past = c.loop-before-test.false in
    most_more (3 * (c.loop-before.before - c.args.taken.now.head.number))
    (3 * (min c.args.bounds.last (c.loop-before.taken.head.number + 1) - c.args.taken.now.head.number)) _ _ (omega (arith, at, until, past)) i.most.spent
