use Rattle.std.proofs.Common.{◌≡◌, Some, None, subst}
use Rattle.std.specs.declared.cmp.Ordering.TheVariants.{Equal, Greater, Less}
use Rattle.osm_reading.specs.Pieces.{cut_at}
use Rattle.osm_asking.specs.Steps.Passing.{HasSide, IsSide}
use Rattle.osm_asking.proofs.PassLemmas.{passing_all, passing_at, passing_done, passing_more}
use Rattle.osm_asking.proofs.passing.pass_lines.Goals as goal
use Rattle.osm_merge.proofs.LineLemmas.{fails_none}

pub returns-in-None-clause-no_key : goal.returns-in-None-clause-no_key
returns-in-None-clause-no_key c =
    let same : c.side_of.result ≡ None = c.in-None.is in
    let found : HasSide c.args.wanted c.loop.rest.now (None) = record {
      line = c.in-Ok.cut.0.now;
      after = c.in-Ok.cut.1.now;
      cut = c.in-Ok.ensures;
      is = subst (IsSide c.args.wanted c.in-Ok.cut.0.now) same c.side_of.ensures;
    } in
    passing_at c.args.wanted c.args.block.now c.loop.rest.now c.loop.counter (λ l. HasSide c.args.wanted l None) c.loop.invariant found

pub returns-in-Some-Equal : goal.returns-in-Some-Equal
returns-in-Some-Equal c =
    let p = c.in-Some-Equal.is in
    let q = c.in-Some-Equal.field-0-is in
    let same : c.side_of.result ≡ Some Equal = cc in
    let found : HasSide c.args.wanted c.loop.rest.now (Some Equal) = record {
      line = c.in-Ok.cut.0.now;
      after = c.in-Ok.cut.1.now;
      cut = c.in-Ok.ensures;
      is = subst (IsSide c.args.wanted c.in-Ok.cut.0.now) same c.side_of.ensures;
    } in
    record {
      passed = passing_done c.args.wanted c.args.block.now c.loop.rest.now c.loop.counter c.loop.invariant;
      stopped = (
        differs,
        passing_at c.args.wanted c.args.block.now c.loop.rest.now c.loop.counter (λ l. HasSide c.args.wanted l (Some Equal))
            c.loop.invariant found,
      );
      bad = tt;
      no_key = tt;
    }
  where
    differs : Equal ≡ Less → ⊥
    differs e = absurd (let bad = e in cc)

pub returns-in-Some-Greater : goal.returns-in-Some-Greater
returns-in-Some-Greater c =
    let p = c.in-Some-Greater.is in
    let q = c.in-Some-Greater.field-0-is in
    let same : c.side_of.result ≡ Some Greater = cc in
    let found : HasSide c.args.wanted c.loop.rest.now (Some Greater) = record {
      line = c.in-Ok.cut.0.now;
      after = c.in-Ok.cut.1.now;
      cut = c.in-Ok.ensures;
      is = subst (IsSide c.args.wanted c.in-Ok.cut.0.now) same c.side_of.ensures;
    } in
    record {
      passed = passing_done c.args.wanted c.args.block.now c.loop.rest.now c.loop.counter c.loop.invariant;
      stopped = (
        differs,
        passing_at c.args.wanted c.args.block.now c.loop.rest.now c.loop.counter (λ l. HasSide c.args.wanted l (Some Greater))
            c.loop.invariant found,
      );
      bad = tt;
      no_key = tt;
    }
  where
    differs : Greater ≡ Less → ⊥
    differs e = absurd (let bad = e in cc)

pub loop-preserved : goal.loop-preserved
loop-preserved c =
    let p = c.in-Some-Less.is in
    let q = c.in-Some-Less.field-0-is in
    let same : c.side_of.result ≡ Some Less = cc in
    passing_more c.args.wanted c.args.block.now c.loop.rest.now c.in-Ok.cut.0.now c.in-Ok.cut.1.now c.loop.counter c.loop.invariant c.in-Ok.ensures
    (subst (IsSide c.args.wanted c.in-Ok.cut.0.now) same c.side_of.ensures)

pub returns-in-Err-clause-stopped : goal.returns-in-Err-clause-stopped
returns-in-Err-clause-stopped c =
    passing_at c.args.wanted c.args.block.now c.loop.rest.now c.loop.counter (λ l. cut_at 10 l ≡ None) c.loop.invariant
    (fails_none c.in-Err._stop (cut_at 10 c.loop.rest.now) c.in-Err.ensures)

pub returns-clause-stopped : goal.returns-clause-stopped
returns-clause-stopped c =
    passing_at c.args.wanted c.args.block.now c.loop.rest.now c.loop.counter (λ l. cut_at 10 l ≡ None) c.loop.invariant
    (passing_all c.args.wanted c.args.block.now c.loop.rest.now c.loop.counter c.loop.invariant c.loop-test.false)
