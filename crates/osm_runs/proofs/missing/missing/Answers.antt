use Rattle.std.proofs.Common.{◌+◌, ◌-◌, ◌*◌, ◌<◌, arith}
use Rattle.std.proofs.lemmas.Grind.{common_steps}
use Rattle.osm_runs.specs.Runs.{IsDeviceFault}
use Rattle.osm_store.proofs.FrameLemmas.{reads_both, reads_err, reads_more, reads_ok}
use Rattle.osm_runs.proofs.MissingLemmas.{named_next}
use Rattle.osm_runs.proofs.missing.missing.Goals as goal

pub returns-in-Err-clause-frame : goal.returns-in-Err-clause-frame
returns-in-Err-clause-frame g c =
    let i = c.loop-before.invariant in
    let from = i.from in
    let end = c.window_end-last.ensures in
    let below : c.loop-before.before < c.window_end-last.result = grind (arith, common_steps) in
    reads_err _ _ _ _ _ _ (reads_both IsDeviceFault 0 0 0 (3 * (c.loop-before.before - (c.args.reached + 1))) 3
    (3 * (c.args.top - (c.args.reached + 1))) _ _ _ _ _ (omega arith) (omega (arith, below, from, end)) i.frame
    c.in-Err.ensures.frame)

pub loop-before-preserved : goal.loop-before-preserved
loop-before-preserved g c =
    let i = c.loop-before.invariant in
    let from = i.from in
    record {
      from = omega (arith, from);
      until = grind (arith, common_steps);
      frame = reads_ok _ _ _ _ _ _ _ (reads_both IsDeviceFault 0 0 0 (3 * (c.loop-before.before - (c.args.reached + 1))) 3
          (3 * (c.loop-before.before + 1 - (c.args.reached + 1))) _ _ _ _ _ (omega arith) (omega (arith, from))
          i.frame c.in-Ok.ensures.frame);
      named = named_next _ _ _ _ _ c.loop-before.before _ _ i.named
          (rw (i.frame.makes.known, i.frame.files) at c.in-Ok.ensures.looked) c.in-Ok.ensures.more;
    }

pub returns-clause-frame : goal.returns-clause-frame
returns-clause-frame g c =
    let i = c.loop-before.invariant in
    let until = i.until in
    let end = c.window_end-last.ensures in
    reads_ok _ _ _ _ _ _ _ (reads_more IsDeviceFault 0 (3 * (c.loop-before.before - (c.args.reached + 1)))
    (3 * (c.args.top - (c.args.reached + 1))) _ _ _ (omega (arith, until, end)) i.frame)
