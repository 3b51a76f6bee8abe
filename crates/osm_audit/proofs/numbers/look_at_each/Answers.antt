use Rattle.std.proofs.Common.{◌≡◌, ℕ, ◌+◌, ◌-◌, ◌*◌, ◌<◌, arith, subst}
use Rattle.std.proofs.lemmas.Grind.{common_steps}
use Rattle.osm_runs.specs.Runs.{IsDeviceFault}
use Rattle.osm_store.proofs.FrameLemmas.{reads_both, reads_err, reads_none, reads_ok}
use Rattle.osm_audit.specs.Steps.Looking.{IsLookedUpTo}
use Rattle.osm_audit.proofs.NumberLemmas.{none_yet, one_more, stops_in_range}
use Rattle.osm_audit.proofs.numbers.look_at_each.Goals as goal

pub loop-before-init : goal.loop-before-init
loop-before-init g c =
    let first = c.requires.first in
    let until = c.requires.until in
    record {
      from = omega (arith, first);
      until = omega (arith, first, until);
      frame = reads_none IsDeviceFault _ _ _;
      through = λ sure. rw c.requires.none (none_yet (g.S.Store.state c.args.store.now).files c.args.dir.now c.args.from (c.args.from - 1 + 1)
          (omega (arith, first)));
    }

pub returns-in-Err-clause-stops : goal.returns-in-Err-clause-stops
returns-in-Err-clause-stops g c =
    let i = c.loop-before.invariant in
    let from = i.from in
    let below : c.loop-before.before < c.args.to = grind (arith, common_steps) in
    stops_in_range c.args.from c.args.to (c.loop-before.before + 1) c.in-Err.fault from (omega (arith, below)) c.in-Err.ensures.stops

pub returns-in-Err-clause-frame : goal.returns-in-Err-clause-frame
returns-in-Err-clause-frame g c =
    let i = c.loop-before.invariant in
    let from = i.from in
    let below : c.loop-before.before < c.args.to = grind (arith, common_steps) in
    reads_err _ _ _ _ _ _ (reads_both IsDeviceFault 0 3 0 (3 * (c.loop-before.before + 1 - c.args.from)) 3
    (3 * (c.args.to + 1 - c.args.from)) _ _ _ _ _ (omega arith) (omega (arith, below, from)) i.frame c.in-Err.ensures.frame)

pub loop-before-preserved : goal.loop-before-preserved
loop-before-preserved g c =
    let i = c.loop-before.invariant in
    let from = i.from in
    let found = rw (i.frame.makes.known, i.frame.files) at c.in-Ok.ensures.found in
    record {
      from = omega (arith, from);
      until = grind (arith, common_steps);
      frame = reads_ok _ _ _ _ _ _ _ (reads_both IsDeviceFault 0 3 0 (3 * (c.loop-before.before + 1 - c.args.from)) 3
          (3 * (c.loop-before.before + 1 + 1 - c.args.from)) _ _ _ _ _ (omega arith) (omega (arith, from)) i.frame c.in-Ok.ensures.frame);
      through = λ sure. one_more c.laws_of_state.ensures.no_fault_beside_state (g.S.Store.state c.args.store.now).files c.args.dir.now c.args.from
          (c.loop-before.before + 1) c.loop-before.looked c.in-Ok.next c.loop-before.findings.items c.look_at.new.findings.items from
          (i.through sure) (found sure);
    }

pub returns-clause-found : goal.returns-clause-found
returns-clause-found g c =
    let i = c.loop-before.invariant in
    let until = i.until in
    let reached : c.loop-before.before ≡ c.args.to = grind (arith, common_steps) in λ sure.
    subst (λ (k : ℕ). IsLookedUpTo (g.S.Store.state c.args.store.now).files c.args.dir.now c.args.from (k + 1)
    c.loop-before.findings.items c.loop-before.looked) reached (i.through sure)
