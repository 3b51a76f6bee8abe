use Rattle.std.proofs.Common.{Err, refl}
use Rattle.osm_blocks.proofs.OftenLemmas.{often_both, often_none, often_then}
use Rattle.osm_asking.specs.Referring.{AreReferred}
use Rattle.osm_repl.specs.Getting.{IsStoreFault}
use Rattle.osm_repl.specs.Steps.Getting.{at}
use Rattle.osm_repl.proofs.GetLemmas.{gathers_cut, told_all, told_cut, told_first, told_more}
use Rattle.osm_repl.proofs.OneLemmas.{asked_after}
use Rattle.osm_repl.proofs.asking.print_referred.Goals as goal

pub returns-in-Err-clause-cut : goal.returns-in-Err-clause-cut
returns-in-Err-clause-cut g c = λ asked there has.
    gathers_cut asked there
    (at (g.S.Store.state c.args.store.now) c.args.question.now (g.W.Write.contents c.args.writer.now) c.args.lines.now.items) _ _ refl refl

pub loop-key-init : goal.loop-key-init
loop-key-init g c = record {
  frame = often_none {T = Unit {0}} IsStoreFault (g.S.Store.state c.args.store.now) tt;
  told = told_first _ _ _ refl refl (λ s asked. asked_after s _ _ (record {
    files = refl;
    known = refl;
    save = refl;
    same = c.in-Ok.ensures.same;
  }) asked);
}

-- the objects before were printed, and this one isn't
pub returns-in-Err-print_one-clause-cut : goal.returns-in-Err-print_one-clause-cut
returns-in-Err-print_one-clause-cut g c = λ asked there has.
    let referred : AreReferred asked there c.as_slice-key-items.result.now = rw c.as_slice-key-items.ensures.value (c.in-Ok.ensures.referred asked there has) in
    told_cut c.as_slice-key-items.result.now c.loop-key.key-index _ asked there _ _ _ _ _ c.loop-key-test.true referred c.loop-key.invariant.told
    c.in-Err-print_one.ensures.cut

pub returns-in-Err-print_one-clause-frame : goal.returns-in-Err-print_one-clause-frame
returns-in-Err-print_one-clause-frame g c =
    often_both {T = Unit {0}} IsStoreFault (g.S.Store.state c.args.store.now) (g.S.Store.state c.loop-key.store)
    (g.S.Store.state c.print_one.new.store) tt (Err c.in-Err-print_one.fault) c.loop-key.invariant.frame c.in-Err-print_one.ensures.frame

pub loop-key-preserved : goal.loop-key-preserved
loop-key-preserved g c = record {
  frame = often_then {V = Unit {0}} IsStoreFault (g.S.Store.state c.args.store.now) (g.S.Store.state c.loop-key.store)
      (g.S.Store.state c.print_one.new.store) tt tt tt c.loop-key.invariant.frame c.in-Ok-print_one.ensures.frame;
  told = told_more _ c.loop-key.key-index _ _ _ _ c.loop-key-test.true c.loop-key.invariant.told c.in-Ok-print_one.ensures.shown;
}

pub returns-clause-told : goal.returns-clause-told
returns-clause-told g c = λ asked there has.
    let referred : AreReferred asked there c.as_slice-key-items.result.now = rw c.as_slice-key-items.ensures.value (c.in-Ok.ensures.referred asked there has) in
    told_all c.as_slice-key-items.result.now c.loop-key.key-index asked there _ _ c.loop-key-test.false referred c.loop-key.invariant.told

pub returns-clause-frame : goal.returns-clause-frame
returns-clause-frame g c = c.loop-key.invariant.frame
