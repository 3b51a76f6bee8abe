use Rattle.std.proofs.Common.{refl, ◌∙◌}
use Rattle.osm_blocks.proofs.OftenLemmas.{often_none, often_then}
use Rattle.osm_repl.specs.Getting.{IsStoreFault}
use Rattle.osm_repl.proofs.GetLemmas.{goes_first, shown_none, word_cut, word_shown, words_shown}
use Rattle.osm_repl.proofs.asking.print_sought.Goals as goal

pub loop-each-init : goal.loop-each-init
loop-each-init g c = record {
  dropped = refl;
  unnoted = c.requires.unnoted;
  frame = often_none {T = Unit {0}} IsStoreFault (g.S.Store.state c.args.store.now) tt;
  shown = shown_none _ _ (goes_first c.args.sought.now _);
}

-- the words before were done, and this one isn't
pub returns-in-Err-clause-cut : goal.returns-in-Err-clause-cut
returns-in-Err-clause-cut g c =
    word_cut c.args.sought.now c.loop-each.each-index _ _ _ _ _ _ _ _ _ c.loop-each-test.true c.loop-each.invariant.shown c.in-Err.ensures.cut

pub loop-each-preserved : goal.loop-each-preserved
loop-each-preserved g c = record {
  dropped = c.in-Ok.ensures.dropped ∙ c.loop-each.invariant.dropped;
  unnoted = c.in-Ok.ensures.unnoted;
  frame = often_then {V = Unit {0}} IsStoreFault (g.S.Store.state c.args.store.now) (g.S.Store.state c.loop-each.store)
      (g.S.Store.state c.print_each.new.store) tt tt tt c.loop-each.invariant.frame c.in-Ok.ensures.frame;
  shown = word_shown c.args.sought.now c.loop-each.each-index _ _ _ _ _ _ _ c.loop-each-test.true c.loop-each.invariant.shown c.in-Ok.ensures.shown
      c.in-Ok.ensures.left;
}

pub returns-clause-shown : goal.returns-clause-shown
returns-clause-shown g c = words_shown c.args.sought.now c.loop-each.each-index _ _ _ _ c.loop-each-test.false c.loop-each.invariant.shown
