-- One more slot.
use Rattle.std.proofs.Common.{ℕ, ◌+◌, ◌∙◌, ap, sym, refl, arith}
use Rattle.std.proofs.lemmas.Bool.{false≢true}
use Rattle.osm_holding.proofs.SlotLemmas.{count_before_held, count_before_free}
use Rattle.osm_holding.proofs.holding.HoldingArea.count.Goals as goal
use Rattle.osm_holding.proofs.holding.HoldingArea.count.Goals.{then-is_held, else-is_held}

pub loop-index-preserved : goal.loop-index-preserved
loop-index-preserved c =
    let tells = rw (← c.self.view_is) at c.is_held.ensures.held in
    elim c.if-is_held.branch [
      | then-is_held w ↦ record {
        shown = w.count-is ∙ (ap (λ (n : ℕ). n + 1) c.loop-index.invariant.shown
            ∙ sym (count_before_held (c.self.inside.reached + 1) c.self.inside.slots.items c.loop-index.index
            (c.self.inside.reached + 1 + c.loop-index.index) refl (tells.0 w.if-is_held.true)));
        few = omega (arith, w.count-is, c.loop-index.invariant.few);
      }
      | else-is_held w ↦ record {
        shown = w.count-is
            ∙ (c.loop-index.invariant.shown
            ∙ sym (count_before_free (c.self.inside.reached + 1) c.self.inside.slots.items c.loop-index.index
            (c.self.inside.reached + 1 + c.loop-index.index) refl
            (λ some. false≢true (sym w.if-is_held.false ∙ tells.1 some))));
        few = omega (arith, w.count-is, c.loop-index.invariant.few);
      }
    ]
