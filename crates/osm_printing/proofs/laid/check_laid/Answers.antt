use Rattle.std.proofs.Common.{◌≡◌, true, false, refl, sym, ◌∙◌}
use Rattle.osm_printing.proofs.laid.check_laid.Goals as goal

pub returns-then-not-has_head-clause-stops : goal.returns-then-not-has_head-clause-stops
returns-then-not-has_head-clause-stops g c = (
  refl,
  λ known.
      let h = c.in-Ok.ensures.checked known in
      let same = sym h.head ∙ c.requires.starts known h.file h.saved h.there h.spells in
      let is : c.has_head.result ≡ true = c.has_head.ensures.1 same in
      let bad : true ≡ false = sym is ∙ c.if-not-has_head.true in
      cc,
)
