use Rattle.std.proofs.Common.{refl}
use Rattle.osm_exporting.proofs.ObjectLemmas.{other_head}
use Rattle.osm_exporting.proofs.objects.open_objects.Goals as goal

pub returns-then-not-has_head-clause-stops : goal.returns-then-not-has_head-clause-stops
returns-then-not-has_head-clause-stops g c = (
  refl,
  λ known.
      let a = g.S.Store.state c.args.store.now in
      let o = c.in-Ok.opened in
      other_head (a.files c.args.save.now) c.as_slice-entries.result.now o.0 o.1 o.2 (c.in-Ok.ensures.opened known) c.args.laid.now.start c.has_head.result
      c.has_head.ensures c.if-not-has_head.true (c.requires known).fits,
)
