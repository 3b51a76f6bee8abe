use Rattle.std.proofs.Common.{◌≡◌, ◌∷◌, List, ap, sym, ◌∙◌, rules}
use Rattle.std.specs.declared.cmp.Ordering.TheVariants.{Greater}
use Rattle.osm_model.specs.KeyOrder.{key_cmp}
use Rattle.osm_net.specs.Laid.{laid_over}
use Rattle.osm_net.specs.Net.{NetEntry}
use Rattle.osm_merge.proofs.ObjectLemmas.{over_above, over_none}
use Rattle.osm_merge.proofs.objects.is_before_all.Goals as goal

pub returns-in-None : goal.returns-in-None
returns-in-None c = λ yes object same cs.
    ap (λ (l : List NetEntry). laid_over l (object ∷ cs)) c.in-None.ensures
    ∙ over_none object cs
    ∙ ap (λ (l : List NetEntry). object ∷ laid_over l cs) (sym c.in-None.ensures)

pub returns-in-Greater : goal.returns-in-Greater
returns-in-Greater c = λ yes object same cs.
    let greater : key_cmp c.in-Some.key object.key ≡ Greater = rw same (search rules) in
    ap (λ (l : List NetEntry). laid_over l (object ∷ cs)) c.in-Some.ensures
    ∙ over_above (c.in-Some.key, c.in-Some._left.now) c.in-Some._after.now object greater cs
    ∙ ap (λ (l : List NetEntry). object ∷ laid_over l cs) (sym c.in-Some.ensures)
