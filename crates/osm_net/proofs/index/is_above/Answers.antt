use Rattle.std.proofs.Common.{◌≡◌, ◌∙◌, w64, sym, ap, refl}
use Rattle.std.specs.Ordering.{int_cmp}
use Rattle.std.specs.declared.cmp.Ordering.TheVariants.{Less}
use Rattle.std.proofs.lemmas.Int.{to_z-of_z}
use Rattle.osm_net.proofs.IndexLemmas.{last_above}
use Rattle.osm_net.proofs.index.is_above.Goals as goal

pub returns-in-Less : goal.returns-in-Less
returns-in-Less c =
    let less : int_cmp c.in-Some.last.now c.args.id ≡ Less =
    ap (int_cmp c.in-Some.last.now) (sym (to_z-of_z w64 c.args.id c.ranges.id)) ∙ (sym c.cmp.ensures ∙ c.in-Less.is) in
    (λ yes. last_above c.args.rising.now c.in-Some.last.now c.args.id c.requires (sym c.in-Some.ensures.value) less, λ all. refl)
