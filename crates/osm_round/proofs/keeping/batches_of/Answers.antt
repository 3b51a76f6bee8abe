use Rattle.std.proofs.Common.{◌++◌, ◌∷◌, [], map, take, ap, ◌∙◌}
use Rattle.std.proofs.lemmas.List.{map-append, map_more}
use Rattle.osm_round.specs.Gathering.{batch_in}
use Rattle.osm_round.proofs.keeping.batches_of.Goals as goal

pub loop-text-preserved : goal.loop-text-preserved
loop-text-preserved c =
    let i = c.loop-text.text-index in
    record {
      made = rw (
        c.in_ok-push.ensures.items,
        map-append,
        c.loop-text.invariant.made,
        map_more batch_in c.args.texts.now i c.text-item.result c.loop-text-test.true,
      )
          (ap (λ x. map batch_in (take i c.args.texts.now) ++ x ∷ []) (c.batch_from.ensures ∙ ap batch_in c.text-item.is));
    }
