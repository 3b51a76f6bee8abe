use Rattle.std.proofs.Common.{◌≡◌, ◌+◌, ◌++◌, ◌∷◌, [], List, take, subst, sym}
use Rattle.osm_model.specs.Change.{ChangeValue}
use Rattle.osm_data.proofs.SinkLemmas.{taken_next}
use Rattle.osm_data.proofs.object_sink.take_all.Goals as goal

pub loop-object-preserved : goal.loop-object-preserved
loop-object-preserved g c =
    let taken = take c.loop-object.object-index c.args.objects.now in
    let next : take (c.loop-object.object-index + 1) c.args.objects.now ≡ taken ++ c.object-item.result ∷ [] =
    taken_next c.args.objects.now c.loop-object.object-index c.object-item.result c.loop-object-test.true c.object-item.is in
    subst (λ (l : List ChangeValue). g.K.ObjectSink.takes c.args.sink.now l c.take.new.self) (sym next)
    (c.laws.ensures.more c.args.sink.now c.loop-object.sink c.take.new.self taken (c.object-item.result ∷ []) c.loop-object.invariant c.in_ok-take.ensures)
