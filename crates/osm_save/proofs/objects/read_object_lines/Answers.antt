use Rattle.std.proofs.Common.{◌≡◌, Some, None, sym, ◌∙◌, map}
use Rattle.std.proofs.lemmas.List.{map-append}
use Rattle.osm_model.specs.Change.{ChangeValue}
use Rattle.osm_model.specs.KeyOrder.{key_cmp}
use Rattle.osm_model.proofs.DataLemmas.{keys_total}
use Rattle.osm_save.specs.Reading.{items_at, object_at}
use Rattle.osm_reading.specs.Pieces.{cut_at}
use Rattle.osm_save.proofs.ItemLemmas.{below_begun, below_more, items_begun, items_cut, items_more, items_wrong, stops}
use Rattle.osm_save.proofs.ObjectLemmas.{TakesObject, object_takes}
use Rattle.osm_save.proofs.objects.read_object_lines.Goals as goal

pub loop-init : goal.loop-init
loop-init c = rw c.new-objects.ensures (record {
  items = items_begun (λ d. d.key) (object_at c.args.filter.now) c.args.many c.args.rest.now;
  below = below_begun key_cmp keys_total;
})

pub returns-in-Ok-None : goal.returns-in-Ok-None
returns-in-Ok-None c =
    items_wrong (λ d. d.key) (object_at c.args.filter.now) c.args.many c.args.rest.now c.loop.counter c.loop.objects c.loop.last
    c.loop.rest.now c.in-Ok.cut.0.now c.in-Ok.cut.1.now c.loop-test.true c.loop.invariant.items c.in-Ok.ensures
    (sym (sym c.in-Ok-None.field-0-is ∙ c.in-Ok-None.ensures.read))

pub push-requires-clause-rising : goal.push-requires-clause-rising
push-requires-clause-rising c =
    let taken : TakesObject c.args.filter.now c.loop.last c.in-Ok.cut.0.now c.in-Ok-Some.object =
    object_takes c.args.filter.now c.loop.last c.in-Ok.cut.0.now c.in-Ok-Some.object
    (sym (sym c.in-Ok-Some.field-0-is ∙ c.in-Ok-Some.ensures.read)) in
    rw (map-append) (c.loop.invariant.below c.in-Ok-Some.object.key taken.above)

pub push-requires-clause-is_left : goal.push-requires-clause-is_left
push-requires-clause-is_left c =
    let taken : TakesObject c.args.filter.now c.loop.last c.in-Ok.cut.0.now c.in-Ok-Some.object =
    object_takes c.args.filter.now c.loop.last c.in-Ok.cut.0.now c.in-Ok-Some.object
    (sym (sym c.in-Ok-Some.field-0-is ∙ c.in-Ok-Some.ensures.read)) in
    taken.good.object.is_left

pub loop-preserved : goal.loop-preserved
loop-preserved c =
    let read : object_at c.args.filter.now c.loop.last c.in-Ok.cut.0.now ≡ Some c.in-Ok-Some.object =
    sym (sym c.in-Ok-Some.field-0-is ∙ c.in-Ok-Some.ensures.read) in
    let taken : TakesObject c.args.filter.now c.loop.last c.in-Ok.cut.0.now c.in-Ok-Some.object =
    object_takes c.args.filter.now c.loop.last c.in-Ok.cut.0.now c.in-Ok-Some.object read in
    rw (c.in_ok-push.ensures.pushed, c.key.ensures.key) (record {
      items = items_more (λ d. d.key) (object_at c.args.filter.now) c.args.many c.args.rest.now c.loop.counter c.loop.objects c.loop.last
          c.loop.rest.now c.in-Ok.cut.0.now c.in-Ok.cut.1.now c.in-Ok-Some.object c.loop-test.true
          c.loop.invariant.items c.in-Ok.ensures read;
      below = rw (map-append) (below_more key_cmp keys_total (map (λ (d : ChangeValue). d.key) c.loop.objects)
          c.loop.last c.in-Ok-Some.object.key c.loop.invariant.below taken.above);
    })

pub returns-in-Err : goal.returns-in-Err
returns-in-Err c =
    stops c.in-Err.stop (cut_at 10 c.loop.rest.now) (items_at (λ d. d.key) (object_at c.args.filter.now) c.args.many None c.args.rest.now)
    c.in-Err.ensures (items_cut (λ d. d.key) (object_at c.args.filter.now) c.args.many c.args.rest.now c.loop.counter c.loop.objects
    c.loop.last c.loop.rest.now c.loop-test.true c.loop.invariant.items)
