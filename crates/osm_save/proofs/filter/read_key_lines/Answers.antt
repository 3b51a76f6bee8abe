use Rattle.std.proofs.Common.{◌≡◌, Some, None, sym, ◌∙◌, rules}
use Rattle.osm_reading.specs.Pieces.{cut_at}
use Rattle.osm_save.specs.Reading.{items_at, key_at, last_of}
use Rattle.osm_save.proofs.FilterLemmas.{last_of-more}
use Rattle.osm_save.proofs.ItemLemmas.{items_begun, items_cut, items_more, items_wrong, stops}
use Rattle.osm_save.proofs.filter.read_key_lines.Goals as goal

pub loop-init : goal.loop-init
loop-init c = rw c.new-keys.ensures.items (items_begun (λ k. k) key_at c.args.many c.args.rest.now)

pub returns-in-Ok-None-clause-value : goal.returns-in-Ok-None-clause-value
returns-in-Ok-None-clause-value c =
    let same : c.as_slice.result.now ≡ c.loop.keys.items = search rules in
    items_wrong (λ k. k) key_at c.args.many c.args.rest.now c.loop.counter c.loop.keys.items (last_of c.loop.keys.items)
    c.loop.rest.now c.in-Ok.cut.0.now c.in-Ok.cut.1.now c.loop-test.true c.loop.invariant c.in-Ok.ensures
    (rw same at (sym (sym c.in-Ok-None.field-0-is ∙ c.in-Ok-None.ensures)))

pub loop-preserved : goal.loop-preserved
loop-preserved c =
    let keys = c.loop.keys.items in
    let key = c.in-Ok-Some.key in
    let same : c.as_slice.result.now ≡ keys = search rules in
    let read : key_at (last_of keys) c.in-Ok.cut.0.now ≡ Some key = rw same at (sym (sym c.in-Ok-Some.field-0-is ∙ c.in-Ok-Some.ensures)) in
    rw (c.in_ok-add_key.ensures, last_of-more keys key)
    (items_more (λ k. k) key_at c.args.many c.args.rest.now c.loop.counter keys (last_of keys) c.loop.rest.now
    c.in-Ok.cut.0.now c.in-Ok.cut.1.now key c.loop-test.true c.loop.invariant c.in-Ok.ensures read)

pub returns-in-Err-clause-value : goal.returns-in-Err-clause-value
returns-in-Err-clause-value c =
    stops c.in-Err.stop (cut_at 10 c.loop.rest.now) (items_at (λ k. k) key_at c.args.many None c.args.rest.now)
    c.in-Err.ensures (items_cut (λ k. k) key_at c.args.many c.args.rest.now c.loop.counter c.loop.keys.items
    (last_of c.loop.keys.items) c.loop.rest.now c.loop-test.true c.loop.invariant)
