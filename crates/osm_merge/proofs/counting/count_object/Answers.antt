use Rattle.std.proofs.Common.{◌≡◌, arith, rules}
use Rattle.std.specs.declared.cmp.Ordering.TheVariants.{Less, Equal, Greater}
use Rattle.osm_model.specs.KeyOrder.{key_cmp}
use Rattle.osm_merge.proofs.CountingLemmas.{below_begun, below_more, one_above, one_at, one_none}
use Rattle.osm_merge.proofs.ObjectLemmas.{put_before-few}
use Rattle.osm_merge.proofs.counting.count_object.Goals as goal

pub loop-key-init : goal.loop-key-init
loop-key-init c = below_begun c.args.entries.now c.args.object

pub loop-key-preserved : goal.loop-key-preserved
loop-key-preserved c =
    let less : key_cmp c.in-Some.key c.args.object ≡ Less = search rules in
    below_more c.args.entries.now c.loop-key.rest.now c.in-Some.after.now c.args.object
    (c.in-Some.key, c.in-Some.left.now) c.loop-key.many c.count_left-many.result
    c.loop-key.invariant c.in-Some.ensures less c.count_left-many.ensures (omega (arith, put_before-few c.in-Some.left.now, c.count_left-many.ensures))

pub returns-in-Equal : goal.returns-in-Equal
returns-in-Equal c =
    let equal : key_cmp c.in-Some.key c.args.object ≡ Equal = search rules in
    one_at c.args.entries.now c.loop-key.rest.now c.in-Some.after.now c.args.object (c.in-Some.key, c.in-Some.left.now) c.loop-key.many c.count_left.result
    c.loop-key.invariant c.in-Some.ensures equal c.count_left.ensures (omega (arith, put_before-few c.in-Some.left.now, c.count_left.ensures))

pub returns-in-Greater : goal.returns-in-Greater
returns-in-Greater c =
    let greater : key_cmp c.in-Some.key c.args.object ≡ Greater = search rules in
    one_above c.args.entries.now c.loop-key.rest.now c.in-Some.after.now c.args.object (c.in-Some.key, c.in-Some.left.now) c.loop-key.many
    c.loop-key.invariant c.in-Some.ensures greater

pub returns : goal.returns
returns c = one_none c.args.entries.now c.loop-key.rest.now c.args.object c.loop-key.many c.loop-key.invariant c.in_default.ensures
