use Rattle.std.proofs.Common.{◌≡◌, ◌++◌, ◌∷◌, [], arith}
use Rattle.std.proofs.lemmas.List.{length-append}
use Rattle.osm_model.specs.Lists.{IsTag}
use Rattle.osm_opl.specs.Written.{tag_text}
use Rattle.osm_opl.proofs.BeginFieldLemmas.{next_with}
use Rattle.osm_opl.proofs.taken_lists.take_tags.Goals as goal

pub loop-alloc-preserved : goal.loop-alloc-preserved
loop-alloc-preserved c =
    let one = rw c.in-Some-2.is at c.in_ok-tag-2.ensures in
    let pushed : c.push-in-loop-alloc.new.self.items ≡ c.loop-alloc.tags.items ++ c.in-Some-2.tag ∷ [] = c.in_ok-push-2.ensures.items in
    let size = length-append c.loop-alloc.tags.items (c.in-Some-2.tag ∷ []) in
    rw pushed (record {
      items = next_with tag_text IsTag c.loop-alloc.tags.items c.in-Some-2.tag c.args.bytes.now c.loop-alloc.rest.now
          c.in-Some-after_byte.items.now c.in-Some-2.after.now c.loop-alloc.invariant.items c.in-Some-after_byte.ensures one;
      few = omega (arith, size);
    })
