use Rattle.std.proofs.Common.{◌≡◌, ◌++◌, ◌∷◌, [], arith}
use Rattle.std.proofs.lemmas.List.{length-append}
use Rattle.osm_opl.specs.Flat.{IsMember}
use Rattle.osm_opl.specs.Written.{member_text}
use Rattle.osm_opl.proofs.BeginFieldLemmas.{next_with, members_with}
use Rattle.osm_opl.proofs.taken_lists.take_members.Goals as goal

pub loop-alloc-preserved : goal.loop-alloc-preserved
loop-alloc-preserved c =
    let one = rw c.in-Some-2.is at c.in_ok-member-2.ensures in
    let pushed : c.push-in-loop-alloc.new.self.items ≡ c.loop-alloc.members.items ++ c.in-Some-2.member ∷ [] = c.in_ok-push-2.ensures.items in
    let size = length-append c.loop-alloc.members.items (c.in-Some-2.member ∷ []) in
    rw pushed (record {
      items = next_with member_text IsMember c.loop-alloc.members.items c.in-Some-2.member c.args.bytes.now c.loop-alloc.rest.now
          c.in-Some-after_byte.items.now c.in-Some-2.after.now c.loop-alloc.invariant.items c.in-Some-after_byte.ensures one;
      few = omega (arith, size);
    })

pub returns : goal.returns
returns c =
    rw c.from_vec-2.ensures (members_with c.loop-alloc.members.items c.args.bytes.now c.loop-alloc.rest.now
    c.loop-alloc.invariant.items c.loop-alloc.invariant.few)
