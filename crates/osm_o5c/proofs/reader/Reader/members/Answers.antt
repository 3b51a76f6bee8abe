use Rattle.std.proofs.Common.{rules, arith, ◌≡◌, ◌++◌, ◌∷◌, ◌-◌, ◌+◌, [], length}
use Rattle.std.proofs.lemmas.List.{length-append}
use Rattle.osm_o5c.specs.ObjectReading.{member_at}
use Rattle.osm_o5c.proofs.LoopLemmas.{member_shorter}
use Rattle.osm_o5c.proofs.ManyLemmas.{loop_over, loop_wrong, loop_end, loop_more}
use Rattle.osm_o5c.proofs.reader.Reader.members.Goals as goal

pub returns-then-len-ge-MAX_REFS : goal.returns-then-len-ge-MAX_REFS
returns-then-len-ge-MAX_REFS c = loop_over member_at (32000 - length c.loop-rest.found.items) c.loop-rest.self
    c.loop-rest.rest.now c.loop-rest.found.items _ c.loop-rest.invariant.same (search rules) (search rules)

pub returns-in-Err : goal.returns-in-Err
returns-in-Err c = loop_wrong member_at (32000 - length c.loop-rest.found.items) c.loop-rest.self c.loop-rest.rest.now
    c.loop-rest.found.items _ _ c.loop-rest.invariant.same (search rules) (search rules)

pub loop-rest-smaller : goal.loop-rest-smaller
loop-rest-smaller c = member_shorter c.loop-rest.self c.loop-rest.rest.now c.in-Ok.read.0 c.member.new.self c.in-Ok.read.1.now (search rules)

pub loop-rest-preserved : goal.loop-rest-preserved
loop-rest-preserved c =
    let one = c.in-Ok.read.0 in
    let after = c.in-Ok.read.1.now in
    let pushed : c.push.new.self.items ≡ c.loop-rest.found.items ++ one ∷ [] = search rules in
    let size : 32000 - length (c.loop-rest.found.items ++ one ∷ []) + 1 ≡ 32000 - length c.loop-rest.found.items =
    omega (arith, length-append c.loop-rest.found.items (one ∷ [])) in
    record {
      same = rw pushed (loop_more member_at (32000 - length c.loop-rest.found.items)
          (32000 - length (c.loop-rest.found.items ++ one ∷ [])) c.loop-rest.self c.loop-rest.rest.now one
          c.member.new.self after c.loop-rest.found.items _ (search rules) (omega arith)
          (search rules) c.loop-rest.invariant.same);
      few = search rules;
    }

pub returns : goal.returns
returns c =
    rw c.from_vec.ensures (loop_end member_at (32000 - length c.loop-rest.found.items) c.loop-rest.self
    c.loop-rest.rest.now c.loop-rest.found.items _ c.loop-rest.invariant.same (search rules))
