use Rattle.std.proofs.Common.{rules, arith, ◌≡◌, ◌++◌, ◌∷◌, ◌-◌, ◌+◌, [], length}
use Rattle.std.proofs.lemmas.List.{length-append}
use Rattle.osm_o5c.specs.StringReading.{tag_at}
use Rattle.osm_o5c.proofs.LoopLemmas.{tag_shorter}
use Rattle.osm_o5c.proofs.ManyLemmas.{loop_over, loop_wrong, loop_end, loop_more}
use Rattle.osm_o5c.proofs.tags.read_some_flat_tags.Goals as goal

pub returns-then-len-ge-MAX_TAGS : goal.returns-then-len-ge-MAX_TAGS
returns-then-len-ge-MAX_TAGS c = loop_over tag_at (5000 - length c.loop-rest.found.items) c.loop-rest.strings
    c.loop-rest.rest.now c.loop-rest.found.items _ c.loop-rest.invariant.same (search rules) (search rules)

pub returns-in-Err : goal.returns-in-Err
returns-in-Err c = loop_wrong tag_at (5000 - length c.loop-rest.found.items) c.loop-rest.strings c.loop-rest.rest.now
    c.loop-rest.found.items _ _ c.loop-rest.invariant.same (search rules) (search rules)

pub loop-rest-smaller : goal.loop-rest-smaller
loop-rest-smaller c = tag_shorter c.loop-rest.strings c.loop-rest.rest.now c.in-Ok.read.0 c.flat_tag.new.strings c.in-Ok.read.1.now (search rules)

pub loop-rest-preserved : goal.loop-rest-preserved
loop-rest-preserved c =
    let one = c.in-Ok.read.0 in
    let after = c.in-Ok.read.1.now in
    let pushed : c.push.new.self.items ≡ c.loop-rest.found.items ++ one ∷ [] = search rules in
    let size : 5000 - length (c.loop-rest.found.items ++ one ∷ []) + 1 ≡ 5000 - length c.loop-rest.found.items =
    omega (arith, length-append c.loop-rest.found.items (one ∷ [])) in
    record {
      same = rw pushed (loop_more tag_at (5000 - length c.loop-rest.found.items)
          (5000 - length (c.loop-rest.found.items ++ one ∷ [])) c.loop-rest.strings c.loop-rest.rest.now one
          c.flat_tag.new.strings after c.loop-rest.found.items _ (search rules) (omega arith)
          (search rules) c.loop-rest.invariant.same);
      few = rw pushed (omega (arith, length-append c.loop-rest.found.items (one ∷ [])));
    }

pub returns : goal.returns
returns c = loop_end tag_at (5000 - length c.loop-rest.found.items) c.loop-rest.strings
    c.loop-rest.rest.now c.loop-rest.found.items _ c.loop-rest.invariant.same (search rules)
