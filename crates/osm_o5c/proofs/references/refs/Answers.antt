use Rattle.std.proofs.Common.{rules, arith, ◌≡◌, ◌++◌, ◌∷◌, ◌-◌, ◌+◌, [], length}
use Rattle.std.proofs.lemmas.List.{length-append}
use Rattle.osm_o5c.specs.ObjectReading.{ref_at}
use Rattle.osm_reading.specs.declared.refusal.Refusal.TheVariants.{Fault}
use Rattle.osm_o5c.proofs.LoopLemmas.{ref_shorter}
use Rattle.osm_o5c.proofs.ManyLemmas.{loop_over, loop_wrong, loop_end, loop_more}
use Rattle.osm_o5c.proofs.references.refs.Goals as goal

pub returns-then-len-ge-MAX_REFS-clause-gives : goal.returns-then-len-ge-MAX_REFS-clause-gives
returns-then-len-ge-MAX_REFS-clause-gives c =
    loop_over ref_at (32000 - length c.loop-rest.found.items) c.loop-rest.counters.way_node c.loop-rest.rest.now
    c.loop-rest.found.items _ c.loop-rest.invariant.same (search rules) (search rules)

pub returns-in-Err-clause-gives : goal.returns-in-Err-clause-gives
returns-in-Err-clause-gives c = loop_wrong ref_at (32000 - length c.loop-rest.found.items) c.loop-rest.counters.way_node
    c.loop-rest.rest.now c.loop-rest.found.items _ (Fault c.in-Err.why) c.loop-rest.invariant.same (search rules)
    (search rules)

pub loop-rest-smaller : goal.loop-rest-smaller
loop-rest-smaller c = ref_shorter c.loop-rest.counters.way_node c.loop-rest.rest.now c.in-Ok.read.0
    c.reference.new.counters.way_node c.in-Ok.read.1.now (search rules)

pub loop-rest-preserved : goal.loop-rest-preserved
loop-rest-preserved c =
    let one = c.in-Ok.read.0 in
    let after = c.in-Ok.read.1.now in
    let pushed : c.push.new.self.items ≡ c.loop-rest.found.items ++ one ∷ [] = search rules in
    let size : 32000 - length (c.loop-rest.found.items ++ one ∷ []) + 1 ≡ 32000 - length c.loop-rest.found.items =
    omega (arith, length-append c.loop-rest.found.items (one ∷ [])) in
    record {
      same = rw pushed (loop_more ref_at (32000 - length c.loop-rest.found.items)
          (32000 - length (c.loop-rest.found.items ++ one ∷ [])) c.loop-rest.counters.way_node c.loop-rest.rest.now one
          c.reference.new.counters.way_node after c.loop-rest.found.items _ (search rules) (omega arith)
          (search rules) c.loop-rest.invariant.same);
      few = search rules;
      others = search rules;
    }

pub returns-clause-gives : goal.returns-clause-gives
returns-clause-gives c =
    rw c.from_vec.ensures (loop_end ref_at (32000 - length c.loop-rest.found.items) c.loop-rest.counters.way_node
    c.loop-rest.rest.now c.loop-rest.found.items _ c.loop-rest.invariant.same (search rules))
