use Rattle.std.proofs.Common.{◌≡◌, ◌++◌, ◌∷◌, [], arith, rules, FitsSigned, w64}
use Rattle.std.proofs.lemmas.Int.{to_z-of_z}
use Rattle.std.proofs.lemmas.List.{length-append}
use Rattle.osm_model.specs.Limits.{IsId}
use Rattle.osm_opl.specs.Written.{ref_text}
use Rattle.osm_opl.proofs.BeginFieldLemmas.{next_with}
use Rattle.osm_opl.proofs.taken_lists.take_refs.Goals as goal

pub loop-rest-preserved : goal.loop-rest-preserved
loop-rest-preserved c =
    let fits : FitsSigned w64 c.in-Some-after_ref.id = search rules in
    let pushed : c.push-in-loop-rest.new.self.items ≡ c.loop-rest.refs.items ++ c.in-Some-after_ref.id ∷ [] =
    simp to_z-of_z at c.in_ok-push-2.ensures.items in
    let size = length-append c.loop-rest.refs.items (c.in-Some-after_ref.id ∷ []) in
    rw pushed (record {
      items = next_with ref_text IsId c.loop-rest.refs.items c.in-Some-after_ref.id c.args.bytes.now c.loop-rest.rest.now
          c.in-Some-after_byte.items.now c.in-Some-after_ref.after.now c.loop-rest.invariant.items c.in-Some-after_byte.ensures c.in-Some-after_ref.ensures;
      few = omega (arith, size);
    })
