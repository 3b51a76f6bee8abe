use Rattle.std.proofs.Common.{rules, ◌≡◌, ◌∙◌, ◌-◌, ◌+◌, List, length, Option, Some, None, ap, subst, sym, arith}
use Rattle.std.specs.Prelude.{slice_get}
use Rattle.osm_model.specs.Change.{ChangeValue}
use Rattle.osm_net.proofs.SlotLemmas.{last_empty}
use Rattle.osm_net.proofs.slots.drop_empty_end.Goals as goal

pub loop-slots-preserved : goal.loop-slots-preserved
loop-slots-preserved c =
    let empty : slice_get c.loop-slots.slots.items (length c.loop-slots.slots.items - 1) ≡ Some None =
    subst (λ (zs : List (Option ChangeValue)). slice_get zs (length zs - 1) ≡ Some None) c.deref.ensures.value
    (sym c.in-Some-None.ensures.value ∙ ap Some c.in-Some-None.field-0-is) in
    let popped = c.pop.ensures.len in
    let few = c.loop-slots.invariant.no_more in
    record {
      same = λ slot. last_empty c.loop-slots.slots.items c.pop.new.self.items c.pop.result c.pop.ensures.items empty slot
          ∙ c.loop-slots.invariant.same slot;
      no_more = search rules;
    }
