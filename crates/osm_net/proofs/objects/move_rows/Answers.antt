use Rattle.std.proofs.Common.{rules, ◌≡◌, ℕ, List, ◌∷◌, ◌++◌, [], append_assoc, length, subst, ap, sym, arith, ◌∙◌, ◌+◌}
use Rattle.std.proofs.lemmas.List.{length-map}
use Rattle.std.specs.Prelude.{ℤ}
use Rattle.osm_net.specs.Net.{NetEntry}
use Rattle.osm_net.specs.Steps.Entries.{AreApart, IdEntry, entries_of, key_of, of_kind, slot_at}
use Rattle.osm_net.proofs.SlotLemmas.{entries_after, on_err}
use Rattle.osm_net.proofs.objects.move_rows.Goals as goal

pub loop-id-init : goal.loop-id-init
loop-id-init c = record {
  apart = c.into_parts-rows.ensures.slots.apart;
  few = (let many : length c.into_parts-rows.result.0 ≡ length c.args.from =
      sym (length-map c.into_parts-rows.result.0 (λ (e : ℤ × ℕ). (e.0, slot_at c.into_parts-rows.result.1.items e.1)))
      ∙ ap {A = List IdEntry} length c.into_parts-rows.ensures.entries in
      omega (arith, many));
  moved = ap (λ (es : List IdEntry). c.args.entries.now.items ++ of_kind c.args.kind es) c.into_parts-rows.ensures.entries;
}

pub returns-in_err-push-clause-refused : goal.returns-in_err-push-clause-refused
returns-in_err-push-clause-refused c =
    let long : length c.loop-id.rows ≡ length c.next.new.self + 1 = ap {A = List (ℤ × ℕ)} length c.in-Some.ensures ∙ omega arith in
    let few = c.loop-id.invariant.few in
    on_err c.from_residual.result (omega (arith, long, few))

pub loop-id-preserved : goal.loop-id-preserved
loop-id-preserved c =
    let apart : AreApart ((c.in-Some.id, c.in-Some.slot) ∷ c.next.new.self) = subst AreApart c.in-Some.ensures c.loop-id.invariant.apart in
    let moved : c.loop-id.entries.items ++ of_kind c.args.kind (entries_of ((c.in-Some.id, c.in-Some.slot) ∷ c.next.new.self) c.loop-id.slots.items)
    ≡ c.args.entries.now.items ++ of_kind c.args.kind c.args.from =
    subst (λ (es : List (ℤ × ℕ)). c.loop-id.entries.items ++ of_kind c.args.kind (entries_of es c.loop-id.slots.items)
    ≡ c.args.entries.now.items ++ of_kind c.args.kind c.args.from) c.in-Some.ensures c.loop-id.invariant.moved in
    let pushed : c.push.new.self.items ≡ c.loop-id.entries.items ++ (key_of c.args.kind c.in-Some.id, c.take_out-left.result) ∷ [] = search rules in
    let long : length c.loop-id.rows ≡ length c.next.new.self + 1 = ap {A = List (ℤ × ℕ)} length c.in-Some.ensures ∙ omega arith in
    record {
      few = (let few = c.loop-id.invariant.few in omega (arith, long, few));
      apart = apart.1;
      moved = rw (pushed, append_assoc)
          (subst (λ (es : List NetEntry). c.loop-id.entries.items ++ es ≡ c.args.entries.now.items ++ of_kind c.args.kind c.args.from)
          (entries_after (c.in-Some.id, c.in-Some.slot) c.next.new.self c.loop-id.slots.items c.take_out-left.new.slots.items apart
          c.take_out-left.ensures.left c.args.kind c.take_out-left.result c.take_out-left.ensures.taken) moved);
    }
