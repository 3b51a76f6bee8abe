use Rattle.std.proofs.Common.{rules, ◌≡◌, ℕ, List, ◌∷◌, subst, sym}
use Rattle.std.specs.Prelude.{ℤ, Some, if◌then◌else◌}
use Rattle.osm_model.specs.KeyOrder.{same_key}
use Rattle.osm_model.specs.declared.kind.Key.{Key}
use Rattle.osm_net.specs.Net.{net_at}
use Rattle.osm_net.specs.Steps.Entries.{AreApart, IdEntry, entries_of, key_of, of_kind}
use Rattle.osm_net.proofs.JoinedLemmas.{ArePut, none_put, one_put}
use Rattle.osm_net.proofs.KindLemmas.{one_kind_rises}
use Rattle.osm_net.proofs.SlotLemmas.{entries_after}
use Rattle.osm_net.proofs.objects.NetObjects.append_kind.Goals as goal

pub loop-id-init : goal.loop-id-init
loop-id-init c =
    let all : entries_of c.into_parts-rows.result.0 c.into_parts-rows.result.1.items ≡ c.args.later = search rules in
    record {
      apart = c.into_parts-rows.ensures.slots.apart;
      put = subst (λ (es : List IdEntry). ArePut c.args.self.now (of_kind c.args.kind c.args.later) c.args.self.now (of_kind c.args.kind es)) (sym all)
          (none_put c.args.self.now (of_kind c.args.kind c.args.later) (one_kind_rises c.args.kind c.args.later c.limits.ensures)
          c.requires.own c.requires.each);
    }

pub loop-id-preserved : goal.loop-id-preserved
loop-id-preserved c =
    let apart : AreApart ((c.in-Some.id, c.in-Some.slot) ∷ c.next.new.self) = subst AreApart c.in-Some.ensures c.loop-id.invariant.apart in
    let put : ArePut c.args.self.now (of_kind c.args.kind c.args.later) c.loop-id.self
    (of_kind c.args.kind (entries_of ((c.in-Some.id, c.in-Some.slot) ∷ c.next.new.self) c.loop-id.slots.items)) =
    subst (λ (es : List (ℤ × ℕ)). ArePut c.args.self.now (of_kind c.args.kind c.args.later) c.loop-id.self
    (of_kind c.args.kind (entries_of es c.loop-id.slots.items))) c.in-Some.ensures c.loop-id.invariant.put in
    let now : (k : Key) → net_at c.put_left.new.self k
    ≡ (if same_key (key_of c.args.kind c.in-Some.id) k then Some c.take_out-left.result else net_at c.loop-id.self k) = search rules in
    record {
      apart = apart.1;
      put = one_put c.args.self.now (of_kind c.args.kind c.args.later) c.loop-id.self c.put_left.new.self
          (of_kind c.args.kind (entries_of c.next.new.self c.take_out-left.new.slots.items)) (key_of c.args.kind c.in-Some.id, c.take_out-left.result)
          (subst (ArePut c.args.self.now (of_kind c.args.kind c.args.later) c.loop-id.self)
          (entries_after (c.in-Some.id, c.in-Some.slot) c.next.new.self c.loop-id.slots.items c.take_out-left.new.slots.items apart
          c.take_out-left.ensures.left c.args.kind c.take_out-left.result c.take_out-left.ensures.taken) put) now;
    }
