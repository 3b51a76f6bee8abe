use Rattle.std.proofs.Common.{◌≡◌, ◌++◌, ◌∷◌, [], ℤ, List, w64, subst, length}
use Rattle.std.specs.BTreeMap.{insert_entry}
use Rattle.std.specs.List.{AllByRecursion}
use Rattle.std.specs.Ordering.{int_cmp}
use Rattle.std.specs.declared.cmp.Ordering.TheVariants.{Less}
use Rattle.std.proofs.lemmas.Int.{to_z-of_z}
use Rattle.osm_net.specs.Steps.Index.{numbered}
use Rattle.osm_net.proofs.IndexLemmas.{list_more, none_of, numbered_rise, pushed_rise, put_more}
use Rattle.osm_net.proofs.index.Index.insert.Goals as goal

pub invariant_of-self-then-comes_next : goal.invariant_of-self-then-comes_next
invariant_of-self-then-comes_next c =
    let fit : _ ≡ c.args.id = to_z-of_z w64 c.args.id c.ranges.id in
    let above : AllByRecursion (λ (k : ℤ). int_cmp k c.args.id ≡ Less) c.self.inside.rising.items =
    subst (λ (ids : List ℤ). AllByRecursion (λ (k : ℤ). int_cmp k c.args.id ≡ Less) ids) c.as_slice.ensures.value
    (subst (λ (id : ℤ). AllByRecursion (λ (k : ℤ). int_cmp k id ≡ Less) c.as_slice.result.now) fit (c.comes_next.ensures.0 c.if-comes_next.true).1) in
    let items : c.push.new.self.items ≡ c.self.inside.rising.items ++ c.args.id ∷ [] =
    subst (λ (id : ℤ). c.push.new.self.items ≡ c.self.inside.rising.items ++ id ∷ []) fit c.in_ok-push.ensures.items in
    rw items (pushed_rise c.self.inside.rising.items c.args.id c.self.invariant above)

pub returns-then-comes_next-clause-inserted : goal.returns-then-comes_next-clause-inserted
returns-then-comes_next-clause-inserted c =
    let fit : _ ≡ c.args.id = to_z-of_z w64 c.args.id c.ranges.id in
    let above : AllByRecursion (λ (k : ℤ). int_cmp k c.args.id ≡ Less) c.self.inside.rising.items =
    subst (λ (ids : List ℤ). AllByRecursion (λ (k : ℤ). int_cmp k c.args.id ≡ Less) ids) c.as_slice.ensures.value
    (subst (λ (id : ℤ). AllByRecursion (λ (k : ℤ). int_cmp k id ≡ Less) c.as_slice.result.now) fit (c.comes_next.ensures.0 c.if-comes_next.true).1) in
    let items : c.push.new.self.items ≡ c.self.inside.rising.items ++ c.args.id ∷ [] =
    subst (λ (id : ℤ). c.push.new.self.items ≡ c.self.inside.rising.items ++ id ∷ []) fit c.in_ok-push.ensures.items in
    let position : c.args.slot ≡ length c.self.inside.rising.items =
    subst (λ (ids : List ℤ). c.args.slot ≡ length ids) c.as_slice.ensures.value (c.comes_next.ensures.0 c.if-comes_next.true).0 in
    rw (← c.self.view_is) (list_more c.self.inside.others.entries c.self.inside.rising.items c.push.new.self.items c.args.id c.args.slot
    (none_of c.self.inside.others.entries (c.is_empty.ensures.0 c.if-is_empty.true)) items position above)

pub returns-clause-inserted : goal.returns-clause-inserted
returns-clause-inserted c =
    let entries : c.insert.new.self.entries ≡ insert_entry int_cmp c.self.inside.others.entries c.args.id c.args.slot =
    subst (λ (id : ℤ). c.insert.new.self.entries ≡ insert_entry int_cmp c.self.inside.others.entries id c.args.slot)
    (to_z-of_z w64 c.args.id c.ranges.id) c.in_ok-insert.ensures.entries in
    rw (← c.self.view_is, entries) (put_more c.self.inside.others.entries (numbered 0 c.self.inside.rising.items) c.args.id c.args.slot
    (numbered_rise 0 c.self.inside.rising.items c.self.invariant))
