-- Lists in order with the same at each key are the same, and so are mirrors of the same changes.
use Rattle.std.proofs.Common.{◌≡◌, ℕ, ◌<◌, List, [], ◌∷◌, map, refl, sym, ap, ◌∙◌, Bool, true, false, cond, Option, Some, None, ⊎_elim, arith}
use Rattle.std.specs.Prelude.{unwrap_or}
use Rattle.std.specs.BTreeMap.{is_at}
use Rattle.std.specs.Cmp.{IsTotalOrder, alike_right, eq_by_cmp_equiv, tied_itself}
use Rattle.std.specs.List.{AllByRecursion}
use Rattle.std.specs.List.Sorted.{IsStrictlySortedBy}
use Rattle.std.specs.Map.{keys_of, lookup}
use Rattle.std.specs.Ordering.{is_eq, nat_cmp, ordering_reverse}
use Rattle.std.specs.declared.cmp.Ordering.{Ordering}
use Rattle.std.specs.declared.cmp.Ordering.TheVariants.{Less, Equal, Greater}
use Rattle.std.proofs.lemmas.Bool.{cases_Bool}
use Rattle.std.proofs.lemmas.Cmp.{nat_cmp_total}
use Rattle.std.proofs.lemmas.Map.{lookup-none}
use Rattle.std.proofs.lemmas.Map.Entries.{lookup_head, lookup_tail, none_below_head, none_past_head}
use Rattle.std.proofs.lemmas.Map.Keys.{IsDistinct-from_sorted, sorted_tail}
use Rattle.std.proofs.lemmas.Map.Lookups.{exact_unsigned}
use Rattle.osm_model.specs.Change.{ChangeValue}
use Rattle.osm_model.specs.Filter.{FilterValue}
use Rattle.osm_model.specs.KeyOrder.{key_cmp, same_key}
use Rattle.osm_model.specs.declared.kind.Key.{Key}
use Rattle.osm_model.proofs.ContentLemmas.{one_key}
use Rattle.osm_model.proofs.DataLemmas.{keys_total}
use Rattle.osm_mirror.specs.Mirror.{AreCountsAboveZero, AreRising, Counted, IsAboveZero, IsMirrorOf, MirrorValue, count_at, object_at}
use Rattle.osm_mirror.specs.Entries.{objects_of}

module _ {K X : Type 0} (cmp : K → K → Ordering) (total : IsTotalOrder cmp) where
  abbrev find : List (K × X) → K → Option X
  find es k = lookup (is_at (cmp k)) es

  abbrev Rises : List (K × X) → Type 0
  Rises es = IsStrictlySortedBy cmp (keys_of es)

  at_head : (x : K × X) (xs : List (K × X)) → find (x ∷ xs) x.0 ≡ Some x.1
  at_head x xs = lookup_head (is_at (cmp x.0)) x xs (ap is_eq (tied_itself total x.0))

  pub past_head : (k : K) (x : K × X) (xs : List (K × X)) → Rises (x ∷ xs) → is_eq (cmp k x.0) ≡ true → find xs k ≡ None
  past_head k x xs s t = lookup-none (is_at (cmp k)) xs (none_past_head (eq_by_cmp_equiv total) k x xs (IsDistinct-from_sorted cmp _ s) t)

  below_head : (k : K) (x : K × X) (xs : List (K × X)) → Rises (x ∷ xs) → cmp k x.0 ≡ Less → find (x ∷ xs) k ≡ None
  below_head k x xs s t = lookup-none (is_at (cmp k)) (x ∷ xs) (none_below_head total k x xs s t)

  none_some : (x : X) → Some x ≡ None → ⊥
  none_some x e = let bad : None ≡ Some x = sym e in cc

  module _ (x y : K × X) (xs ys : List (K × X)) (s : Rises (x ∷ xs)) (t : Rises (y ∷ ys)) (h : (k : K) → find (x ∷ xs) k ≡ find (y ∷ ys) k) where
    by_heads : (o : Ordering) → cmp x.0 y.0 ≡ o → cmp x.0 y.0 ≡ Equal
    by_heads Less o = absurd (none_some x.1 (sym (at_head x xs) ∙ (h x.0 ∙ below_head x.0 y ys t o)))
    by_heads Equal o = o
    by_heads Greater o =
        absurd (none_some y.1 (sym (at_head y ys) ∙ (sym (h y.0) ∙ below_head y.0 x xs s (total.antisymm y.0 x.0 ∙ ap ordering_reverse o))))

    heads : cmp x.0 y.0 ≡ Equal
    heads = by_heads (cmp x.0 y.0) refl

    values : x.1 ≡ y.1
    values = ap (λ (o : Option X). unwrap_or o x.1) (sym (at_head x xs) ∙ (h x.0 ∙ lookup_head (is_at (cmp x.0)) y ys (ap is_eq heads)))

    tails : (k : K) → find xs k ≡ find ys k
    tails k =
        let alike : is_eq (cmp k x.0) ≡ is_eq (cmp k y.0) = ap is_eq (alike_right total x.0 y.0 k heads) in
        ⊎_elim
        (λ b. past_head k x xs s b ∙ sym (past_head k y ys t (sym alike ∙ b)))
        (λ b. sym (lookup_tail (is_at (cmp k)) x xs b) ∙ (h k ∙ lookup_tail (is_at (cmp k)) y ys (sym alike ∙ b)))
        (cases_Bool (is_eq (cmp k x.0)))

  pub same_entries : ((a b : K) → cmp a b ≡ Equal → a ≡ b) → (es fs : List (K × X)) → Rises es → Rises fs → ((k : K) → find es k ≡ find fs k) → es ≡ fs
  same_entries exact [] [] s t h = refl
  same_entries exact [] (y ∷ ys) s t h = absurd (none_some y.1 (sym (h y.0 ∙ at_head y ys)))
  same_entries exact (x ∷ xs) [] s t h = absurd (none_some x.1 (sym (at_head x xs) ∙ h x.0))
  same_entries exact (x ∷ xs) (y ∷ ys) s t h =
      let rest = same_entries exact xs ys (sorted_tail cmp x.0 (keys_of xs) s) (sorted_tail cmp y.0 (keys_of ys) t) (tails x y xs ys s t h) in
      λ i. (exact x.0 y.0 (heads x y xs ys s t h) i, values x y xs ys s t h i) ∷ rest i

-- ---- objects, as entries under their own keys

abbrev pub keyed : List ChangeValue → List (Key × ChangeValue)
keyed cs = map (λ (c : ChangeValue). (c.key, c)) cs

pub keys-keyed : (cs : List ChangeValue) → keys_of (keyed cs) ≡ map (λ (c : ChangeValue). c.key) cs
keys-keyed [] = refl
keys-keyed (c ∷ cs) = ap (λ (ks : List Key). c.key ∷ ks) (keys-keyed cs)

pub object_at-keyed : (cs : List ChangeValue) (k : Key) → object_at cs k ≡ lookup (is_at (key_cmp k)) (keyed cs)
object_at-keyed [] k = refl
object_at-keyed (c ∷ cs) k = ap (λ (o : Option ChangeValue). cond (same_key k c.key) (Some c) o) (object_at-keyed cs k)

objects-keyed : (cs : List ChangeValue) → objects_of (keyed cs) ≡ cs
objects-keyed [] = refl
objects-keyed (c ∷ cs) = ap (λ (ds : List ChangeValue). c ∷ ds) (objects-keyed cs)

pub same_objects : (a b : List ChangeValue) → AreRising a → AreRising b → ((k : Key) → object_at a k ≡ object_at b k) → a ≡ b
same_objects a b r s h =
    let first : IsStrictlySortedBy key_cmp (keys_of (keyed a)) = rw (keys-keyed a) r in
    let second : IsStrictlySortedBy key_cmp (keys_of (keyed b)) = rw (keys-keyed b) s in
    let same : keyed a ≡ keyed b = same_entries key_cmp keys_total one_key (keyed a) (keyed b) first second
    (λ k. sym (object_at-keyed a k) ∙ (h k ∙ object_at-keyed b k)) in
    sym (objects-keyed a) ∙ (ap objects_of same ∙ objects-keyed b)

-- ---- counts above 0

pub numbers_are : (es : List Counted) → map (λ (e : Counted). e.0) es ≡ keys_of es
numbers_are [] = refl
numbers_are (e ∷ es) = ap (λ (ks : List ℕ). e.0 ∷ ks) (numbers_are es)

abbrev IsAbove : Option ℕ → Type 0
IsAbove None = Unit {0}
IsAbove (Some n) = 0 < n

found_above : (test : ℕ → Bool) (es : List Counted) → AllByRecursion IsAboveZero es → IsAbove (lookup test es)
found_above test [] all = tt
found_above test (e ∷ es) all = by_found (test e.0) (found_above test es all.1)
  where
    by_found : (b : Bool) → IsAbove (lookup test es) → IsAbove (cond b (Some e.1) (lookup test es))
    by_found true rest = all.0
    by_found false rest = rest

same_found : (o p : Option ℕ) → IsAbove o → IsAbove p → unwrap_or o 0 ≡ unwrap_or p 0 → o ≡ p
same_found None None a b e = refl
same_found None (Some n) a b e = absurd (omega arith)
same_found (Some n) None a b e = absurd (omega arith)
same_found (Some m) (Some n) a b e = ap (λ (k : ℕ). Some k) e

pub same_counts : (a b : List Counted) → AreCountsAboveZero a → AreCountsAboveZero b → ((n : ℕ) → count_at a n ≡ count_at b n) → a ≡ b
same_counts a b r s h =
    let first : IsStrictlySortedBy nat_cmp (keys_of a) = rw (← numbers_are a) r.rising in
    let second : IsStrictlySortedBy nat_cmp (keys_of b) = rw (← numbers_are b) s.rising in
    same_entries nat_cmp nat_cmp_total exact_unsigned a b first second
    (λ n. same_found (lookup (is_at (nat_cmp n)) a) (lookup (is_at (nat_cmp n)) b)
    (found_above (is_at (nat_cmp n)) a r.above) (found_above (is_at (nat_cmp n)) b s.above) (h n))

-- ---- mirrors

made : List ChangeValue → List Counted → List Counted → MirrorValue
made objects users changesets = record { objects = objects; users = users; changesets = changesets }

-- two lists of changes have only one mirror under a filter
pub one_mirror : (filter : FilterValue) (cs counted : List ChangeValue) (a b : MirrorValue) → IsMirrorOf filter cs counted a
    → IsMirrorOf filter cs counted b → a ≡ b
unfolding made
one_mirror filter cs counted a b p q =
    let objects : a.objects ≡ b.objects = same_objects a.objects b.objects p.orderly.objects q.orderly.objects (λ k. p.objects k ∙ sym (q.objects k)) in
    let users : a.users ≡ b.users = same_counts a.users b.users p.orderly.users q.orderly.users (λ n. p.users n ∙ sym (q.users n)) in
    let changesets : a.changesets ≡ b.changesets =
    same_counts a.changesets b.changesets p.orderly.changesets q.orderly.changesets (λ n. p.changesets n
    ∙ sym (q.changesets n)) in
    ap (λ (x : List ChangeValue). made x a.users a.changesets) objects
    ∙ (ap (λ (x : List Counted). made b.objects x a.changesets) users
    ∙ ap (λ (x : List Counted). made b.objects b.users x) changesets)
