-- The changes of a map under the labels of their objects, and the same changes in rows by rising keys.
use Rattle.std.proofs.Common.{◌≡◌, ℕ, ℤ, ◌+◌, ◌<◌, List, [], ◌∷◌, ◌++◌, map, length, refl, sym, ap, subst, ◌∙◌, Bool, true, false, Option}
use Rattle.std.proofs.Common.{Some, None, cond, Bor, rules, append_assoc, arith, drop, get_or}
use Rattle.std.specs.Prelude.{if◌then◌else◌, MatchOption, nat_eq, ◌&&◌}
use Rattle.std.specs.Cmp.{IsEquivalence}
use Rattle.std.specs.Cmp.Rules.{comparing}
use Rattle.std.specs.List.{AllByRecursion, IsDistinct}
use Rattle.std.specs.List.Sorted.{IsPermutation, IsSortedByKey, IsStrictlySortedBy}
use Rattle.std.specs.Map.{keys_of, lookup, set_value, values_of}
use Rattle.std.specs.Ordering.{int_cmp, int_eq, is_eq, is_lt, nat_cmp, ordering_reverse, ordering_then}
use Rattle.std.specs.declared.cmp.Ordering.{Ordering}
use Rattle.std.specs.declared.cmp.Ordering.TheVariants.{Less, Equal, Greater}
use Rattle.std.proofs.lemmas.Bool.Decides.{Decides-and, Decides-eqb, Decides-int_eq}
use Rattle.std.proofs.lemmas.Cmp.{eq_by_cmp_equiv}
use Rattle.std.proofs.lemmas.List.{append-nil, drop_more, get_or-map, length-map, map-append}
use Rattle.std.proofs.lemmas.List.Elements.{All-from_recursion, recursion_from_All}
use Rattle.std.proofs.lemmas.List.Sorted.{All-permutation, Contains-permutation, IsPermutation-map, IsPermutation-sym}
use Rattle.std.proofs.lemmas.Map.Keys.{IsDistinct-IsPermutation, apart_from_distinct, sorted_from_all_adjacent}
use Rattle.std.proofs.lemmas.Map.Views.{Contains-from_lookup, lookup-from_Contains}
use Rattle.osm_model.specs.Change.{ChangeValue}
use Rattle.osm_model.specs.KeyOrder.{key_cmp, kind_rank, same_key}
use Rattle.osm_model.specs.declared.kind.Key.{Key}
use Rattle.osm_model.specs.declared.kind.Kind.{Kind}
use Rattle.osm_model.specs.declared.kind.Kind.TheVariants.{Node, Way, Relation}
use Rattle.osm_model.proofs.ContentLemmas.{same_key-only}
use Rattle.osm_model.proofs.DataLemmas.{keys_total}
use Rattle.osm_mirror.specs.Entries.{HasOwnKey, HaveOwnKeys, objects_of}
use Rattle.osm_mirror.specs.Mirror.{object_at}
use Rattle.osm_mirror.proofs.EntryLemmas.{keys-objects_of, object_at-objects_of}
use Rattle.osm_range.specs.Steps.Rising.{AreRows, HasOwnLabel, HaveOwnLabels, Label, RiseAs, changes_in_rows, entry_of, label_of, same_label}

-- ---- the labels of objects

and_true : (b : Bool) → (b && true) ≡ b
and_true true = refl
and_true false = refl

and_false : (b : Bool) → (b && false) ≡ false
and_false true = refl
and_false false = refl

same_id : (i j : ℤ) → (int_eq i j && true) ≡ is_eq (int_cmp i j)
same_id i j =
    let same : int_eq i j ≡ is_eq (int_cmp i j) = search (comparing, rules) in
    and_true (int_eq i j) ∙ same

same_parts : (x y : Kind) (i j : ℤ)
    → (int_eq i j && nat_eq (kind_rank x) (kind_rank y)) ≡ is_eq (ordering_then (nat_cmp (kind_rank x) (kind_rank y)) (int_cmp i j))
same_parts Node Node i j = same_id i j
same_parts Node Way i j = and_false (int_eq i j)
same_parts Node Relation i j = and_false (int_eq i j)
same_parts Way Node i j = and_false (int_eq i j)
same_parts Way Way i j = same_id i j
same_parts Way Relation i j = and_false (int_eq i j)
same_parts Relation Node i j = and_false (int_eq i j)
same_parts Relation Way i j = and_false (int_eq i j)
same_parts Relation Relation i j = same_id i j

-- two objects have one label if they have one key
pub same_label-same_key : (a b : Key) → same_label (label_of a) (label_of b) ≡ same_key a b
same_label-same_key a b = same_parts a.kind b.kind a.id b.id

-- a change in the map, read as a list of changes
pub object_at-values_of : (es : List (Label × ChangeValue)) (k : Key) → HaveOwnLabels es
    → object_at (values_of es) k ≡ lookup (same_label (label_of k)) es
object_at-values_of [] k own = refl
object_at-values_of (e ∷ es) k own =
    ap (λ (b : Bool). if b then Some e.1 else object_at (values_of es) k)
    (sym (same_label-same_key k e.1.key) ∙ ap (same_label (label_of k)) (sym own.0))
    ∙ ap (λ (o : Option ChangeValue). if same_label (label_of k) e.0 then Some e.1 else o) (object_at-values_of es k own.1)

-- ---- a change put into the map

only_label : (a : Key) (p : Label) → same_label (label_of a) p ≡ true → p ≡ label_of a
only_label a p same = pair_is p.0 a.id p.1 (kind_rank a.kind) (sym both.0) (sym both.1)
  where
    both : (a.id ≡ p.0) × (kind_rank a.kind ≡ p.1)
    both = (Decides-and (int_eq a.id p.0) (nat_eq (kind_rank a.kind) p.1) (Decides-int_eq a.id p.0) (Decides-eqb (kind_rank a.kind) p.1)).0 same

    pair_is : (i j : ℤ) (m n : ℕ) → i ≡ j → m ≡ n → ◌≡◌ {A = Label} (i, m) (j, n)
    pair_is i j m n first second = rw (first, second) refl

own-set_value : (es : List (Label × ChangeValue)) (c : ChangeValue) → HaveOwnLabels es
    → HaveOwnLabels (set_value (same_label (label_of c.key)) es c)
own-set_value [] c own = own
own-set_value (e ∷ es) c own = by_test (same_label (label_of c.key) e.0) refl (own-set_value es c own.1)
  where
    by_test : (b : Bool) → same_label (label_of c.key) e.0 ≡ b → HaveOwnLabels (set_value (same_label (label_of c.key)) es c)
        → HaveOwnLabels (cond b ((e.0, c) ∷ es) (e ∷ set_value (same_label (label_of c.key)) es c))
    by_test true is rest = (only_label c.key e.0 is, own.1)
    by_test false is rest = (own.0, rest)

own-put : (old new : List (Label × ChangeValue)) (c : ChangeValue) (before : Option ChangeValue) → HaveOwnLabels old
    → MatchOption before (IsPermutation ((label_of c.key, c) ∷ old) new) (λ x. new ≡ set_value (same_label (label_of c.key)) old c)
    → HaveOwnLabels new
own-put old new c None own puts =
    recursion_from_All HasOwnLabel new (All-permutation HasOwnLabel ((label_of c.key, c) ∷ old) new puts
    (All-from_recursion HasOwnLabel ((label_of c.key, c) ∷ old) (refl, own)))
own-put old new c (Some x) own puts = subst HaveOwnLabels (sym puts) (own-set_value old c own)

pub own-puts : (old new : List (Label × ChangeValue)) (p : Label) (c : ChangeValue) (before : Option ChangeValue) → p ≡ label_of c.key
    → HaveOwnLabels old → MatchOption before (IsPermutation ((p, c) ∷ old) new) (λ x. new ≡ set_value (same_label p) old c) → HaveOwnLabels new
own-puts old new p c before is own puts = own-put old new c before own
    (subst (λ (q : Label). MatchOption before (IsPermutation ((q, c) ∷ old) new) (λ x. new ≡ set_value (same_label q) old c)) is puts)

-- what the map says under each label, read as a list of changes
pub put_at : (old new : List (Label × ChangeValue)) (p : Label) (c : ChangeValue) → p ≡ label_of c.key → HaveOwnLabels old → HaveOwnLabels new
    → ((q : Label) → lookup (same_label q) new ≡ cond (same_label p q) (Some c) (lookup (same_label q) old))
    → (k : Key) → object_at (values_of new) k ≡ (if same_key c.key k then Some c else object_at (values_of old) k)
put_at old new p c is own_old own_new updates k =
    object_at-values_of new k own_new
    ∙ (updates (label_of k)
    ∙ (ap (λ (b : Bool). cond b (Some c) (lookup (same_label (label_of k)) old))
    (ap (λ (q : Label). same_label q (label_of k)) is ∙ same_label-same_key c.key k)
    ∙ ap (λ (o : Option ChangeValue). if same_key c.key k then Some c else o) (sym (object_at-values_of old k own_old))))

-- ---- rows

changes-more : (rows : List (Key × Bor ChangeValue)) (k : Key) (c : Bor ChangeValue)
    → changes_in_rows (rows ++ (k, c) ∷ []) ≡ changes_in_rows rows ++ c.now ∷ []
changes-more rows k c =
    ap objects_of (map-append entry_of rows ((k, c) ∷ []))
    ∙ map-append (λ (e : Key × ChangeValue). e.1) (map entry_of rows) (entry_of (k, c) ∷ [])

pub own-more : (rows : List (Key × Bor ChangeValue)) (k : Key) (c : Bor ChangeValue) → k ≡ c.now.key
    → HaveOwnKeys (map entry_of rows) → HaveOwnKeys (map entry_of (rows ++ (k, c) ∷ []))
own-more [] k c is own = (is, tt)
own-more (row ∷ rows) k c is own = (own.0, own-more rows k c is own.1)

-- one more row
pub rows-more : (rows new : List (Key × Bor ChangeValue)) (k : Key) (c : Bor ChangeValue) (left rest all : List ChangeValue)
    → new ≡ rows ++ (k, c) ∷ [] → left ≡ c.now ∷ rest → changes_in_rows rows ++ left ≡ all → changes_in_rows new ++ rest ≡ all
rows-more rows new k c left rest all pushed steps so_far =
    ap (λ (rs : List (Key × Bor ChangeValue)). changes_in_rows rs ++ rest) pushed
    ∙ (ap (λ (cs : List ChangeValue). cs ++ rest) (changes-more rows k c)
    ∙ (append_assoc (changes_in_rows rows) (c.now ∷ []) rest
    ∙ (ap (λ (cs : List ChangeValue). changes_in_rows rows ++ cs) (sym steps) ∙ so_far)))

pub rows-all : (rows : List (Key × Bor ChangeValue)) (left all : List ChangeValue) → left ≡ [] → changes_in_rows rows ++ left ≡ all
    → changes_in_rows rows ≡ all
rows-all rows left all none so_far =
    sym (append-nil (changes_in_rows rows)) ∙ (ap (λ (cs : List ChangeValue). changes_in_rows rows ++ cs) (sym none) ∙ so_far)

-- the changes from a row on
pub rows_from : (rows : List (Key × Bor ChangeValue)) (i : ℕ) (row : Key × Bor ChangeValue) → i < length rows → get_or rows i row ≡ row
    → changes_in_rows (drop i rows) ≡ row.1.now ∷ changes_in_rows (drop (i + 1) rows)
rows_from rows i row within is =
    ap changes_in_rows (drop_more rows i row within ∙ ap (λ (r : Key × Bor ChangeValue). r ∷ drop (i + 1) rows) is)

-- ---- rows by rising keys

others_apart : (e : Label × ChangeValue) (es : List (Label × ChangeValue)) → HasOwnLabel e → HaveOwnLabels es
    → AllByRecursion (λ p. same_label e.0 p ≡ false) (keys_of es)
    → AllByRecursion (λ k. same_key e.1.key k ≡ false) (map (λ (c : ChangeValue). c.key) (values_of es))
others_apart e [] is own apart = tt
others_apart e (f ∷ fs) is own apart = (
  sym (same_label-same_key e.1.key f.1.key) ∙ (ap (λ (p : Label). same_label p (label_of f.1.key)) (sym is)
      ∙ (ap (same_label e.0) (sym own.0) ∙ apart.0)),
  others_apart e fs is own.1 apart.1,
)

keys_apart : (es : List (Label × ChangeValue)) → HaveOwnLabels es → IsDistinct same_label (keys_of es)
    → IsDistinct same_key (map (λ (c : ChangeValue). c.key) (values_of es))
unfolding IsDistinct
keys_apart [] own apart = tt
keys_apart (e ∷ es) own apart = (others_apart e es own.0 own.1 apart.0, keys_apart es own.1 apart.1)

same_key-laws : IsEquivalence same_key
same_key-laws = eq_by_cmp_equiv keys_total

-- entries in another order have the same change at each key
moved_lookup : (xs ys : List (Key × ChangeValue)) (k : Key) → IsDistinct same_key (keys_of xs) → IsDistinct same_key (keys_of ys)
    → IsPermutation xs ys → lookup (same_key k) ys ≡ lookup (same_key k) xs
moved_lookup xs ys k first next moved = by_found (lookup (same_key k) xs) refl (lookup (same_key k) ys) refl
  where
    by_found : (a : Option ChangeValue) → lookup (same_key k) xs ≡ a → (b : Option ChangeValue) → lookup (same_key k) ys ≡ b → b ≡ a
    by_found (Some v) had b has =
        sym has ∙ lookup-from_Contains same_key-laws k v ys next
        (Contains-permutation xs ys (k, v) moved (Contains-from_lookup same_key-only k v xs had))
    by_found None had None has = refl
    by_found None had (Some v) has = absurd (let bad : None ≡ Some v = sym had ∙ lookup-from_Contains same_key-laws k v xs first
        (Contains-permutation ys xs (k, v) (IsPermutation-sym xs ys moved) (Contains-from_lookup same_key-only k v ys has)) in cc)

-- a key that doesn't come after the next one, and isn't the same, comes before it
below_next : (a b : Key) → is_lt (key_cmp b a) ≡ false → same_key a b ≡ false → key_cmp a b ≡ Less
below_next a b above apart = by_order (key_cmp a b) (keys_total.antisymm b a) apart
  where
    by_order : (o : Ordering) → key_cmp b a ≡ ordering_reverse o → is_eq o ≡ false → o ≡ Less
    by_order Less back apart = refl
    by_order Equal back apart = absurd (let bad : true ≡ false = apart in cc)
    by_order Greater back apart = absurd (let bad : true ≡ false = sym (ap is_lt back) ∙ above in cc)

-- the same of keys that are equal to these
next_rises : (a b x y : Key) → x ≡ a → y ≡ b → is_lt (key_cmp b a) ≡ false → same_key x y ≡ false → key_cmp x y ≡ Less
next_rises a b x y first next above apart = below_next x y
    (subst (λ (q : Key). is_lt (key_cmp y q) ≡ false) (sym first) (subst (λ (q : Key). is_lt (key_cmp q a) ≡ false) (sym next) above)) apart

abbrev key_in : Key × Bor ChangeValue → Key
key_in row = row.0

sorted_rise : (rows : List (Key × Bor ChangeValue)) → IsDistinct same_key (map key_in rows) → IsSortedByKey key_in key_cmp rows
    → IsStrictlySortedBy key_cmp (map key_in rows)
unfolding IsStrictlySortedBy
sorted_rise [] apart sorted = tt
sorted_rise (r ∷ rows) apart sorted = sorted_from_all_adjacent keys_total (map key_in (r ∷ rows)) r.0 (λ i below.
    let within : i + 1 < length (r ∷ rows) = subst (λ (n : ℕ). i + 1 < n) (length-map (r ∷ rows) key_in) below in
    let before : i < length (r ∷ rows) = omega (arith, within) in
    next_rises (get_or (r ∷ rows) i r).0 (get_or (r ∷ rows) (i + 1) r).0 (get_or (map key_in (r ∷ rows)) i r.0)
    (get_or (map key_in (r ∷ rows)) (i + 1) r.0) (get_or-map key_in (r ∷ rows) i r r.0 before)
    (get_or-map key_in (r ∷ rows) (i + 1) r r.0 within) (sorted i r (omega arith) within)
    (apart_from_distinct same_key (map key_in (r ∷ rows)) i (i + 1) r.0 apart (omega arith) below))

keys_in_rows : (rows : List (Key × Bor ChangeValue)) → map key_in rows ≡ keys_of (map entry_of rows)
keys_in_rows [] = refl
keys_in_rows (r ∷ rows) = ap (λ (ks : List Key). r.0 ∷ ks) (keys_in_rows rows)

pub rows_rise : (entries : List (Label × ChangeValue)) (rows sorted : List (Key × Bor ChangeValue)) → HaveOwnLabels entries → AreRows entries rows
    → IsPermutation rows sorted → IsSortedByKey (λ (r : Key × Bor ChangeValue). r.0) key_cmp sorted → RiseAs (values_of entries) sorted
rows_rise entries rows sorted own are moved order =
    let xs = map entry_of rows in
    let ys = map entry_of sorted in
    let turned : IsPermutation xs ys = IsPermutation-map entry_of rows sorted moved in
    let own_ys : HaveOwnKeys ys = recursion_from_All HasOwnKey ys (All-permutation HasOwnKey xs ys turned (All-from_recursion HasOwnKey xs are.own)) in
    let keys_xs : map (λ (c : ChangeValue). c.key) (values_of entries) ≡ keys_of xs =
    ap (map (λ (c : ChangeValue). c.key)) (sym are.changes) ∙ keys-objects_of xs are.own in
    let apart_xs : IsDistinct same_key (keys_of xs) = subst (IsDistinct same_key) keys_xs (keys_apart entries own are.apart) in
    let apart_ys : IsDistinct same_key (keys_of ys) = IsDistinct-IsPermutation same_key same_key-laws.symm (keys_of xs) (keys_of ys)
    (IsPermutation-map (λ (e : Key × ChangeValue). e.0) xs ys turned) apart_xs in
    let apart_rows = subst (IsDistinct same_key) (sym (keys_in_rows sorted)) apart_ys in
    record {
      rising = subst (IsStrictlySortedBy key_cmp) (keys_in_rows sorted ∙ sym (keys-objects_of ys own_ys)) (sorted_rise sorted apart_rows order);
      each = λ k. object_at-objects_of ys k own_ys ∙ (moved_lookup xs ys k apart_xs apart_ys turned
          ∙ (sym (object_at-objects_of xs k are.own) ∙ ap (λ (cs : List ChangeValue). object_at cs k) are.changes));
    }
