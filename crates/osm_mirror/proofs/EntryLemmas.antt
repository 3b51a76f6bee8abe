-- A map whose objects are under their own keys, read as a list of objects.
use Rattle.std.proofs.Common.{◌≡◌, ℕ, ◌<◌, List, [], ◌∷◌, ◌++◌, map, refl, ap, sym, ◌∙◌, true, false, Bool, Option, Some, None, cond, Bor}
use Rattle.std.specs.Prelude.{if◌then◌else◌, MatchOption, Result, Ok, Err, OnOk, OnErr}
use Rattle.std.specs.Option.{option_copied}
use Rattle.std.specs.BTreeMap.{is_at, insert_entry}
use Rattle.std.specs.Cmp.{IsTotalOrder}
use Rattle.std.specs.List.{AllByRecursion}
use Rattle.std.specs.List.Sorted.{IsStrictlySortedBy}
use Rattle.std.specs.Map.{lookup, remove_entry, keys_of}
use Rattle.std.specs.Ordering.{match_ordering, nat_cmp, ordering_reverse}
use Rattle.std.proofs.lemmas.Cmp.{nat_cmp_total}
use Rattle.std.specs.declared.cmp.Ordering.{Ordering}
use Rattle.std.specs.declared.cmp.Ordering.TheVariants.{Less, Equal, Greater}
use Rattle.osm_model.specs.Change.{ChangeValue}
use Rattle.osm_model.specs.KeyOrder.{key_cmp}
use Rattle.osm_model.specs.Limits.{IsPositive}
use Rattle.osm_model.specs.declared.kind.Key.{Key}
use Rattle.osm_model.proofs.ContentLemmas.{one_key}
use Rattle.osm_model.proofs.DataLemmas.{all_last, keys_total}
use Rattle.osm_mirror.specs.Entries.{AreCounts, AreObjects, HaveOwnKeys, objects_of}
use Rattle.osm_mirror.specs.Mirror.{AreRising, Counted, HasNumber, IsAboveZero, IsObject, object_at}

pub object_at-objects_of : (es : List (Key × ChangeValue)) (k : Key) → HaveOwnKeys es → object_at (objects_of es) k ≡ lookup (is_at (key_cmp k)) es
object_at-objects_of [] k own = refl
object_at-objects_of (e ∷ es) k own =
    ap (λ (q : Key). if is_at (key_cmp k) q then Some e.1 else object_at (objects_of es) k) (sym own.0)
    ∙ ap (λ (o : Option ChangeValue). if is_at (key_cmp k) e.0 then Some e.1 else o) (object_at-objects_of es k own.1)

pub keys-objects_of : (es : List (Key × ChangeValue)) → HaveOwnKeys es → map (λ (c : ChangeValue). c.key) (objects_of es) ≡ keys_of es
keys-objects_of [] own = refl
keys-objects_of (e ∷ es) own = rw (← own.0) (ap (λ (ks : List Key). e.0 ∷ ks) (keys-objects_of es own.1))

pub own-remove_entry : (t : Key → Bool) (es : List (Key × ChangeValue)) → HaveOwnKeys es → HaveOwnKeys (remove_entry t es)
own-remove_entry t [] own = own
own-remove_entry t (e ∷ es) own = by_test (t e.0) (own-remove_entry t es own.1)
  where
    by_test : (b : Bool) → HaveOwnKeys (remove_entry t es) → HaveOwnKeys (cond b es (e ∷ remove_entry t es))
    by_test true rest = own.1
    by_test false rest = (own.0, rest)

pub own-insert_entry : (es : List (Key × ChangeValue)) (k : Key) (c : ChangeValue) → k ≡ c.key → HaveOwnKeys es → HaveOwnKeys (insert_entry key_cmp es k c)
own-insert_entry [] k c is own = (is, tt)
own-insert_entry (e ∷ es) k c is own = by_order (key_cmp k e.0) refl (own-insert_entry es k c is own.1)
  where
    by_order : (o : Ordering) → key_cmp k e.0 ≡ o → HaveOwnKeys (insert_entry key_cmp es k c)
        → HaveOwnKeys (match_ordering o ((k, c) ∷ e ∷ es) ((e.0, c) ∷ es) (e ∷ insert_entry key_cmp es k c))
    by_order Less o rest = (is, own)
    by_order Equal o rest = (sym (one_key k e.0 o) ∙ is, own.1)
    by_order Greater o rest = (own.0, rest)

-- the same of counts: none is 0
pub above-insert_entry : (es : List Counted) (n count : ℕ) → 0 < count → AllByRecursion IsAboveZero es
    → AllByRecursion IsAboveZero (insert_entry nat_cmp es n count)
above-insert_entry [] n count above all = (above, tt)
above-insert_entry (e ∷ es) n count above all = by_order (nat_cmp n e.0) (above-insert_entry es n count above all.1)
  where
    by_order : (o : Ordering) → AllByRecursion IsAboveZero (insert_entry nat_cmp es n count)
        → AllByRecursion IsAboveZero (match_ordering o ((n, count) ∷ e ∷ es) ((e.0, count) ∷ es)
        (e ∷ insert_entry nat_cmp es n count))
    by_order Less rest = (above, all)
    by_order Equal rest = (above, all.1)
    by_order Greater rest = (all.0, rest)

-- what a look-up in a map gives, through a reference
pub found_is : (r : Option (Bor ChangeValue)) (o : Option ChangeValue) → option_copied r ≡ o → MatchOption r (o ≡ None) (λ c. o ≡ Some c.now)
found_is None o e = sym e
found_is (Some c) o e = sym e

-- the same for what holds of each object of a map
each-insert_entry : (P : ChangeValue → Type 0) (es : List (Key × ChangeValue)) (k : Key) (c : ChangeValue) → P c
    → AllByRecursion P (objects_of es) → AllByRecursion P (objects_of (insert_entry key_cmp es k c))
each-insert_entry P [] k c is all = (is, tt)
each-insert_entry P (e ∷ es) k c is all = by_order (key_cmp k e.0) (each-insert_entry P es k c is all.1)
  where
    by_order : (o : Ordering) → AllByRecursion P (objects_of (insert_entry key_cmp es k c))
        → AllByRecursion P
        (objects_of (match_ordering o ((k, c) ∷ e ∷ es) ((e.0, c) ∷ es) (e ∷ insert_entry key_cmp es k c)))
    by_order Less rest = (is, all)
    by_order Equal rest = (is, all.1)
    by_order Greater rest = (all.0, rest)

each-remove_entry : (P : ChangeValue → Type 0) (t : Key → Bool) (es : List (Key × ChangeValue))
    → AllByRecursion P (objects_of es) → AllByRecursion P (objects_of (remove_entry t es))
each-remove_entry P t [] all = all
each-remove_entry P t (e ∷ es) all = by_test (t e.0) (each-remove_entry P t es all.1)
  where
    by_test : (b : Bool) → AllByRecursion P (objects_of (remove_entry t es)) → AllByRecursion P (objects_of (cond b es (e ∷ remove_entry t es)))
    by_test true rest = all.1
    by_test false rest = (all.0, rest)

numbers-insert_entry : (es : List Counted) (n count : ℕ) → IsPositive n → AllByRecursion HasNumber es
    → AllByRecursion HasNumber (insert_entry nat_cmp es n count)
numbers-insert_entry [] n count is all = (is, tt)
numbers-insert_entry (e ∷ es) n count is all = by_order (nat_cmp n e.0) (numbers-insert_entry es n count is all.1)
  where
    by_order : (o : Ordering) → AllByRecursion HasNumber (insert_entry nat_cmp es n count)
        → AllByRecursion HasNumber (match_ordering o ((n, count) ∷ e ∷ es) ((e.0, count) ∷ es)
        (e ∷ insert_entry nat_cmp es n count))
    by_order Less rest = (is, all)
    by_order Equal rest = all
    by_order Greater rest = (all.0, rest)

pub objects-insert_entry : (es : List (Key × ChangeValue)) (k : Key) (c : ChangeValue) → k ≡ c.key → IsObject c
    → AreObjects es → AreObjects (insert_entry key_cmp es k c)
objects-insert_entry es k c is object all = record {
  own = own-insert_entry es k c is all.own;
  each = each-insert_entry IsObject es k c object all.each;
}

pub objects-remove_entry : (t : Key → Bool) (es : List (Key × ChangeValue)) → AreObjects es → AreObjects (remove_entry t es)
objects-remove_entry t es all = record {
  own = own-remove_entry t es all.own;
  each = each-remove_entry IsObject t es all.each;
}

pub counts-insert_entry : (es : List Counted) (n count : ℕ) → IsPositive n → 0 < count → AreCounts es → AreCounts (insert_entry nat_cmp es n count)
counts-insert_entry es n count is above all = record {
  numbers = numbers-insert_entry es n count is all.numbers;
  above = above-insert_entry es n count above all.above;
}

pub counts_kept : {E : Type 0} (r : Result (Unit {0}) E) (es new : List Counted) (n count : ℕ) → IsPositive n
    → 0 < count → AreCounts es → OnOk r (new ≡ insert_entry nat_cmp es n count) → OnErr r (new ≡ es) → AreCounts new
counts_kept (Ok done) es new n count is above all entries unchanged = rw entries (counts-insert_entry es n count is above all)
counts_kept (Err e) es new n count is above all entries unchanged = rw unchanged all

-- ---- entries above all others

module _ {K X : Type 0} (cmp : K → K → Ordering) (total : IsTotalOrder cmp) where
  -- an entry above all others comes last
  pub insert_last : (es : List (K × X)) (k : K) (x : X) → IsStrictlySortedBy cmp (keys_of es ++ k ∷ []) → insert_entry cmp es k x ≡ es ++ (k, x) ∷ []
  unfolding IsStrictlySortedBy
  insert_last [] k x rising = refl
  insert_last (e ∷ es) k x rising =
      let below : cmp e.0 k ≡ Less = all_last (λ y. cmp e.0 y ≡ Less) (keys_of es) k rising.0 in
      let above : cmp k e.0 ≡ Greater = total.antisymm k e.0 ∙ ap ordering_reverse below in
      rw (above, insert_last es k x rising.1) refl

keys-append : (es : List (Key × ChangeValue)) (c : ChangeValue) → HaveOwnKeys es
    → map (λ (d : ChangeValue). d.key) (objects_of es ++ c ∷ []) ≡ keys_of es ++ c.key ∷ []
keys-append [] c own = refl
keys-append (e ∷ es) c own = rw (← own.0) (ap (λ (ks : List Key). e.0 ∷ ks) (keys-append es c own.1))

objects-append : (es : List (Key × ChangeValue)) (k : Key) (c : ChangeValue) → objects_of (es ++ (k, c) ∷ []) ≡ objects_of es ++ c ∷ []
objects-append [] k c = refl
objects-append (e ∷ es) k c = ap (λ (cs : List ChangeValue). e.1 ∷ cs) (objects-append es k c)

-- an object above all others comes last
pub object_last : (es : List (Key × ChangeValue)) (c : ChangeValue) → AreObjects es
    → AreRising (objects_of es ++ c ∷ []) → objects_of (insert_entry key_cmp es c.key c) ≡ objects_of es ++ c ∷ []
object_last es c all rising =
    let keys : IsStrictlySortedBy key_cmp (keys_of es ++ c.key ∷ []) = rw (← keys-append es c all.own) rising in
    rw (insert_last key_cmp keys_total es c.key c keys) (objects-append es c.key c)

keys_are : (es : List Counted) → map (λ (e : Counted). e.0) es ≡ keys_of es
keys_are [] = refl
keys_are (e ∷ es) = ap (λ (ks : List ℕ). e.0 ∷ ks) (keys_are es)

-- a count above all others comes last
pub count_last : (es : List Counted) (n count : ℕ) → IsStrictlySortedBy nat_cmp (map (λ (e : Counted). e.0) es
    ++ n ∷ []) → insert_entry nat_cmp es n count ≡ es ++ (n, count) ∷ []
count_last es n count rising = insert_last nat_cmp nat_cmp_total es n count (rw (← keys_are es) rising)
