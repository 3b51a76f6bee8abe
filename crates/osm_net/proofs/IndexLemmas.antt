-- Ids with their slots, from a list and a map: what a search and an insertion find, and what comes first.
use Rattle.std.proofs.Common.{◌≡◌, ℕ, zero, suc, ◌+◌, ◌<◌, List, [], ◌∷◌, ◌++◌, length, drop, get_or, refl, ap, sym, ◌∙◌, ◌-◌}
use Rattle.std.proofs.Common.{subst, Bool, true, false, cond, Option, Some, None, Result, Ok, Err, arith}
use Rattle.std.proofs.Common.{inl, inr}
use Rattle.std.specs.Prelude.{ℤ, slice_get, option_to_list, MatchOption}
use Rattle.std.specs.BTreeMap.{insert_entry, is_at}
use Rattle.std.specs.Cmp.{tied_itself}
use Rattle.std.specs.List.{AllByRecursion}
use Rattle.std.specs.List.Sorted.{IsBinarySearchResult, IsNonDecreasingBy, IsSearchInRange, IsStrictlySortedBy}
use Rattle.std.specs.Map.{keys_of, lookup}
use Rattle.std.specs.Result.{result_ok}
use Rattle.std.specs.Ordering.{int_cmp, is_eq, is_lt, match_ordering, ordering_index, ordering_reverse}
use Rattle.std.specs.declared.cmp.Ordering.{Ordering}
use Rattle.std.specs.declared.cmp.Ordering.TheVariants.{Less, Equal, Greater}
use Rattle.std.proofs.lemmas.Bool.{cases_lt}
use Rattle.std.proofs.lemmas.Cmp.{int_cmp_total}
use Rattle.std.proofs.lemmas.List.Sorted.{searchable_from_sorted}
use Rattle.std.proofs.lemmas.Map.Keys.{Less-from_sorted, sorted_tail}
use Rattle.std.proofs.lemmas.Map.Lookups.{exact_signed}
use Rattle.osm_net.specs.Steps.Index.{AreRows, numbered, put_into}
use Rattle.osm_net.proofs.NetLemmas.{all-insert_entry}
use Rattle.osm_mirror.proofs.SameLemmas.{same_entries}

abbrev pub or_else : Option ℕ → Option ℕ → Option ℕ
or_else None o = o
or_else (Some n) o = Some n

abbrev ok_of : Result ℕ ℕ → Option ℕ
ok_of (Ok n) = Some n
ok_of (Err n) = None

abbrev IfFirst : (ℤ × ℕ → Type 0) → List (ℤ × ℕ) → Type 0
IfFirst P [] = Unit {0}
IfFirst P (e ∷ es) = P e

abbrev at : ℤ → List (ℤ × ℕ) → Option ℕ
at q es = lookup (is_at (int_cmp q)) es

abbrev Rises : List (ℤ × ℕ) → Type 0
Rises es = IsStrictlySortedBy int_cmp (keys_of es)

abbrev IsAbove : ℤ → ℤ × ℕ → Type 0
IsAbove id e = int_cmp id e.0 ≡ Less

turned : (a b : ℤ) (o : Ordering) → int_cmp a b ≡ o → int_cmp b a ≡ ordering_reverse o
turned a b o is = int_cmp_total.antisymm b a ∙ ap ordering_reverse is

equal_of : (a b : ℤ) (o : Ordering) → int_cmp a b ≡ o → is_eq o ≡ true → a ≡ b
equal_of a b Less is same = absurd (cc)
equal_of a b Equal is same = exact_signed a b is
equal_of a b Greater is same = absurd (cc)

-- ---- an id as the machine has it

pub found_as : {A : Type 0} (es : List (ℤ × A)) (r : Option A) (i id : ℤ) → i ≡ id → r ≡ lookup (is_at (int_cmp i)) es → r ≡ lookup (is_at (int_cmp id)) es
found_as es r i id fit is = subst (λ (k : ℤ). r ≡ lookup (is_at (int_cmp k)) es) fit is

pub put_as : (now es : List (ℤ × ℕ)) (i id : ℤ) (n m : ℕ) → i ≡ id → n ≡ m → now ≡ insert_entry int_cmp es i n → now ≡ insert_entry int_cmp es id m
put_as now es i id n m fit slot is =
    subst (λ (k : ℕ). now ≡ insert_entry int_cmp es id k) slot (subst (λ (k : ℤ). now ≡ insert_entry int_cmp es k n) fit is)

-- ---- an entry put among others

put_at : (es : List (ℤ × ℕ)) (id : ℤ) (n : ℕ) (q : ℤ) → at q (insert_entry int_cmp es id n) ≡ cond (is_at (int_cmp q) id) (Some n) (at q es)
put_at [] id n q = refl
put_at (e ∷ es) id n q = by_order (int_cmp id e.0) refl (put_at es id n q)
  where
    over_head : (b : Bool) → cond b (Some n) (at q es) ≡ cond b (Some n) (cond b (Some e.1) (at q es))
    over_head true = refl
    over_head false = refl

    past_head : (b c : Bool) → (b ≡ true → c ≡ true → ⊥) → cond c (Some e.1) (cond b (Some n) (at q es)) ≡ cond b (Some n) (cond c (Some e.1) (at q es))
    past_head true true apart = absurd (apart refl refl)
    past_head true false apart = refl
    past_head false c apart = refl

    apart_from : int_cmp id e.0 ≡ Greater → is_at (int_cmp q) id ≡ true → is_at (int_cmp q) e.0 ≡ true → ⊥
    apart_from greater first second =
        let same : id ≡ e.0 = sym (equal_of q id (int_cmp q id) refl first) ∙ equal_of q e.0 (int_cmp q e.0) refl second in
        let bad : int_cmp e.0 e.0 ≡ Greater = subst (λ (k : ℤ). int_cmp k e.0 ≡ Greater) same greater in
        let itself : int_cmp e.0 e.0 ≡ Equal = tied_itself int_cmp_total e.0 in
        cc

    by_order : (o : Ordering) → int_cmp id e.0 ≡ o → at q (insert_entry int_cmp es id n) ≡ cond (is_at (int_cmp q) id) (Some n) (at q es)
        → at q (match_ordering o ((id, n) ∷ e ∷ es) ((e.0, n) ∷ es) (e ∷ insert_entry int_cmp es id n))
        ≡ cond (is_at (int_cmp q) id) (Some n) (at q (e ∷ es))
    by_order Less o rest = refl
    by_order Equal o rest = subst (λ (k : ℤ). cond (is_at (int_cmp q) e.0) (Some n) (at q es)
        ≡ cond (is_at (int_cmp q) k) (Some n) (cond (is_at (int_cmp q) e.0) (Some e.1) (at q es)))
        (sym (exact_signed id e.0 o)) (over_head (is_at (int_cmp q) e.0))
    by_order Greater o rest = ap (cond (is_at (int_cmp q) e.0) (Some e.1)) rest
        ∙ past_head (is_at (int_cmp q) id) (is_at (int_cmp q) e.0) (apart_from o)

-- what is above all others comes last
all_above : (a b : ℤ) (es : List (ℤ × ℕ)) → int_cmp a b ≡ Less → AllByRecursion (IsAbove b) es → AllByRecursion (IsAbove a) es
all_above a b [] less all = tt
all_above a b (e ∷ es) less all = (int_cmp_total.trans a b e.0 less all.0, all_above a b es less all.1)

all_keys : (a : ℤ) (es : List (ℤ × ℕ)) → AllByRecursion (λ (k : ℤ). int_cmp a k ≡ Less) (keys_of es) → AllByRecursion (IsAbove a) es
all_keys a [] all = tt
all_keys a (e ∷ es) all = (all.0, all_keys a es all.1)

keys_all : (a : ℤ) (es : List (ℤ × ℕ)) → AllByRecursion (IsAbove a) es → AllByRecursion (λ (k : ℤ). int_cmp a k ≡ Less) (keys_of es)
keys_all a [] all = tt
keys_all a (e ∷ es) all = (all.0, keys_all a es all.1)

above_head : (e : ℤ × ℕ) (es : List (ℤ × ℕ)) → Rises (e ∷ es) → AllByRecursion (IsAbove e.0) es
unfolding IsStrictlySortedBy
above_head e es r = all_keys e.0 es r.0

rises : (e : ℤ × ℕ) (es : List (ℤ × ℕ)) → AllByRecursion (IsAbove e.0) es → Rises es → Rises (e ∷ es)
unfolding IsStrictlySortedBy
rises e es above r = (keys_all e.0 es above, r)

rises_after : (e : ℤ × ℕ) (es : List (ℤ × ℕ)) → Rises (e ∷ es) → Rises es
rises_after e es = sorted_tail int_cmp e.0 (keys_of es)

pub put_rises : (es : List (ℤ × ℕ)) (id : ℤ) (n : ℕ) → Rises es → Rises (insert_entry int_cmp es id n)
put_rises [] id n r = rises (id, n) [] tt r
put_rises (e ∷ es) id n r = by_order (int_cmp id e.0) refl (put_rises es id n (rises_after e es r))
  where
    by_order : (o : Ordering) → int_cmp id e.0 ≡ o → Rises (insert_entry int_cmp es id n)
        → Rises (match_ordering o ((id, n) ∷ e ∷ es) ((e.0, n) ∷ es) (e ∷ insert_entry int_cmp es id n))
    by_order Less o rest = rises (id, n) (e ∷ es) (o, all_above id e.0 es o (above_head e es r)) r
    by_order Equal o rest = rises (e.0, n) es (above_head e es r) (rises_after e es r)
    by_order Greater o rest = rises e (insert_entry int_cmp es id n)
        (all-insert_entry int_cmp exact_signed (IsAbove e.0) es id n (turned id e.0 Greater o) (above_head e es r)) rest

-- one more entry, if there was none
pub put_longer : (es : List (ℤ × ℕ)) (id : ℤ) (n : ℕ) → at id es ≡ None → length (insert_entry int_cmp es id n) ≡ length es + 1
put_longer [] id n none = refl
put_longer (e ∷ es) id n none = by_order (int_cmp id e.0) none (put_longer es id n)
  where
    by_order : (o : Ordering) → cond (is_eq o) (Some e.1) (at id es) ≡ None → (at id es ≡ None → length (insert_entry int_cmp es id n) ≡ length es + 1)
        → length (match_ordering o ((id, n) ∷ e ∷ es) ((e.0, n) ∷ es) (e ∷ insert_entry int_cmp es id n)) ≡ length (e ∷ es) + 1
    by_order Less is rest = omega arith
    by_order Equal is rest = absurd (let bad : None ≡ Some e.1 = sym is in cc)
    by_order Greater is rest = (let p = rest is in omega (arith, p))

-- ---- entries put into a list

pub found_in : (ds es : List (ℤ × ℕ)) (q : ℤ) → at q (put_into ds es) ≡ or_else (at q ds) (at q es)
found_in [] es q = refl
found_in (d ∷ ds) es q = put_at (put_into ds es) d.0 d.1 q ∙ by_test (is_at (int_cmp q) d.0) (found_in ds es q)
  where
    by_test : (b : Bool) → at q (put_into ds es) ≡ or_else (at q ds) (at q es)
        → cond b (Some d.1) (at q (put_into ds es)) ≡ or_else (cond b (Some d.1) (at q ds)) (at q es)
    by_test true rest = refl
    by_test false rest = rest

-- what a look-up in the map, and then in the list, gives
pub looked_up : (ds es : List (ℤ × ℕ)) (q : ℤ) (o p : Option ℕ) → o ≡ at q ds → p ≡ at q es → or_else o p ≡ at q (put_into ds es)
looked_up ds es q o p is also = rw (is, also) (sym (found_in ds es q))

pub all_rise : (ds es : List (ℤ × ℕ)) → Rises es → Rises (put_into ds es)
all_rise [] es r = r
all_rise (d ∷ ds) es r = put_rises (put_into ds es) d.0 d.1 (all_rise ds es r)

-- one more entry of the map
pub put_more : (ds es : List (ℤ × ℕ)) (id : ℤ) (n : ℕ) → Rises es
    → put_into (insert_entry int_cmp ds id n) es ≡ insert_entry int_cmp (put_into ds es) id n
put_more ds es id n r =
    same_entries int_cmp int_cmp_total exact_signed (put_into (insert_entry int_cmp ds id n) es) (insert_entry int_cmp (put_into ds es) id n)
    (all_rise (insert_entry int_cmp ds id n) es r) (put_rises (put_into ds es) id n (all_rise ds es r))
    (λ q. found_in (insert_entry int_cmp ds id n) es q
    ∙ (ap (λ (o : Option ℕ). or_else o (at q es)) (put_at ds id n q)
    ∙ (by_test (is_at (int_cmp q) id) (at q ds) (at q es)
    ∙ (ap (cond (is_at (int_cmp q) id) (Some n)) (sym (found_in ds es q)) ∙ sym (put_at (put_into ds es) id n q)))))
  where
    by_test : (b : Bool) (x y : Option ℕ) → or_else (cond b (Some n) x) y ≡ cond b (Some n) (or_else x y)
    by_test true x y = refl
    by_test false x y = refl

-- ---- a list of rising ids

pub keys_of-numbered : (n : ℕ) (ids : List ℤ) → keys_of (numbered n ids) ≡ ids
keys_of-numbered n [] = refl
keys_of-numbered n (id ∷ ids) = ap (λ (ks : List ℤ). id ∷ ks) (keys_of-numbered (n + 1) ids)

pub numbered_rise : (n : ℕ) (ids : List ℤ) → IsStrictlySortedBy int_cmp ids → Rises (numbered n ids)
numbered_rise n ids r = subst (IsStrictlySortedBy int_cmp) (sym (keys_of-numbered n ids)) r

abbrev AllBelow : ℤ → List ℤ → Type 0
AllBelow id ids = AllByRecursion (λ (k : ℤ). int_cmp k id ≡ Less) ids

-- an id above all others takes the next position
pub next_position : (m n : ℕ) (ids : List ℤ) (id : ℤ) → AllBelow id ids → m ≡ n + length ids
    → numbered n (ids ++ id ∷ []) ≡ insert_entry int_cmp (numbered n ids) id m
next_position m n [] id all is = (let same : m ≡ n = omega (arith, is) in ap (λ (k : ℕ). (id, k) ∷ []) (sym same))
next_position m n (k ∷ ks) id all is =
    ap (λ (es : List (ℤ × ℕ)). (k, n) ∷ es) (next_position m (n + 1) ks id all.1 (omega (arith, is)))
    ∙ ap (λ (o : Ordering). match_ordering o ((id, m) ∷ (k, n) ∷ numbered (n + 1) ks) ((k, m) ∷ numbered (n + 1) ks)
    ((k, n) ∷ insert_entry int_cmp (numbered (n + 1) ks) id m)) (sym (turned k id Less all.0))

pub pushed_rise : (ids : List ℤ) (id : ℤ) → IsStrictlySortedBy int_cmp ids → AllBelow id ids → IsStrictlySortedBy int_cmp (ids ++ id ∷ [])
pushed_rise ids id r all =
    subst (IsStrictlySortedBy int_cmp) (keys_of-numbered 0 (ids ++ id ∷ []))
    (subst (λ (es : List (ℤ × ℕ)). Rises es) (sym (next_position (length ids) 0 ids id all (omega arith)))
    (put_rises (numbered 0 ids) id (length ids) (numbered_rise 0 ids r)))

-- a push to the list, of which the map has none
pub list_more : (ds : List (ℤ × ℕ)) (ids now : List ℤ) (id : ℤ) (m : ℕ) → ds ≡ [] → now ≡ ids ++ id ∷ [] → m ≡ length ids → AllBelow id ids
    → put_into ds (numbered 0 now) ≡ insert_entry int_cmp (put_into ds (numbered 0 ids)) id m
list_more ds ids now id m none is position all = rw (none, is) (next_position m 0 ids id all (omega (arith, position)))

pub none_of : {A : Type 0} (xs : List A) → length xs ≡ 0 → xs ≡ []
none_of [] none = refl
none_of (x ∷ xs) none = absurd (omega (arith, none))

none_below : (n : ℕ) (ids : List ℤ) (id : ℤ) → AllBelow id ids → at id (numbered n ids) ≡ None
none_below n [] id all = refl
none_below n (k ∷ ks) id all =
    ap (λ (o : Ordering). cond (is_eq o) (Some n) (at id (numbered (n + 1) ks))) (turned k id Less all.0) ∙ none_below (n + 1) ks id all.1

-- the last one is the greatest
pub below_last : (ids : List ℤ) (n : ℕ) (last id : ℤ) → IsStrictlySortedBy int_cmp ids → n + 1 ≡ length ids → slice_get ids n ≡ Some last
    → int_cmp last id ≡ Less → AllBelow id ids
unfolding IsStrictlySortedBy
below_last [] n last id r many is less = absurd (omega (arith, many))
below_last (x ∷ []) zero last id r many is less = (let same : x ≡ last = cc in subst (λ (k : ℤ). int_cmp k id ≡ Less) (sym same) less, tt)
below_last (x ∷ []) (suc n) last id r many is less = absurd (omega (arith, many))
below_last (x ∷ y ∷ ks) zero last id r many is less = absurd (omega (arith, many))
below_last (x ∷ y ∷ ks) (suc n) last id r many is less =
    let rest = below_last (y ∷ ks) n last id r.1 (omega (arith, many)) is less in
    (int_cmp_total.trans x y id r.0.0 rest.0, rest)

pub last_above : (ids : List ℤ) (last id : ℤ) → IsStrictlySortedBy int_cmp ids → slice_get ids (length ids - 1) ≡ Some last
    → int_cmp last id ≡ Less → AllBelow id ids
last_above [] last id r is less = tt
last_above (k ∷ ks) last id r is less =
    below_last (k ∷ ks) (length (k ∷ ks) - 1) last id r (omega arith) is less

-- the position of an id that is among them
pub found_at : (n i : ℕ) (ids : List ℤ) (id : ℤ) → IsStrictlySortedBy int_cmp ids → i < length ids → ((d : ℤ) → int_cmp (get_or ids i d) id ≡ Equal)
    → at id (numbered n ids) ≡ Some (n + i)
unfolding IsStrictlySortedBy
found_at n i [] id r below is = absurd (omega arith)
found_at n zero (k ∷ ks) id r below is =
    ap (λ (o : Ordering). cond (is_eq o) (Some n) (at id (numbered (n + 1) ks))) (turned k id Equal (is k))
    ∙ ap (λ (m : ℕ). Some m) (let same : n ≡ n + 0 = omega arith in same)
found_at n (suc i) (k ∷ ks) id r below is =
    let first : int_cmp k (get_or ks i k) ≡ Less = Less-from_sorted int_cmp (k ∷ ks) zero (suc i) k r (omega arith) below in
    let same : get_or ks i k ≡ id = exact_signed (get_or ks i k) id (is k) in
    let less : int_cmp k id ≡ Less = subst (λ (x : ℤ). int_cmp k x ≡ Less) same first in
    ap (λ (o : Ordering). cond (is_eq o) (Some n) (at id (numbered (n + 1) ks))) (turned k id Less less)
    ∙ (found_at (n + 1) i ks id r.1 (omega arith) is ∙ ap (λ (m : ℕ). Some m) (let more : (n + 1) + i ≡ n + suc i = omega arith in more))

-- an id that none of them is
none_at : (n : ℕ) (ids : List ℤ) (id : ℤ) → ((i : ℕ) (d : ℤ) → i < length ids → is_eq (int_cmp (get_or ids i d) id) ≡ false) → at id (numbered n ids) ≡ None
none_at n [] id apart = refl
none_at n (k ∷ ks) id apart =
    ap (λ (b : Bool). cond b (Some n) (at id (numbered (n + 1) ks))) (other (int_cmp k id) refl (apart 0 k (omega arith)))
    ∙ none_at (n + 1) ks id (λ i d below. apart (suc i) d (omega arith))
  where
    other : (o : Ordering) → int_cmp k id ≡ o → is_eq o ≡ false → is_eq (int_cmp id k) ≡ false
    other Less is apart = ap is_eq (turned k id Less is)
    other Equal is apart = absurd (cc)
    other Greater is apart = ap is_eq (turned k id Greater is)

searchable : (ids : List ℤ) (id : ℤ) → IsStrictlySortedBy int_cmp ids → IsNonDecreasingBy (λ k. ordering_index (int_cmp k id)) ids
searchable ids id r = searchable_from_sorted int_cmp_total (λ k. k) ids id
    (λ k d low below. ap is_lt (turned (get_or ids k d) (get_or ids (k + 1) d) Less (Less-from_sorted int_cmp ids k (k + 1) d r (omega arith) below)))

-- what a search gives
pub searched : (ids : List ℤ) (id : ℤ) (r : Result ℕ ℕ) → IsStrictlySortedBy int_cmp ids → IsSearchInRange r (length ids)
    → IsBinarySearchResult (λ k. int_cmp k id) ids r → ok_of r ≡ at id (numbered 0 ids)
searched ids id (Ok i) rising below equal = sym (found_at 0 i ids id rising below equal ∙ ap (λ (m : ℕ). Some m) (let same : 0 + i ≡ i = omega arith in same))
searched ids id (Err i) rising below parted =
    let ends = parted (searchable ids id rising) in
    sym (none_at 0 ids id (λ k d in_range. elim (cases_lt k i) [
      | inl before ↦ ap is_eq (ends.0 k d (omega arith) before)
      | inr after ↦ ap is_eq (ends.1 k d after in_range)
    ]))

pub none_above : (ids : List ℤ) (id : ℤ) → AllBelow id ids → at id (numbered 0 ids) ≡ None
none_above ids id all = none_below 0 ids id all

pub ok_is : (r : Result ℕ ℕ) → result_ok r ≡ ok_of r
ok_is (Ok n) = refl
ok_is (Err n) = refl

-- ---- the first one of a list and of a map

-- what is below all that is put stays the first
first_stays : (ds es : List (ℤ × ℕ)) (e : ℤ × ℕ) → AllByRecursion (IsAbove e.0) ds → put_into ds (e ∷ es) ≡ e ∷ put_into ds es
first_stays [] es e all = refl
first_stays (d ∷ ds) es e all =
    ap (λ (xs : List (ℤ × ℕ)). insert_entry int_cmp xs d.0 d.1) (first_stays ds es e all.1)
    ∙ ap (λ (o : Ordering). match_ordering o ((d.0, d.1) ∷ e ∷ put_into ds es) ((e.0, d.1) ∷ put_into ds es)
    (e ∷ insert_entry int_cmp (put_into ds es) d.0 d.1))
    (turned e.0 d.0 Less all.0)

put_first : (es : List (ℤ × ℕ)) (d : ℤ × ℕ) → AllByRecursion (IsAbove d.0) es → insert_entry int_cmp es d.0 d.1 ≡ d ∷ es
put_first [] d all = refl
put_first (e ∷ es) d all =
    ap (λ (o : Ordering). match_ordering o ((d.0, d.1) ∷ e ∷ es) ((e.0, d.1) ∷ es) (e ∷ insert_entry int_cmp es d.0 d.1)) all.0

all_into : (id : ℤ) (ds es : List (ℤ × ℕ)) → AllByRecursion (IsAbove id) ds → AllByRecursion (IsAbove id) es → AllByRecursion (IsAbove id) (put_into ds es)
all_into id [] es all each = each
all_into id (d ∷ ds) es all each =
    all-insert_entry int_cmp exact_signed (IsAbove id) (put_into ds es) d.0 d.1 all.0 (all_into id ds es all.1 each)

-- an id of the list that is below those of the map
pub list_first : (ds es : List (ℤ × ℕ)) (e : ℤ × ℕ) → Rises ds → IfFirst (λ d. int_cmp e.0 d.0 ≡ Less) ds → put_into ds (e ∷ es) ≡ e ∷ put_into ds es
list_first [] es e r first = refl
list_first (d ∷ ds) es e r first = first_stays (d ∷ ds) es e (first, all_above e.0 d.0 ds first (above_head d ds r))

-- an id of both
pub both_first : (ds es : List (ℤ × ℕ)) (d e : ℤ × ℕ) → Rises (d ∷ ds) → e.0 ≡ d.0 → put_into (d ∷ ds) (e ∷ es) ≡ d ∷ put_into ds es
both_first ds es d e r same =
    let above : AllByRecursion (IsAbove e.0) ds = subst (λ (k : ℤ). AllByRecursion (IsAbove k) ds) (sym same) (above_head d ds r) in
    let equal : int_cmp d.0 e.0 ≡ Equal = subst (λ (k : ℤ). int_cmp d.0 k ≡ Equal) (sym same) (tied_itself int_cmp_total d.0) in
    ap (λ (xs : List (ℤ × ℕ)). insert_entry int_cmp xs d.0 d.1) (first_stays ds es e above)
    ∙ (ap (λ (o : Ordering). match_ordering o ((d.0, d.1) ∷ e ∷ put_into ds es) ((e.0, d.1) ∷ put_into ds es)
    (e ∷ insert_entry int_cmp (put_into ds es) d.0 d.1)) equal
    ∙ ap (λ (k : ℤ). (k, d.1) ∷ put_into ds es) same)

-- an id of the map that is below those of the list
pub map_first : (ds es : List (ℤ × ℕ)) (d : ℤ × ℕ) → Rises (d ∷ ds) → Rises es → IfFirst (λ e. int_cmp d.0 e.0 ≡ Less) es
    → put_into (d ∷ ds) es ≡ d ∷ put_into ds es
map_first ds [] d r s first = put_first (put_into ds []) d (all_into d.0 ds [] (above_head d ds r) tt)
map_first ds (e ∷ es) d r s first =
    put_first (put_into ds (e ∷ es)) d (all_into d.0 ds (e ∷ es) (above_head d ds r) (first, all_above d.0 e.0 es first (above_head e es s)))

-- ---- what is left of a list from a position on

drop_at : {A : Type 0} (xs : List A) (p : ℕ) (x : A) → slice_get xs p ≡ Some x → drop p xs ≡ x ∷ drop (suc p) xs
drop_at [] p x is = absurd (cc)
drop_at (y ∷ ys) zero x is = (let same : y ≡ x = cc in ap (λ z. z ∷ ys) same)
drop_at (y ∷ ys) (suc p) x is = drop_at ys p x is

pub drop_more : {A : Type 0} (xs : List A) (p : ℕ) (x : A) → slice_get xs p ≡ Some x → drop p xs ≡ x ∷ drop (p + 1) xs
drop_more xs p x is = drop_at xs p x is ∙ ap (λ (q : ℕ). x ∷ drop q xs) (let same : suc p ≡ p + 1 = omega arith in same)

pub drop_none : {A : Type 0} (xs : List A) (p : ℕ) → slice_get xs p ≡ None → drop p xs ≡ []
drop_none [] zero none = refl
drop_none [] (suc p) none = refl
drop_none (y ∷ ys) zero none = absurd (cc)
drop_none (y ∷ ys) (suc p) none = drop_none ys p none

-- ---- one row more

abbrev pub Row : Type 0
Row = ℤ × ℕ

abbrev pub rows_of : Option Row → List Row → ℕ → List ℤ → List Row
rows_of next others p ids = put_into (option_to_list next ++ others) (numbered p ids)

-- the row that comes first, if any, before those that are left; if there is none, none is left
abbrev IsFirstOf : Option Row → List Row → List Row → Type 0
IsFirstOf r left rows = MatchOption r ((rows ≡ []) × (left ≡ [])) (λ d. rows ≡ d ∷ left)

-- the next row of the map goes, and the first of the others takes its place
pub record TakesMapped (next : Option Row) (others : List Row) (r now : Option Row) (left : List Row) : Type 0 where
  pub row : r ≡ next
  pub rest : others ≡ option_to_list now ++ left
  pub last : now ≡ None → left ≡ []

rise_after : (next now : Option Row) (others left : List Row) → Rises (option_to_list next ++ others) → (next ≡ None → others ≡ [])
    → others ≡ option_to_list now ++ left → Rises (option_to_list now ++ left)
rise_after None now others left r first rest = subst (λ (es : List Row). Rises es) rest r
rise_after (Some d) now others left r first rest = subst (λ (es : List Row). Rises es) rest (rises_after d others r)

pub mapped_left : (next r now : Option Row) (others left : List Row) (ids : List ℤ) → AreRows next others ids → TakesMapped next others r now left
    → AreRows now left ids
mapped_left next r now others left ids all t = record {
  mapped = rise_after next now others left all.mapped all.first t.rest;
  listed = all.listed;
  first = t.last;
}

pub after_both : (next r now : Option Row) (others left : List Row) (id : ℤ) (ids : List ℤ) → AreRows next others (id ∷ ids)
    → TakesMapped next others r now left → AreRows now left ids
after_both next r now others left id ids all t = record {
  mapped = rise_after next now others left all.mapped all.first t.rest;
  listed = sorted_tail int_cmp id ids all.listed;
  first = t.last;
}

pub listed_left : (next : Option Row) (others : List Row) (id : ℤ) (ids : List ℤ) → AreRows next others (id ∷ ids) → AreRows next others ids
listed_left next others id ids all = record { mapped = all.mapped; listed = sorted_tail int_cmp id ids all.listed; first = all.first }

none_rise : Rises []
unfolding IsStrictlySortedBy
none_rise = tt

-- the list has no more
pub row_mapped : (next r now : Option Row) (others left : List Row) (p : ℕ) (ids : List ℤ) → AreRows next others ids → TakesMapped next others r now left
    → ids ≡ [] → IsFirstOf r (rows_of now left p ids) (rows_of next others p ids)
row_mapped next r now others left p ids all t none = rw (t.row, none) (by_next next all.mapped all.first t.rest)
  where
    by_next : (o : Option Row) → Rises (option_to_list o ++ others) → (o ≡ None → others ≡ []) → others ≡ option_to_list now ++ left
        → IsFirstOf o (rows_of now left p []) (rows_of o others p [])
    by_next None rising first rest =
        (ap (λ (ds : List Row). put_into ds []) (first refl), ap (λ (ds : List Row). put_into ds []) (sym rest ∙ first refl))
    by_next (Some d) rising first rest =
        map_first others [] d rising none_rise tt ∙ ap (λ (ds : List Row). d ∷ put_into ds []) rest

-- how an id of the list compares to the next row of the map
abbrev pub Compares : ℤ → Option Row → Ordering → Type 0
Compares id next o = MatchOption next (o ≡ Less) (λ d. o ≡ int_cmp id d.0)

pub row_listed : (next : Option Row) (others : List Row) (p : ℕ) (id : ℤ) (ids : List ℤ) (o : Ordering) → AreRows next others (id ∷ ids)
    → Compares id next o → o ≡ Less → rows_of next others p (id ∷ ids) ≡ (id, p) ∷ rows_of next others (p + 1) ids
row_listed None others p id ids o all compares less =
    let none : others ≡ [] = all.first refl in
    rw none refl
row_listed (Some d) others p id ids o all compares less = list_first (d ∷ others) (numbered (p + 1) ids) (id, p) all.mapped (sym compares ∙ less)

pub row_both : (next r now : Option Row) (others left : List Row) (p : ℕ) (id : ℤ) (ids : List ℤ) (o : Ordering) → AreRows next others (id ∷ ids)
    → TakesMapped next others r now left → Compares id next o → o ≡ Equal → IsFirstOf r (rows_of now left (p + 1) ids) (rows_of next others p (id ∷ ids))
row_both next r now others left p id ids o all t compares equal = rw (t.row) (by_next next all.mapped compares)
  where
    by_next : (n : Option Row) → Rises (option_to_list n ++ others) → Compares id n o
        → IsFirstOf n (rows_of now left (p + 1) ids) (rows_of n others p (id ∷ ids))
    by_next None rising is = absurd (let bad : Less ≡ Equal = sym is ∙ equal in cc)
    by_next (Some d) rising is =
        both_first others (numbered (p + 1) ids) d (id, p) rising (exact_signed id d.0 (sym is ∙ equal))
        ∙ ap (λ (ds : List Row). d ∷ put_into ds (numbered (p + 1) ids)) t.rest

pub row_of_map : (next r now : Option Row) (others left : List Row) (p : ℕ) (id : ℤ) (ids : List ℤ) (o : Ordering) → AreRows next others (id ∷ ids)
    → TakesMapped next others r now left → Compares id next o → o ≡ Greater → IsFirstOf r (rows_of now left p (id ∷ ids)) (rows_of next others p (id ∷ ids))
row_of_map next r now others left p id ids o all t compares greater = rw (t.row) (by_next next all.mapped compares)
  where
    by_next : (n : Option Row) → Rises (option_to_list n ++ others) → Compares id n o
        → IsFirstOf n (rows_of now left p (id ∷ ids)) (rows_of n others p (id ∷ ids))
    by_next None rising is = absurd (let bad : Less ≡ Greater = sym is ∙ greater in cc)
    by_next (Some d) rising is =
        map_first others (numbered p (id ∷ ids)) d rising (numbered_rise p (id ∷ ids) all.listed) (turned id d.0 Greater (sym is ∙ greater))
        ∙ ap (λ (ds : List Row). d ∷ put_into ds (numbered p (id ∷ ids))) t.rest
