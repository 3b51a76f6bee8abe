-- The entry of a key among entries whose keys rise.
use Rattle.std.proofs.Common.{
  ◌≡◌,
  ◌≢◌,
  ℕ,
  zero,
  suc,
  ◌+◌,
  ◌<◌,
  Bool,
  true,
  false,
  List,
  [],
  ◌∷◌,
  length,
  get_or,
  refl,
  sym,
  ap,
  ◌∙◌,
  subst,
  cond,
  Option,
  Some,
  None,
  inl,
  inr,
  arith,
}
use Rattle.std.specs.Prelude.{Err, Ok, Result, IfSome}
use Rattle.std.specs.List.{AllByRecursion}
use Rattle.std.specs.List.Sorted.{IsBinarySearchResult, IsNonDecreasingBy, IsSearchInRange, IsStrictlySortedBy}
use Rattle.std.specs.Map.{keys_of}
use Rattle.std.specs.Ordering.{is_eq, is_lt, ordering_index, ordering_reverse}
use Rattle.std.specs.declared.cmp.Ordering.{Ordering}
use Rattle.std.specs.declared.cmp.Ordering.TheVariants.{Equal, Greater, Less}
use Rattle.std.proofs.lemmas.Bool.{cases_lt}
use Rattle.std.proofs.lemmas.List.Sorted.{searchable_from_sorted}
use Rattle.std.proofs.lemmas.Option.{same_Some}
use Rattle.osm_model.specs.Change.{ChangeValue}
use Rattle.osm_model.specs.KeyOrder.{key_cmp, same_key}
use Rattle.osm_model.specs.declared.kind.Key.{Key}
use Rattle.osm_model.proofs.ContentLemmas.{one_key}
use Rattle.osm_model.proofs.DataLemmas.{keys_total}
use Rattle.osm_net.specs.Net.{AreKeysRising, HasOwnKey, NetEntry, net_at}
use Rattle.std.specs.Option.{option_copied}
use Rattle.std.specs.Result.{result_ok}
use Rattle.std.proofs.Common.{Bor}
use Rattle.osm_asking.specs.Asking.{HasKey}
use Rattle.osm_asking.specs.Steps.Answering.{IsEntryAt}

pub turned : (a b : Key) (o : Ordering) → key_cmp a b ≡ o → key_cmp b a ≡ ordering_reverse o
turned a b o e = keys_total.antisymm b a ∙ ap ordering_reverse e

less_at : (q : Key) (es : List NetEntry) (i : ℕ) (d : NetEntry) → AllByRecursion (λ y. key_cmp q y ≡ Less) (keys_of es) → i < length es
    → key_cmp q (get_or es i d).0 ≡ Less
less_at q [] i d all below = absurd (omega arith)
less_at q (e ∷ es) zero d all below = all.0
less_at q (e ∷ es) (suc i) d all below = less_at q es i d all.1 (omega arith)

rises_at : (es : List NetEntry) (i j : ℕ) (d : NetEntry) → AreKeysRising es → i < j → j < length es → key_cmp (get_or es i d).0 (get_or es j d).0 ≡ Less
unfolding IsStrictlySortedBy
rises_at [] i j d rising apart below = absurd (omega arith)
rises_at (e ∷ es) i zero d rising apart below = absurd (omega arith)
rises_at (e ∷ es) zero (suc j) d rising apart below = less_at e.0 es j d rising.0 (omega arith)
rises_at (e ∷ es) (suc i) (suc j) d rising apart below = rises_at es i j d rising.1 (omega arith) (omega arith)

searchable : (es : List NetEntry) (k : Key) → AreKeysRising es → IsNonDecreasingBy (λ e. ordering_index (key_cmp e.0 k)) es
searchable es k rising = searchable_from_sorted keys_total (λ (e : NetEntry). e.0) es k
    (λ i d low below. ap is_lt (turned (get_or es i d).0 (get_or es (i + 1) d).0 Less (rises_at es i (i + 1) d rising (omega arith) below)))

-- the entry with that key is the one that is found
entry_found : (es : List NetEntry) (k : Key) (i : ℕ) (d : NetEntry) → AreKeysRising es → i < length es → key_cmp (get_or es i d).0 k ≡ Equal
    → net_at es k ≡ Some (get_or es i d).1
unfolding IsStrictlySortedBy
entry_found [] k i d rising below equal = absurd (omega arith)
entry_found (e ∷ es) k zero d rising below equal =
    let same : same_key k e.0 ≡ true = ap is_eq (turned e.0 k Equal equal) in
    rw same refl
entry_found (e ∷ es) k (suc i) d rising below equal =
    let here : i < length es = omega arith in
    let less : key_cmp e.0 k ≡ Less = subst (λ (q : Key). key_cmp e.0 q ≡ Less) (one_key (get_or es i d).0 k equal) (less_at e.0 es i d rising.0 here) in
    let other : same_key k e.0 ≡ false = ap is_eq (turned e.0 k Less less) in
    rw other (entry_found es k i d rising.1 here equal)

is_other_key : (a k : Key) (o : Ordering) → key_cmp a k ≡ o → o ≢ Equal → same_key k a ≡ false
is_other_key a k Less e other = ap is_eq (turned a k Less e)
is_other_key a k Equal e other = absurd (other refl)
is_other_key a k Greater e other = ap is_eq (turned a k Greater e)

entry_lacks : (es : List NetEntry) (k : Key) → ((i : ℕ) (d : NetEntry) → i < length es → key_cmp (get_or es i d).0 k ≢ Equal) → net_at es k ≡ None
entry_lacks [] k none = refl
entry_lacks (e ∷ es) k none =
    let other : same_key k e.0 ≡ false = is_other_key e.0 k (key_cmp e.0 k) refl (none 0 e (omega arith)) in
    rw other (entry_lacks es k (λ i d below. none (suc i) d (omega arith)))

less_no : (o : Ordering) → o ≡ Less → o ≢ Equal
less_no o e f = (let bad : Less ≡ Equal = sym e ∙ f in cc)

greater_no : (o : Ordering) → o ≡ Greater → o ≢ Equal
greater_no o e f = (let bad : Greater ≡ Equal = sym e ∙ f in cc)

pub entry_at_index : (es : List NetEntry) (k : Key) (i : ℕ) (d : NetEntry) → i < length es → ((e : NetEntry) → key_cmp (get_or es i e).0 k ≡ Equal)
    → AreKeysRising es → net_at es k ≡ Some (get_or es i d).1
entry_at_index es k i d below equal rising = entry_found es k i d rising below (equal d)

pub entry_at_none : (es : List NetEntry) (k : Key) (i : ℕ) → IsBinarySearchResult (λ (e : NetEntry). key_cmp e.0 k) es (Err i) → AreKeysRising es
    → net_at es k ≡ None
entry_at_none es k i parted rising =
    let ends = parted (searchable es k rising) in
    entry_lacks es k (λ j d below. elim (cases_lt j i) [
      | inl before ↦ less_no (key_cmp (get_or es j d).0 k) (ends.0 j d (omega arith) before)
      | inr after ↦ greater_no (key_cmp (get_or es j d).0 k) (ends.1 j d after below)
    ])

-- what is left has the key of its entry
pub entry_own : (es : List NetEntry) (k : Key) (left : Option ChangeValue) → AllByRecursion HasOwnKey es → net_at es k ≡ Some left → HasKey k left
entry_own [] k left own e = absurd (let bad : ◌≡◌ {A = Option (Option ChangeValue)} None (Some left) = e in cc)
entry_own ((q, z) ∷ es) k left own e = by_order (key_cmp k q) refl (entry_own es k left own.1)
  where
    own_of : (z : Option ChangeValue) → HasOwnKey (q, z) → k ≡ q → HasKey k z
    own_of None is same = tt
    own_of (Some c) is same = sym is ∙ sym same

    others : is_eq (key_cmp k q) ≡ false → net_at es k ≡ Some left
    others other = subst (λ (b : Bool). cond b (Some z) (net_at es k) ≡ Some left) other e

    by_order : (o : Ordering) → key_cmp k q ≡ o → (net_at es k ≡ Some left → HasKey k left) → HasKey k left
    by_order Less f ih = ih (others (ap is_eq f))
    by_order Equal f ih =
        let found : Some z ≡ Some left = subst (λ (b : Bool). cond b (Some z) (net_at es k) ≡ Some left) (ap is_eq f) e in
        subst (HasKey k) (same_Some z left found) (own_of z own.0 (one_key k q f))
    by_order Greater f ih = ih (others (ap is_eq f))

-- the index that a search ends at
pub place_within : (n : ℕ) (r : Result ℕ ℕ) (o : Option ℕ) → o ≡ result_ok r → IsSearchInRange r n → IfSome o (λ at. at < n)
place_within n (Ok i) o e h = subst (λ (x : Option ℕ). IfSome x (λ at. at < n)) (sym e) h
place_within n (Err i) o e h = subst (λ (x : Option ℕ). IfSome x (λ at. at < n)) (sym e) tt

pub place_there : (es : List NetEntry) (k : Key) (r : Result ℕ ℕ) (o : Option ℕ) → o ≡ result_ok r → IsSearchInRange r (length es)
    → IsBinarySearchResult (λ (e : NetEntry). key_cmp e.0 k) es r → AreKeysRising es → IsEntryAt es k o
place_there es k (Ok i) o e below equal rising =
    subst (λ (x : Option ℕ). IsEntryAt es k x) (sym e) (λ d. entry_at_index es k i d below equal rising)
place_there es k (Err i) o e below parted rising =
    subst (λ (x : Option ℕ). IsEntryAt es k x) (sym e) (entry_at_none es k i parted rising)

-- what the entry that was found says of a key
pub entry_is : (es found : List NetEntry) (k : Key) (r : Option (Bor (Option ChangeValue))) (left : Bor (Option ChangeValue)) → found ≡ es
    → (AreKeysRising found → option_copied r ≡ net_at found k) → r ≡ Some left → AreKeysRising es → net_at es k ≡ Some left.now
entry_is es found k r left same h is rising =
    subst (λ (x : List NetEntry). net_at x k ≡ Some left.now) same (sym (h (subst AreKeysRising (sym same) rising)) ∙ ap option_copied is)

pub entry_none : (es found : List NetEntry) (k : Key) (r : Option (Bor (Option ChangeValue))) → found ≡ es
    → (AreKeysRising found → option_copied r ≡ net_at found k) → r ≡ None → AreKeysRising es → net_at es k ≡ None
entry_none es found k r same h is rising =
    subst (λ (x : List NetEntry). net_at x k ≡ None) same (sym (h (subst AreKeysRising (sym same) rising)) ∙ ap option_copied is)
