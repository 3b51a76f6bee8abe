-- Keys that are noted one after the other, and those that are left.
use Rattle.std.proofs.Common.{
  ◌≡◌,
  ℕ,
  ◌+◌,
  ◌<◌,
  ◌≤◌,
  Bool,
  true,
  false,
  List,
  [],
  ◌∷◌,
  ◌++◌,
  length,
  get_or,
  map,
  take,
  refl,
  sym,
  ap,
  ◌∙◌,
  subst,
  Option,
  Some,
  None,
  cond,
}
use Rattle.std.specs.Prelude.{◌||◌, ◌&&◌, not}
use Rattle.std.specs.List.{AllByRecursion, list_any}
use Rattle.std.specs.List.Sorted.{IsStrictlySortedBy}
use Rattle.std.specs.Map.{keys_of}
use Rattle.std.specs.Ordering.{is_eq, ordering_reverse}
use Rattle.std.specs.declared.cmp.Ordering.{Ordering}
use Rattle.std.specs.declared.cmp.Ordering.TheVariants.{Equal, Greater, Less}
use Rattle.std.proofs.Common.{Bor}
use Rattle.std.proofs.lemmas.List.{map-append, take_more}
use Rattle.std.specs.Map.Iter.{deref_pair}
use Rattle.std.proofs.lemmas.List.Folds.{list_any-append}
use Rattle.osm_model.specs.Change.{ChangeValue}
use Rattle.osm_model.specs.KeyOrder.{key_cmp, same_key}
use Rattle.osm_model.specs.declared.kind.Key.{Key}
use Rattle.osm_model.proofs.ContentLemmas.{one_key}
use Rattle.osm_model.proofs.DataLemmas.{keys_total}
use Rattle.osm_asking.specs.Steps.Referring.{left_in}
use Rattle.osm_asking.specs.Referring.{AreLeft, KnowsOf, also, are_referring, is_asked, is_left, known_of, noted_at, refers_to}

abbrev Noted : Type 0
Noted = List (Key × Bool)

-- ---- one key after the other

also_none : (o : Option Bool) → also false o ≡ o
also_none None = refl
also_none (Some left) = refl

also_more : (a b : Bool) (o : Option Bool) → also b (also a o) ≡ also (a || b) o
also_more a b (Some left) = refl
also_more true b None = refl
also_more false b None = refl

or_false : (b : Bool) → (b || false) ≡ b
or_false true = refl
or_false false = refl

-- of the first `i` of those, each key was noted
pub record IsNotedSoFar {X : Type 0} (key_of : X → Key) (old new : List (Key × Bool)) (xs : List X) (i : ℕ) : Type 0 where
  pub each : (k : Key) → noted_at new k ≡ also (list_any (λ x. same_key (key_of x) k) (take i xs)) (noted_at old k)

pub noted_more : {X : Type 0} (key_of : X → Key) (old new next : Noted) (xs : List X) (i : ℕ) (x : X) → IsNotedSoFar key_of old new xs i
    → i < length xs → x ≡ get_or xs i x → ((k : Key) → noted_at next k ≡ also (same_key (key_of x) k) (noted_at new k))
    → IsNotedSoFar key_of old next xs (i + 1)
noted_more {X} key_of old new next xs i x h lt is step = record { each = λ k. one k }
  where
    one : (k : Key) → noted_at next k ≡ also (list_any (λ y. same_key (key_of y) k) (take (i + 1) xs)) (noted_at old k)
    one k =
        let test : X → Bool = λ (y : X). same_key (key_of y) k in
        let more : take (i + 1) xs ≡ take i xs ++ x ∷ [] = take_more xs i x lt ∙ ap (λ (y : X). take i xs ++ y ∷ []) (sym is) in
        let any : list_any test (take (i + 1) xs) ≡ (list_any test (take i xs) || test x) =
        ap (list_any test) more ∙ (list_any-append test (take i xs) (x ∷ []) ∙ ap (λ (b : Bool). list_any test (take i xs) || b) (or_false (test x))) in
        step k ∙ (ap (also (test x)) (h.each k)
        ∙ (also_more (list_any test (take i xs)) (test x) (noted_at old k) ∙ ap (λ (b : Bool). also b (noted_at old k)) (sym any)))

-- ---- the keys that are left

left_joined : (es more : Noted) → left_in (es ++ more) ≡ left_in es ++ left_in more
left_joined [] more = refl
left_joined ((q, true) ∷ es) more = ap (λ (l : List Key). q ∷ l) (left_joined es more)
left_joined ((q, false) ∷ es) more = left_joined es more

-- one more entry was looked at, which is left or not
pub left_more : (done : List (Bor Key × Bor Bool)) (p : Bor Key × Bor Bool) (left : List Key) → left ≡ left_in (map deref_pair done)
    → left ++ left_in (deref_pair p ∷ []) ≡ left_in (map deref_pair (done ++ p ∷ []))
left_more done p left e =
    ap (λ (l : List Key). l ++ left_in (deref_pair p ∷ [])) e
    ∙ (sym (left_joined (map deref_pair done) (deref_pair p ∷ [])) ∙ ap left_in (sym (map-append deref_pair done (p ∷ []))))

same_both : (a b : Key) → same_key a b ≡ same_key b a
same_both a b = ap is_eq (keys_total.antisymm a b) ∙ by_order (key_cmp b a)
  where
    by_order : (o : Ordering) → is_eq (ordering_reverse o) ≡ is_eq o
    by_order Less = refl
    by_order Equal = refl
    by_order Greater = refl

all_left : (q : Key) (es : Noted) → AllByRecursion (λ y. key_cmp q y ≡ Less) (keys_of es) → AllByRecursion (λ y. key_cmp q y ≡ Less) (left_in es)
all_left q [] all = tt
all_left q ((k, true) ∷ es) all = (all.0, all_left q es all.1)
all_left q ((k, false) ∷ es) all = all_left q es all.1

left_rises : (es : Noted) → IsStrictlySortedBy key_cmp (keys_of es) → IsStrictlySortedBy key_cmp (left_in es)
unfolding IsStrictlySortedBy
left_rises [] sorted = tt
left_rises ((k, true) ∷ es) sorted = (all_left k es sorted.0, left_rises es sorted.1)
left_rises ((k, false) ∷ es) sorted = left_rises es sorted.1

none_equal : (q : Key) (ks : List Key) → AllByRecursion (λ y. key_cmp q y ≡ Less) ks → list_any (λ y. same_key y q) ks ≡ false
none_equal q [] all = refl
none_equal q (k ∷ ks) all =
    let other : same_key k q ≡ false = same_both k q ∙ ap is_eq all.0 in
    rw other (none_equal q ks all.1)

left_each : (k : Key) (es : Noted) → IsStrictlySortedBy key_cmp (keys_of es) → list_any (λ q. same_key q k) (left_in es) ≡ is_left (noted_at es k)
unfolding IsStrictlySortedBy
left_each k [] sorted = refl
left_each k ((q, true) ∷ es) sorted =
    rw (same_both q k) (by_test (same_key k q) (left_each k es sorted.1))
  where
    by_test : (b : Bool) → list_any (λ p. same_key p k) (left_in es) ≡ is_left (noted_at es k)
        → (b || list_any (λ p. same_key p k) (left_in es)) ≡ is_left (cond b (Some true) (noted_at es k))
    by_test true ih = refl
    by_test false ih = ih
left_each k ((q, false) ∷ es) sorted = by_order (key_cmp k q) refl (left_each k es sorted.1)
  where
    by_order : (o : Ordering) → key_cmp k q ≡ o → list_any (λ p. same_key p k) (left_in es) ≡ is_left (noted_at es k)
        → list_any (λ p. same_key p k) (left_in es) ≡ is_left (cond (is_eq (key_cmp k q)) (Some false) (noted_at es k))
    by_order Less e ih = rw e ih
    by_order Equal e ih =
        rw e (none_equal k (left_in es) (all_left k es (subst (λ (p : Key). AllByRecursion (λ y. key_cmp p y ≡ Less) (keys_of es))
        (sym (one_key k q e)) sorted.0)))
    by_order Greater e ih = rw e ih

pub are_left : (es : Noted) (left : List Key) → IsStrictlySortedBy key_cmp (keys_of es) → left ≡ left_in es → AreLeft es left
are_left es left sorted e = rw e (record { rising = left_rises es sorted; each = λ k. left_each k es sorted })

-- ---- what is known of a key

-- a key was asked for, and its object was printed and what that refers to noted
known_more : (same asked refers before : Bool) → also refers (cond same (Some false) (known_of asked before)) ≡ known_of (same || asked) (refers || before)
known_more true asked refers before = refl
known_more false true refers before = refl
known_more false false true true = refl
known_more false false true false = refl
known_more false false false true = refl
known_more false false false false = refl

pub knows_object : (old new : Noted) (key : Key) (c : ChangeValue) (asked : List Key) (printed : List ChangeValue) → KnowsOf old asked printed
    → ((k : Key) → noted_at new k ≡ also (refers_to c.what k) (cond (same_key key k) (Some false) (noted_at old k)))
    → KnowsOf new (key ∷ asked) (c ∷ printed)
knows_object old new key c asked printed h step k =
    step k ∙ (ap (λ (o : Option Bool). also (refers_to c.what k) (cond (same_key key k) (Some false) o)) (h k)
    ∙ known_more (same_key key k) (is_asked asked k) (refers_to c.what k) (are_referring printed k))

pub knows_absent : (old new : Noted) (key : Key) (asked : List Key) (printed : List ChangeValue) → KnowsOf old asked printed
    → ((k : Key) → noted_at new k ≡ cond (same_key key k) (Some false) (noted_at old k)) → KnowsOf new (key ∷ asked) printed
knows_absent old new key asked printed h step k =
    step k ∙ (ap (λ (o : Option Bool). cond (same_key key k) (Some false) o) (h k) ∙ (sym (also_none _)
    ∙ known_more (same_key key k) (is_asked asked k) false (are_referring printed k)))
