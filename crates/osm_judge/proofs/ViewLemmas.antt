-- What holds at the keys and numbers that two lists name holds at all keys and numbers.
use Rattle.std.proofs.Common.{◌≡◌, ℕ, zero, suc, ◌+◌, ◌<◌, ◌≤◌, List, [], ◌∷◌, length, refl, sym, ◌∙◌, Bool, true, false}
use Rattle.std.proofs.Common.{Option, Some, None, arith, cond, subst, slice_index_or}
use Rattle.std.proofs.lemmas.Bool.{eqb-true}
use Rattle.std.specs.BTreeMap.{is_at}
use Rattle.std.specs.Cmp.{Equal-is}
use Rattle.std.specs.Cmp.Lexicographic.{pointwise}
use Rattle.std.specs.declared.cmp.Ordering.TheVariants.{Less, Equal}
use Rattle.std.proofs.lemmas.Grind.{common_steps}
use Rattle.std.proofs.lemmas.List.Sums.{sum_by-append}
use Rattle.std.proofs.lemmas.List.Elements.{All-from_recursion, recursion_from_All, All-contains_itself}
use Rattle.std.proofs.lemmas.Slice.Eq.{slice_eq-Decides}
use Rattle.std.proofs.lemmas.Bool.Decides.{Decides-eqb}
use Rattle.std.specs.List.Sorted.{IsStrictlySortedBy}
use Rattle.std.specs.declared.cmp.Ordering.{Ordering}
use Rattle.std.specs.Map.{lookup}
use Rattle.std.specs.Ordering.{nat_cmp}
use Rattle.osm_opl.proofs.LineLaws.{one_change}
use Rattle.osm_opl.proofs.RoundTrip.{line_spells}
use Rattle.osm_opl.specs.Written.{line_text}
use Rattle.std.specs.Prelude.{if◌then◌else◌, ◌==◌, ◌↔◌, count_by, IsTrue, Contains, nat_eq}
use Rattle.std.specs.List.{AllByRecursion}
use Rattle.osm_model.specs.Change.{ChangeValue, IsChange}
use Rattle.osm_model.specs.Content.{content_of, last_of, later_of, edits_by_user, edits_by_changeset}
use Rattle.osm_model.specs.Filter.{FilterValue, kept}
use Rattle.osm_model.specs.KeyOrder.{same_key}
use Rattle.osm_model.specs.declared.kind.Key.{Key}
use Rattle.osm_model.proofs.ContentLemmas.{same_key-only}
use Rattle.osm_world.specs.History.{History, accepted_of, base_of, published_of, start_of}
use Rattle.osm_mirror.specs.Mirror.{object_at, count_at, Counted, IsMirrorOf}
use Rattle.osm_publisher.specs.Published.{changes_after, changes_up_to, time_at}
use Rattle.osm_follow.specs.Reach.{Reaches}
use Rattle.osm_follow.specs.View.{ViewValue, IsView}

-- if a list has an object with that key, what holds at the keys of the list holds there
at_object : (P : Key → Type 0) (os : List ChangeValue) (k : Key) (o : ChangeValue) → object_at os k ≡ Some o → AllByRecursion (λ c. P c.key) os → P k
at_object P [] k o is all = absurd (cc)
at_object P (c ∷ os) k o is all = by_test (same_key k c.key) refl is (λ there. at_object P os k o there all.1)
  where
    by_test : (b : Bool) → same_key k c.key ≡ b → (if b then Some c else object_at os k) ≡ Some o → (object_at os k ≡ Some o → P k) → P k
    by_test true same is rest = rw (same_key-only k c.key same) all.0
    by_test false same is rest = rest is

-- the same for the last change with that key
at_change : (P : Key → Type 0) (cs : List ChangeValue) (k : Key) (o : ChangeValue) → last_of cs k ≡ Some o → AllByRecursion (λ c. P c.key) cs → P k
at_change P [] k o is all = absurd (cc)
at_change P (c ∷ cs) k o is all = by_last (last_of cs k) refl is (λ p there. at_change P cs k p there all.1)
  where
    by_test : (b : Bool) → same_key c.key k ≡ b → (if b then Some c else None) ≡ Some o → P k
    by_test true same is = rw (← same_key-only c.key k same) all.0
    by_test false same is = absurd (cc)

    by_last : (l : Option ChangeValue) → last_of cs k ≡ l → later_of (if same_key c.key k then Some c else None) l ≡
        Some o → ((p : ChangeValue) → last_of cs k ≡ Some p → P k) → P k
    by_last None there is rest = by_test (same_key c.key k) refl is
    by_last (Some p) there is rest = rest p there

-- objects that are right at the keys of both lists are right everywhere, since elsewhere neither has one
pub right_everywhere : (f : FilterValue) (os cs : List ChangeValue) → AllByRecursion (λ c. object_at os c.key ≡ kept f (content_of cs) c.key) os
    → AllByRecursion (λ c. object_at os c.key ≡ kept f (content_of cs) c.key) cs → (k : Key) → object_at os k ≡ kept f (content_of cs) k
right_everywhere f os cs here there k = by_object (object_at os k) refl (last_of cs k) refl
  where
    by_object : (o : Option ChangeValue) → object_at os k ≡ o → (l : Option ChangeValue) → last_of cs k ≡ l → object_at os k ≡ kept f (content_of cs) k
    by_object (Some o) is l last = at_object (λ q. object_at os q ≡ kept f (content_of cs) q) os k o is here
    by_object None is (Some c) last = at_change (λ q. object_at os q ≡ kept f (content_of cs) q) cs k c last there
    by_object None is None last = rw (is, last) refl

same_number : (n m : ℕ) → is_at (nat_cmp n) m ≡ true → n ≡ m
same_number n m same = let equal : nat_cmp n m ≡ Equal = (Equal-is (nat_cmp n m)).0 same in grind (arith, common_steps)

-- counts that are right for the numbers of both lists are right for all, since others have none
at_count : (P : ℕ → Type 0) (es : List Counted) (n c : ℕ) → lookup (is_at (nat_cmp n)) es ≡ Some c → AllByRecursion (λ e. P e.0) es → P n
at_count P [] n c is all = absurd (cc)
at_count P (e ∷ es) n c is all = by_test (is_at (nat_cmp n) e.0) refl is (λ there. at_count P es n c there all.1)
  where
    by_test : (b : Bool) → is_at (nat_cmp n) e.0 ≡ b → cond b (Some e.1) (lookup (is_at (nat_cmp n)) es) ≡ Some c
        → (lookup (is_at (nat_cmp n)) es ≡ Some c → P n) → P n
    by_test true same is rest = rw (same_number n e.0 same) all.0
    by_test false same is rest = rest is

at_edit : (P : ℕ → Type 0) (number : ChangeValue → ℕ) (cs : List ChangeValue) (n : ℕ)
    → 0 < count_by (λ c. number c == n) cs → AllByRecursion (λ c. P (number c)) cs → P n
at_edit P number [] n some all = absurd (omega arith)
at_edit P number (c ∷ cs) n some all =
    let split : count_by (λ d. number d == n) (c ∷ cs) ≡ count_by (λ d. number d == n) (c ∷ [])
    + count_by (λ d. number d == n) cs = sum_by-append (λ d. if number d == n then 1 else 0) (c ∷ []) cs in
    by_test (number c == n) refl (rw split at some) (λ there. at_edit P number cs n there all.1)
  where
    by_test : (b : Bool) → (number c == n) ≡ b → 0 < 0 + (if b then 1 else 0) + count_by (λ d. number d == n) cs
        → (0 < count_by (λ d. number d == n) cs → P n) → P n
    by_test true same is rest = rw (← eqb-true (number c) n same) all.0
    by_test false same is rest = rest (omega arith)

counted_everywhere : (number : ChangeValue → ℕ) (es : List Counted) (cs : List ChangeValue)
    → AllByRecursion (λ e. count_at es e.0 ≡ count_by (λ c. number c == e.0) cs) es
    → AllByRecursion (λ d. count_at es (number d) ≡ count_by (λ c. number c == number d) cs) cs → (n : ℕ)
    → count_at es n ≡ count_by (λ c. number c == n) cs
counted_everywhere number es cs here there n = by_count (lookup (is_at (nat_cmp n)) es) refl (count_by (λ c. number c == n) cs) refl
  where
    by_count : (o : Option ℕ) → lookup (is_at (nat_cmp n)) es ≡ o → (m : ℕ) → count_by (λ c. number c == n) cs ≡ m
        → count_at es n ≡ count_by (λ c. number c == n) cs
    by_count (Some x) is m many = at_count (λ j. count_at es j ≡ count_by (λ c. number c == j) cs) es n x is here
    by_count None is zero many = rw (is, many) refl
    by_count None is (suc m) many = at_edit (λ j. count_at es j ≡ count_by (λ c. number c == j) cs) number cs n (rw many (omega arith)) there

pub users_everywhere : (es : List Counted) (cs : List ChangeValue)
    → AllByRecursion (λ e. count_at es e.0 ≡ edits_by_user cs e.0) es
    → AllByRecursion (λ c. count_at es c.meta.uid ≡ edits_by_user cs c.meta.uid) cs → (n : ℕ)
    → count_at es n ≡ edits_by_user cs n
users_everywhere es cs here there = counted_everywhere (λ c. c.meta.uid) es cs here there

pub changesets_everywhere : (es : List Counted) (cs : List ChangeValue)
    → AllByRecursion (λ e. count_at es e.0 ≡ edits_by_changeset cs e.0) es
    → AllByRecursion (λ c. count_at es c.meta.changeset ≡ edits_by_changeset cs c.meta.changeset) cs → (n : ℕ)
    → count_at es n ≡ edits_by_changeset cs n
changesets_everywhere es cs here there = counted_everywhere (λ c. c.meta.changeset) es cs here there

-- what holds everywhere holds for the items of a list
pub everywhere_in : {X Y : Type 0} (P : Y → Type 0) (f : X → Y) (xs : List X) → ((y : Y) → P y) → AllByRecursion (λ x. P (f x)) xs
everywhere_in P f [] all = tt
everywhere_in P f (x ∷ xs) all = (all (f x), everywhere_in P f xs all)

-- equal lines are of equal changes
pub one_line : (a b : ChangeValue) → IsChange a → IsChange b → line_text a ≡ line_text b → a ≡ b
one_line a b p q same = one_change (line_text a) a b (line_spells a p) (rw same (line_spells b q))

-- the test of two texts tells whether they are equal
pub told_apart : (xs ys : List ℕ) (r : Bool) → r ≡ pointwise nat_eq xs ys → IsTrue r ↔ (xs ≡ ys)
told_apart xs ys r is = slice_eq-Decides Decides-eqb xs ys r is

-- the first is below all others, and they rise
pub rising-nil : {K : Type 0} (c : K → K → Ordering) → IsTrue true ↔ IsStrictlySortedBy c []
unfolding IsStrictlySortedBy
rising-nil c = (λ t. tt, λ s. refl)

pub rising-cons : {K : Type 0} (c : K → K → Ordering) (k : K) (ks : List K) (a r : Bool)
    → IsTrue a ↔ AllByRecursion (λ l. c k l ≡ Less) ks → a ≡ true → IsTrue r ↔ IsStrictlySortedBy c ks
    → IsTrue r ↔ IsStrictlySortedBy c (k ∷ ks)
unfolding IsStrictlySortedBy
rising-cons c k ks a r first is rest = (λ t. (first.0 is, rest.0 t), λ s. rest.1 s.1)

pub not_rising : {K : Type 0} (c : K → K → Ordering) (k : K) (ks : List K) (a : Bool)
    → IsTrue a ↔ AllByRecursion (λ l. c k l ≡ Less) ks → a ≡ false → IsTrue a ↔ IsStrictlySortedBy c (k ∷ ks)
unfolding IsStrictlySortedBy
not_rising c k ks a first is = (λ t. absurd (let bad : false ≡ true = sym is ∙ t in cc), λ s. first.1 s.0)

pub both_ways : (b : Bool) → b ≡ false → IsTrue b → ⊥
both_ways b is t = let bad : false ≡ true = sym is ∙ t in cc

pub no_items : {X : Type 0} (xs : List X) → length xs ≡ 0 → xs ≡ []
no_items [] none = refl
no_items (x ∷ xs) none = absurd (omega arith)

-- what holds for the first and for the others
pub all-cons : {X : Type 0} (P : X → Type 0) (x : X) (xs : List X) (r : Bool) → P x → IsTrue r ↔ AllByRecursion P xs → IsTrue r ↔ AllByRecursion P (x ∷ xs)
all-cons P x xs r first rest = (λ t. (first, rest.0 t), λ all. rest.1 all.1)

pub not_cons : {X : Type 0} (P : X → Type 0) (x : X) (xs : List X) (r : Bool) → (P x → IsTrue r) → r ≡ false → IsTrue r ↔ AllByRecursion P (x ∷ xs)
not_cons P x xs r first is = (λ t. absurd (both_ways r is t), λ all. first all.0)

-- exactly the numbers with Q are held: each held one has Q, and each with Q is held
pub exactly_held : (Q : ℕ → Type 0) (held : List ℕ) → AllByRecursion Q held → ((j : ℕ) → Q j → Contains held j) → (j : ℕ) → Contains held j ↔ Q j
exactly_held Q held all each j = (λ has. subst Q has.2 (All-from_recursion Q held all has.0 j has.1), each j)

pub all_held : (Q : ℕ → Type 0) (held : List ℕ) → ((j : ℕ) → Contains held j ↔ Q j) → AllByRecursion Q held
all_held Q held exact = recursion_from_All Q held (λ k d within. (exact (slice_index_or held k d)).0 (All-contains_itself held k d within))

-- number, time and mirror are those that the history asks for, so that the held numbers decide
pub view_row : (f : FilterValue) (h : History) (v : ViewValue) (n : ℕ) (r : Bool) → Reaches (accepted_of h) (start_of h) n → v.number ≡ n
    → v.base ≡ base_of h → base_of h ≤ n
    → v.time ≡ time_at (published_of h) n → IsMirrorOf f (changes_up_to (published_of h) n) (changes_after (published_of h) (base_of h) n) v.mirror
    → IsTrue r ↔ (IsStrictlySortedBy nat_cmp v.held
    × ((j : ℕ) → Contains v.held j ↔ ((n < j) × (accepted_of h j ≡ true)))) → IsTrue r ↔ IsView f (published_of h)
    (base_of h) (start_of h) (accepted_of h) v
view_row f h v n r reach number base below time mirror told = (
  λ t. (let both = told.0 t in record {
    base_is = base;
    below = rw number below;
    reach = rw number reach;
    time = rw number time;
    mirror = rw number mirror;
    rising = both.0;
    held = rw number both.1;
  }),
  λ view. told.1 (view.rising, rw number at view.held),
)
