-- Keys that rise by their bytes: when they do, and where a search among them ends. What holds of all filters.
use Rattle.std.proofs.Common.{◌≡◌, ℕ, zero, suc, ◌+◌, ◌<◌, List, [], ◌∷◌, length, get_or, refl, sym, ap, subst, ◌∙◌, Bool, true, false}
use Rattle.std.proofs.Common.{Ok, Err, Result, None, Some, Option, arith, inl, inr, true≢false}
use Rattle.std.specs.Prelude.{◌↔◌, ◌&&◌, if◌then◌else◌}
use Rattle.std.specs.Bool.{Decides, IsTrue}
use Rattle.std.specs.Cmp.{booleans_Decides, first_so, second_so}
use Rattle.std.specs.Cmp.Lexicographic.{nat_list_cmp_total, pointwise, pointwise_decides}
use Rattle.std.specs.List.{AllAdjacentBelow, AllByRecursion, IsAllAdjacentAnswer}
use Rattle.std.specs.List.Sorted.{IsBinarySearchResult, IsNonDecreasingBy, IsSearchInRange, IsStrictlySortedBy}
use Rattle.std.specs.Ordering.{is_eq, is_lt, ordering_index, ordering_reverse}
use Rattle.std.specs.Result.{is_ok}
use Rattle.std.specs.Str.{bytes_eq}
use Rattle.std.specs.declared.cmp.Ordering.{Ordering}
use Rattle.std.specs.declared.cmp.Ordering.TheVariants.{Less, Equal, Greater}
use Rattle.std.proofs.Math.Bool.{beq}
use Rattle.std.proofs.lemmas.Bool.{cases_lt}
use Rattle.std.proofs.lemmas.List.Folds.{list_any_at, list_any_none}
use Rattle.std.proofs.lemmas.List.Sorted.{searchable_from_sorted}
use Rattle.std.proofs.lemmas.Map.Text.{is_eq-slice_cmp}
use Rattle.std.proofs.lemmas.Slice.Eq.{bytes_eq-Decides}
use Rattle.osm_model.proofs.DataLemmas.{less_of}
use Rattle.osm_model.specs.Change.{ChangeValue}
use Rattle.osm_model.specs.Filter.{AreRising, FilterValue, IsFilter, everything, is_among, keeps, keeps_object, kept_object, left_by}
use Rattle.osm_model.specs.contracts.filter.FilterPartialEq.TheImpl.{ghosts as equality}
use Rattle.osm_model.specs.FilterLaws.{DeletionsAreDropped, EverythingIsKept, EverythingIsLeft, ExtractsAreEnough}
use Rattle.osm_model.specs.FilterLaws.{ExtractsAreKeptUp, FiltersAreTold, KeptAreObjects}
use Rattle.osm_model.specs.Text.{bytes_cmp}
use Rattle.osm_model.specs.Content.{last_of, object_after, object_as, over_at}
use Rattle.osm_model.specs.declared.change.What.{What}
use Rattle.osm_model.specs.declared.change.What.TheVariants as whats
use Rattle.osm_model.specs.declared.kind.Kind.{Kind}
use Rattle.osm_model.specs.declared.kind.Kind.TheVariants.{Node, Way, Relation}

pub no_keys : IsFilter everything
unfolding IsStrictlySortedBy
no_keys = record { kind = refl; few = omega arith; texts = tt; rising = tt }

-- ---- keys rise exactly if each is above the one before it

above_both : (x y : List ℕ) (ks : List (List ℕ)) → bytes_cmp x y ≡ Less → AllByRecursion (λ k. bytes_cmp y k ≡ Less) ks
    → AllByRecursion (λ k. bytes_cmp x k ≡ Less) ks
above_both x y [] less all = tt
above_both x y (k ∷ ks) less all = (nat_list_cmp_total.trans x y k less all.0, above_both x y ks less all.1)

rising_of : (ks : List (List ℕ)) → AllAdjacentBelow (λ x y. true ≡ is_lt (bytes_cmp x y)) ks (length ks) → AreRising ks
unfolding IsStrictlySortedBy
rising_of [] h = tt
rising_of (x ∷ []) h = (tt, tt)
rising_of (x ∷ y ∷ ks) h =
    let first : bytes_cmp x y ≡ Less = less_of (bytes_cmp x y) (sym (h zero x (omega arith))) in
    let rest : AreRising (y ∷ ks) = rising_of (y ∷ ks) (λ k d below.
    let on : suc k + 1 ≡ suc (k + 1) = omega arith in
    subst (λ n. true ≡ is_lt (bytes_cmp (get_or (y ∷ ks) k d) (get_or (x ∷ y ∷ ks) n d))) on (h (suc k) d (omega arith))) in
    ((first, above_both x y ks first rest.0), rest)

all_at : {X : Type 0} (P : X → Type 0) (xs : List X) (i : ℕ) (d : X) → AllByRecursion P xs → i < length xs → P (get_or xs i d)
all_at P [] i d all below = absurd (omega arith)
all_at P (x ∷ xs) zero d all below = all.0
all_at P (x ∷ xs) (suc i) d all below = all_at P xs i d all.1 (omega arith)

less_at : (ks : List (List ℕ)) (i j : ℕ) (d : List ℕ) → AreRising ks → i < j → j < length ks → bytes_cmp (get_or ks i d) (get_or ks j d) ≡ Less
unfolding IsStrictlySortedBy
less_at [] i j d rising apart below = absurd (omega arith)
less_at (x ∷ ks) i zero d rising apart below = absurd (omega arith)
less_at (x ∷ ks) zero (suc j) d rising apart below = all_at (λ k. bytes_cmp x k ≡ Less) ks j d rising.0 (omega arith)
less_at (x ∷ ks) (suc i) (suc j) d rising apart below = less_at ks i j d rising.1 (omega arith) (omega arith)

pub rising_answer : (ks : List (List ℕ)) (r : Bool) → IsAllAdjacentAnswer (λ x y b. b ≡ is_lt (bytes_cmp x y)) ks r → IsTrue r ↔ AreRising ks
rising_answer ks true h = (λ t. rising_of ks h, λ rising. refl)
rising_answer ks false (k, below, fails) = (
  λ t. absurd (true≢false (sym t)),
  λ rising. absurd (true≢false (sym (fails [] ∙ ap is_lt (less_at ks k (k + 1) [] rising (omega arith) below)))),
)

-- ---- a search ends at the text, or no key is the text

not_below : (x y : List ℕ) → bytes_cmp x y ≡ Less → is_lt (bytes_cmp y x) ≡ false
not_below x y less = ap is_lt (nat_list_cmp_total.antisymm y x ∙ ap ordering_reverse less)

rises : (ks : List (List ℕ)) (text : List ℕ) → AreRising ks → IsNonDecreasingBy (λ key. ordering_index (bytes_cmp key text)) ks
rises ks text rising = searchable_from_sorted nat_list_cmp_total (λ key. key) ks text
    (λ k d low below. not_below (get_or ks k d) (get_or ks (k + 1) d) (less_at ks k (k + 1) d rising (omega arith) below))

same_at : (x y : List ℕ) (o : Ordering) → bytes_cmp x y ≡ o → bytes_eq x y ≡ is_eq o
same_at x y o e = sym (is_eq-slice_cmp x y) ∙ ap is_eq e

pub found_among : (ks : List (List ℕ)) (text : List ℕ) (r : Result ℕ ℕ) → AreRising ks → IsSearchInRange r (length ks)
    → IsBinarySearchResult (λ key. bytes_cmp key text) ks r → is_ok r ≡ is_among ks text
found_among ks text (Ok i) rising below equal =
    sym (list_any_at (λ key. bytes_eq key text) ks i [] below (same_at (get_or ks i []) text Equal (equal [])))
found_among ks text (Err i) rising below parted =
    let ends = parted (rises ks text rising) in
    sym (list_any_none (λ key. bytes_eq key text) ks (λ k d in_range. elim (cases_lt k i) [
      | inl before ↦ same_at (get_or ks k d) text Less (ends.0 k d (omega arith) before)
      | inr after ↦ same_at (get_or ks k d) text Greater (ends.1 k d after in_range)
    ]))

-- ---- laws of filters

keys_told : (xs ys : List (List ℕ)) → Decides (pointwise bytes_eq xs ys) (xs ≡ ys)
keys_told xs ys = pointwise_decides bytes_eq-Decides xs ys

equal_itself : (f : FilterValue) → equality.eq f f ≡ true
equal_itself f = λ i. (booleans_Decides f.nodes f.nodes).1 refl i
    && ((booleans_Decides f.ways f.ways).1 refl i && ((booleans_Decides f.relations f.relations).1 refl i && (keys_told f.keys f.keys).1 refl i))

pub filters_are_told : FiltersAreTold
filters_are_told a b = (told, λ e. subst (λ f. equality.eq a f ≡ true) e (equal_itself a))
  where
    told : equality.eq a b ≡ true → a ≡ b
    told h =
        let after_nodes = second_so (beq a.nodes b.nodes) _ h in
        let after_ways = second_so (beq a.ways b.ways) _ after_nodes in
        let nodes = (booleans_Decides a.nodes b.nodes).0 (first_so (beq a.nodes b.nodes) _ h) in
        let ways = (booleans_Decides a.ways b.ways).0 (first_so (beq a.ways b.ways) _ after_nodes) in
        let relations = (booleans_Decides a.relations b.relations).0 (first_so (beq a.relations b.relations) _ after_ways) in
        let keys = (keys_told a.keys b.keys).0 (second_so (beq a.relations b.relations) _ after_ways) in
        λ i. record { nodes = nodes i; ways = ways i; relations = relations i; keys = keys i }

by_kind : (kind : Kind) (o : Option ChangeValue) (c : ChangeValue) → o ≡ Some c → c.key.kind ≡ kind → keeps_object everything o ≡ true
by_kind Node o c e k = rw (e, k) refl
by_kind Way o c e k = rw (e, k) refl
by_kind Relation o c e k = rw (e, k) refl

pub everything_is_kept : EverythingIsKept
unfolding keeps
everything_is_kept c e = by_kind c.key.kind (object_after c) c e refl

pub deletions_are_dropped : DeletionsAreDropped
unfolding keeps
deletions_are_dropped f c e = ap (keeps_object f) e

-- ---- what is kept

kept_if : (b : Bool) (c d : ChangeValue) → (if b then Some c else None) ≡ Some d → (Some c ≡ Some d) × (b ≡ true)
kept_if true c d e = (e, refl)
kept_if false c d e = absurd (let bad : None ≡ Some d = e in cc)

pub kept_are_objects : KeptAreObjects
kept_are_objects f None c = (λ e. absurd (let bad : None ≡ Some c = e in cc), λ h. absurd (let bad : None ≡ Some c = h.0 in cc))
kept_are_objects f (Some d) c = (
  λ e. (let both = kept_if (keeps f d) d c e in let same : d ≡ c = cc in (both.0, rw (← same) both.1)),
  λ h. (let same : d ≡ c = cc in rw (same, h.1) refl),
)

-- an object is left as itself
left_as : (c d : ChangeValue) (w : What) → object_as c w ≡ Some d → c ≡ d
left_as c d whats.Deleted e = absurd (let bad : None ≡ Some d = e in cc)
left_as c d (whats.Node lon lat tags) e = cc
left_as c d (whats.Way refs tags) e = cc
left_as c d (whats.Relation members tags) e = cc

pub everything_is_left : EverythingIsLeft
everything_is_left c = by_object (object_after c) refl
  where
    by_object : (o : Option ChangeValue) → object_after c ≡ o → kept_object everything o ≡ o
    by_object None e = refl
    by_object (Some d) e =
        let same : c ≡ d = left_as c d c.what e in
        let is : keeps everything d ≡ true = everything_is_kept d
        (subst (λ x. object_after x ≡ Some x) same (e ∙ ap (λ (x : ChangeValue). Some x) (sym same))) in
        rw is refl

pub extracts_are_kept_up : ExtractsAreKeptUp
extracts_are_kept_up f objects changes k = by_last (last_of changes k)
  where
    by_last : (o : Option ChangeValue) → over_at (left_by f) (kept_object f (objects k)) o ≡ kept_object f (over_at object_after (objects k) o)
    by_last None = refl
    by_last (Some c) = refl

kept_twice : (f : FilterValue) (o : Option ChangeValue) → kept_object f (kept_object f o) ≡ kept_object f o
kept_twice f None = refl
kept_twice f (Some c) = by_test (keeps f c) refl
  where
    by_test : (b : Bool) → keeps f c ≡ b → kept_object f (if b then Some c else None) ≡ (if b then Some c else None)
    by_test true e = rw e refl
    by_test false e = refl

pub extracts_are_enough : ExtractsAreEnough
extracts_are_enough f objects changes k = by_last (last_of changes k)
  where
    by_last : (o : Option ChangeValue) → kept_object f (over_at object_after (kept_object f (objects k)) o)
        ≡ kept_object f (over_at object_after (objects k) o)
    by_last None = kept_twice f (objects k)
    by_last (Some c) = refl

-- ---- what a change leaves, by whether the filter keeps it

kept_as : (f : FilterValue) (c : ChangeValue) (w : What) → keeps_object f (object_as c w) ≡ true → object_as c w ≡ Some c
kept_as f c whats.Deleted e = absurd (true≢false (sym e))
kept_as f c (whats.Node lon lat tags) e = refl
kept_as f c (whats.Way refs tags) e = refl
kept_as f c (whats.Relation members tags) e = refl

-- a change that the filter keeps is no deletion
pub object_after-kept : (f : FilterValue) (c : ChangeValue) → keeps f c ≡ true → object_after c ≡ Some c
unfolding keeps
object_after-kept f c e = kept_as f c c.what e

-- it leaves itself
pub left_by-kept : (f : FilterValue) (c : ChangeValue) → keeps f c ≡ true → left_by f c ≡ Some c
left_by-kept f c e = ap (kept_object f) (object_after-kept f c e) ∙ ap (λ (b : Bool). if b then Some c else None) e

-- any other leaves nothing
pub left_by-dropped : (f : FilterValue) (c : ChangeValue) → keeps f c ≡ false → left_by f c ≡ None
left_by-dropped f c e = by_object (object_after c) refl
  where
    by_object : (o : Option ChangeValue) → object_after c ≡ o → kept_object f o ≡ None
    by_object None is = refl
    by_object (Some d) is = let same : c ≡ d = left_as c d c.what is in ap (λ (b : Bool). if b then Some d else None) (subst (λ x. keeps f x ≡ false) same e)
