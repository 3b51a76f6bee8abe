-- Which changes need no new entry.
use Rattle.std.proofs.Common.{◌≡◌, zero, suc, List, [], ◌∷◌, refl, sym, ap, subst, ◌∙◌, Bool, true, false, Some, None, Option, arith, inl, inr}
use Rattle.std.specs.List.{AllByRecursion}
use Rattle.std.specs.List.Sorted.{IsStrictlySortedBy}
use Rattle.std.specs.Ordering.{is_eq, ordering_reverse}
use Rattle.std.specs.declared.cmp.Ordering.TheVariants.{Less}
use Rattle.std.specs.Prelude.{Contains, IsSome, if◌then◌else◌}
use Rattle.std.proofs.lemmas.List.Elements.{Contains-append_left, Contains-append_right}
use Rattle.osm_model.specs.Change.{ChangeValue}
use Rattle.osm_model.specs.Content.{last_of, later_of, over, over_at, object_after}
use Rattle.osm_model.specs.Filter.{AreKept, FilterValue, keeps, kept, kept_object, left_by}
use Rattle.osm_model.proofs.FilterLemmas.{extracts_are_kept_up, kept_are_objects}
use Rattle.osm_model.proofs.ContentLemmas.{same_key-refl}
use Rattle.osm_model.specs.KeyOrder.{key_cmp, same_key}
use Rattle.osm_model.proofs.DataLemmas.{keys_total}
use Rattle.osm_model.specs.declared.kind.Key.{Key}
use Rattle.osm_mirror.specs.Mirror.{MirrorValue, NeedsMemory, NeedsNewEntry, AreRising, IsKnownEdit, IsKnownRemoval, KeepsWhatIsLeft, StaysKept, object_at}

-- the change that needs an entry is one of them
needing : (f : FilterValue) (m : MirrorValue) (changes : List ChangeValue) → (needs : NeedsMemory f m changes)
    → Contains changes needs.change
needing f m changes needs =
    let at : Contains (needs.change ∷ needs.after) needs.change = (0, omega arith, refl) in
    rw needs.is (Contains-append_right needs.before (needs.change ∷ needs.after) needs.change at)

pub removals_need_none : (f : FilterValue) (m : MirrorValue) (changes : List ChangeValue) → ((c : ChangeValue) → Contains changes c
    → IsKnownRemoval f m c) → NeedsMemory f m changes → ⊥
removals_need_none f m changes each needs =
    by_entry (each needs.change (needing f m changes needs)) needs.entry
  where
    by_entry : IsKnownRemoval f m needs.change → NeedsNewEntry f m needs.before needs.change → ⊥
    by_entry d (inl user) = let above = d.known.user in omega arith
    by_entry d (inr (inl changeset)) = let above = d.known.changeset in omega arith
    by_entry d (inr (inr object)) =
        let bad : None ≡ Some needs.change = sym d.removes ∙ object.0 in cc

-- the last change of a key is one of the changes
last_contained : (cs : List ChangeValue) (k : Key) (d : ChangeValue) → last_of cs k ≡ Some d → Contains cs d
last_contained [] k d e = absurd (let bad : None ≡ Some d = e in cc)
last_contained (c ∷ cs) k d e = by_rest (λ x f. last_contained cs k x f) (last_of cs k) refl e
  where
    by_first : (b : Bool) → (if b then Some c else None) ≡ Some d → Contains (c ∷ cs) d
    by_first true f = (let same : c ≡ d = cc in (0, omega arith, same))
    by_first false f = absurd (let bad : None ≡ Some d = f in cc)

    by_rest : ((x : ChangeValue) → last_of cs k ≡ Some x → Contains cs x) → (o : Option ChangeValue) → last_of cs k ≡ o
        → later_of (if same_key c.key k then Some c else None) o ≡ Some d → Contains (c ∷ cs) d
    by_rest rest (Some x) is f = Contains-append_right (c ∷ []) cs d (rest d (is ∙ f))
    by_rest rest None is f = by_first (same_key c.key k) f

none_is_none : IsSome {T = ChangeValue} None → ⊥
none_is_none some = let bad : false ≡ true = some in cc

-- an object that the mirror has and no change deletes is still there
still_there : (f : FilterValue) (before : Option ChangeValue) (o : Option ChangeValue) → IsSome before
    → ((d : ChangeValue) → o ≡ Some d → left_by f d ≡ Some d) → over_at (left_by f) before o ≡ None → ⊥
still_there f (Some b) None some each e = let bad : None ≡ Some b = sym e in cc
still_there f None None some each e = absurd (none_is_none some)
still_there f before (Some d) some each e = let bad : None ≡ Some d = sym e ∙ each d refl in cc

pub edits_need_none : (f : FilterValue) (m : MirrorValue) (changes : List ChangeValue) → ((c : ChangeValue) → Contains changes c
    → IsKnownEdit f m c) → NeedsMemory f m changes → ⊥
edits_need_none f m changes each needs =
    by_entry (each needs.change (needing f m changes needs)) needs.entry
  where
    of_before : (d : ChangeValue) → last_of needs.before needs.change.key ≡ Some d → left_by f d ≡ Some d
    of_before d e =
        let there : Contains changes d =
        rw needs.is (Contains-append_left needs.before (needs.change ∷ needs.after) d
        (last_contained needs.before needs.change.key d e)) in
        let edit : IsKnownEdit f m d = each d there in
        edit.edits

    by_entry : IsKnownEdit f m needs.change → NeedsNewEntry f m needs.before needs.change → ⊥
    by_entry d (inl user) = let above = d.known.user in omega arith
    by_entry d (inr (inl changeset)) = let above = d.known.changeset in omega arith
    by_entry d (inr (inr object)) =
        still_there f (object_at m.objects needs.change.key) (last_of needs.before needs.change.key) d.there of_before object.1

-- ---- what a filter keeps

-- an object that is found in a list is one of it
found_kept : (f : FilterValue) (cs : List ChangeValue) (k : Key) → AreKept f cs → kept f (object_at cs) k ≡ object_at cs k
found_kept f [] k all = refl
found_kept f (c ∷ cs) k all = by_test (same_key k c.key) (found_kept f cs k all.1)
  where
    by_test : (b : Bool) → kept f (object_at cs) k ≡ object_at cs k
        → kept_object f (if b then Some c else object_at cs k) ≡ (if b then Some c else object_at cs k)
    by_test true rest = ap (λ (b : Bool). if b then Some c else None) all.0
    by_test false rest = rest

pub keeps_what_is_left : KeepsWhatIsLeft
keeps_what_is_left f a b changes k all applied =
    applied.objects k
    ∙ (ap (λ (o : Option ChangeValue). over_at (left_by f) o (last_of changes k)) (sym (found_kept f a.objects k all))
    ∙ extracts_are_kept_up f (object_at a.objects) changes k)

-- in a list of rising keys each object is found at its own key
above_first : (c : ChangeValue) (cs : List ChangeValue) (d : ChangeValue) → AreRising (c ∷ cs) → Contains cs d → same_key d.key c.key ≡ false
unfolding IsStrictlySortedBy
above_first c [] d rising (i, below, is) = absurd (omega arith)
above_first c (e ∷ cs) d rising (zero, below, is) =
    let same : e ≡ d = is in
    let less : key_cmp c.key d.key ≡ Less = rw (← same) rising.0.0 in
    ap is_eq (keys_total.antisymm d.key c.key ∙ ap ordering_reverse less)
above_first c (e ∷ cs) d rising (suc i, below, is) = above_first c cs d (rising.0.1, rising.1.1) (i, omega arith, is)

found_at_own : (cs : List ChangeValue) (d : ChangeValue) → AreRising cs → Contains cs d → object_at cs d.key ≡ Some d
unfolding IsStrictlySortedBy
found_at_own [] d rising (i, below, is) = absurd (omega arith)
found_at_own (c ∷ cs) d rising (zero, below, is) =
    let same : c ≡ d = is in
    subst (λ x. (if same_key d.key x.key then Some x else object_at cs d.key) ≡ Some d) (sym same)
    (ap (λ (b : Bool). if b then Some d else object_at cs d.key) (same_key-refl d.key))
found_at_own (c ∷ cs) d rising (suc i, below, is) =
    let in_rest : Contains cs d = (i, omega arith, is) in
    ap (λ (b : Bool). if b then Some c else object_at cs d.key) (above_first c cs d rising in_rest)
    ∙ found_at_own cs d rising.1 in_rest

-- what holds of each object of a list holds of all
all_of : (P : ChangeValue → Type 0) (cs : List ChangeValue) → ((d : ChangeValue) → Contains cs d → P d) → AllByRecursion P cs
all_of P [] each = tt
all_of P (c ∷ cs) each =
    (each c (0, omega arith, refl), all_of P cs (λ d h. each d (Contains-append_right (c ∷ []) cs d h)))

pub stays_kept : StaysKept
stays_kept f a b changes all applied = all_of (λ (d : ChangeValue). keeps f d ≡ true) b.objects each
  where
    each : (d : ChangeValue) → Contains b.objects d → keeps f d ≡ true
    each d h =
        let found : object_at b.objects d.key ≡ Some d = found_at_own b.objects d applied.orderly.objects h in
        let is : kept_object f (over object_after (object_at a.objects) changes d.key) ≡ Some d =
        sym (keeps_what_is_left f a b changes d.key all applied) ∙ found in
        ((kept_are_objects f (over object_after (object_at a.objects) changes d.key) d).0 is).1
