-- Objects that are data, entered one by one if they are kept.
use Rattle.std.proofs.Common.{◌≡◌, List, [], ◌∷◌, ◌++◌, map, refl, ap, ◌∙◌, Bool, true, false, Option, Some, None}
use Rattle.std.specs.Prelude.{cond, if◌then◌else◌, Result, Ok, Err, IfOk}
use Rattle.std.specs.List.{AllByRecursion}
use Rattle.std.specs.List.Sorted.{IsStrictlySortedBy}
use Rattle.std.specs.Ordering.{is_eq}
use Rattle.std.specs.declared.cmp.Ordering.TheVariants.{Less}
use Rattle.std.proofs.lemmas.List.Elements.{filter-append}
use Rattle.osm_mirror.specs.Mirror.{AreRising, object_at}
use Rattle.osm_model.proofs.ContentLemmas.{same_key-only}
use Rattle.osm_model.proofs.FilterLemmas.{everything_is_kept, everything_is_left}
use Rattle.osm_model.specs.Change.{ChangeValue}
use Rattle.osm_model.specs.Content.{content_of, last_of, object_after, over_at}
use Rattle.osm_model.specs.Data.{IsLeft}
use Rattle.osm_model.specs.Filter.{AreKept, FilterValue, everything, keeps, kept, kept_object}
use Rattle.osm_model.specs.KeyOrder.{key_cmp, same_key}
use Rattle.osm_model.specs.declared.kind.Key.{Key}
use Rattle.osm_state.specs.State.{StateValue}
use Rattle.osm_follow.specs.Begin.{Begins, kept_objects}
use Rattle.osm_follow.specs.Follower.{FollowerValue}
use Rattle.osm_follow.specs.declared.begin.BeginError.{BeginError}

-- a key is below those of the objects
abbrev IsBelow : Key → List ChangeValue → Type 0
IsBelow k os = AllByRecursion (λ y. key_cmp k y ≡ Less) (map (λ (o : ChangeValue). o.key) os)

pub left_here : (os : List ChangeValue) (c : ChangeValue) (rest : List ChangeValue) → AllByRecursion IsLeft (os ++ c ∷ rest) → IsLeft c
left_here [] c rest all = all.0
left_here (o ∷ os) c rest all = left_here os c rest all.1

-- ---- those that are kept are in the same order

below_kept : (f : FilterValue) (k : Key) (os : List ChangeValue) → IsBelow k os → IsBelow k (kept_objects f os)
below_kept f k [] all = tt
below_kept f k (o ∷ os) all = by_test (below_kept f k os all.1) (keeps f o)
  where
    by_test : IsBelow k (kept_objects f os) → (b : Bool) → IsBelow k (cond b (o ∷ kept_objects f os) (kept_objects f os))
    by_test rest true = (all.0, rest)
    by_test rest false = rest

below_next : (f : FilterValue) (k : Key) (os : List ChangeValue) (c : ChangeValue) (rest : List ChangeValue)
    → IsBelow k (os ++ c ∷ rest) → IsBelow k (kept_objects f os ++ c ∷ [])
below_next f k [] c rest all = (all.0, tt)
below_next f k (o ∷ os) c rest all = by_test (below_next f k os c rest all.1) (keeps f o)
  where
    by_test : IsBelow k (kept_objects f os ++ c ∷ []) → (b : Bool) → IsBelow k (cond b (o ∷ kept_objects f os) (kept_objects f os) ++ c ∷ [])
    by_test more true = (all.0, more)
    by_test more false = more

-- one more object is above those that are kept
pub rising_next : (f : FilterValue) (os : List ChangeValue) (c : ChangeValue) (rest : List ChangeValue)
    → AreRising (os ++ c ∷ rest) → AreRising (kept_objects f os ++ c ∷ [])
unfolding IsStrictlySortedBy
rising_next f [] c rest rising = (tt, tt)
rising_next f (o ∷ os) c rest rising = by_test (rising_next f os c rest rising.1) (keeps f o)
  where
    by_test : AreRising (kept_objects f os ++ c ∷ []) → (b : Bool) → AreRising (cond b (o ∷ kept_objects f os) (kept_objects f os) ++ c ∷ [])
    by_test more true = (below_next f o.key os c rest rising.0, more)
    by_test more false = more

pub kept_next : (f : FilterValue) (os : List ChangeValue) (c : ChangeValue)
    → kept_objects f (os ++ c ∷ []) ≡ kept_objects f os ++ kept_objects f (c ∷ [])
kept_next f os c = filter-append (keeps f) os (c ∷ [])

-- ---- what a follower begins with

pub all_are_kept : (f : FilterValue) (os : List ChangeValue) → AreKept f (kept_objects f os)
all_are_kept f [] = tt
all_are_kept f (o ∷ os) = by_test (all_are_kept f os) (keeps f o) refl
  where
    by_test : AreKept f (kept_objects f os) → (b : Bool) → keeps f o ≡ b → AreKept f (cond b (o ∷ kept_objects f os) (kept_objects f os))
    by_test rest true is = (is, rest)
    by_test rest false is = rest

pub keeps_all : (f : FilterValue) (os : List ChangeValue) → AreKept f os → kept_objects f os ≡ os
keeps_all f [] each = refl
keeps_all f (o ∷ os) each =
    ap (λ (b : Bool). cond b (o ∷ kept_objects f os) (kept_objects f os)) each.0
    ∙ ap (λ (xs : List ChangeValue). o ∷ xs) (keeps_all f os each.1)

pub everything_keeps : (os : List ChangeValue) → AllByRecursion IsLeft os → AreKept everything os
everything_keeps [] left = tt
everything_keeps (o ∷ os) left = (everything_is_kept o left.0, everything_keeps os left.1)

pub begins_all : (s : StateValue) (os : List ChangeValue) (result : Result FollowerValue BeginError) → Begins everything s os result
    → IfOk result (λ f. f.mirror.objects ≡ os)
begins_all s os (Ok f) b = ap (λ (g : FollowerValue). g.mirror.objects) b.2 ∙ keeps_all everything os (everything_keeps os b.1.left)
begins_all s os (Err error) b = tt

-- a key below those of all objects is the key of none
none_below : (k : Key) (os : List ChangeValue) → IsBelow k os → object_at os k ≡ None
none_below k [] all = refl
none_below k (o ∷ os) all = ap (λ (b : Bool). if b then Some o else object_at os k) (ap is_eq all.0) ∙ none_below k os all.1

pub kept_at : (f : FilterValue) (os : List ChangeValue) → AreRising os → (k : Key)
    → object_at (kept_objects f os) k ≡ kept f (object_at os) k
unfolding IsStrictlySortedBy
kept_at f [] rising k = refl
kept_at f (o ∷ os) rising k = by_tests (kept_at f os rising.1 k) (same_key k o.key) refl (keeps f o) refl
  where
    by_tests : object_at (kept_objects f os) k ≡ kept f (object_at os) k → (b : Bool) → same_key k o.key ≡ b → (d : Bool) → keeps f o ≡ d
        → object_at (cond d (o ∷ kept_objects f os) (kept_objects f os)) k ≡ kept_object f (if b then Some o else object_at os k)
    by_tests rest true same true is = rw (same, is) refl
    by_tests rest true same false is =
        let here : k ≡ o.key = same_key-only k o.key same in
        rw (is, here) (none_below o.key (kept_objects f os) (below_kept f o.key os rising.0))
    by_tests rest false other true is = rw other rest
    by_tests rest false other false is = rest

-- the filter of all objects keeps all that changes leave
pub everything_left : (changes : List ChangeValue) (k : Key) → kept everything (content_of changes) k ≡ content_of changes k
everything_left changes k = by_last (last_of changes k)
  where
    by_last : (o : Option ChangeValue) → kept_object everything (over_at object_after None o) ≡ over_at object_after None o
    by_last None = refl
    by_last (Some c) = everything_is_left c
