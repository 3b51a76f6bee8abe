-- The last change of each object under a filter, number after number.
use Rattle.std.proofs.Common.{◌≡◌, List, [], ◌∷◌, ◌++◌, map, refl, sym, ap, ◌∙◌, Bool, true, false, Option, Some, None}
use Rattle.std.specs.Prelude.{if◌then◌else◌}
use Rattle.std.specs.List.{AllByRecursion}
use Rattle.std.specs.List.Sorted.{IsStrictlySortedBy}
use Rattle.std.specs.Option.{option_map}
use Rattle.std.specs.Ordering.{is_eq}
use Rattle.std.specs.declared.cmp.Ordering.TheVariants.{Less}
use Rattle.osm_model.specs.Change.{ChangeValue}
use Rattle.osm_model.specs.Content.{last_of, later_of}
use Rattle.osm_model.specs.Filter.{FilterValue, keeps}
use Rattle.osm_model.specs.KeyOrder.{key_cmp, same_key}
use Rattle.osm_model.specs.declared.kind.Key.{Key}
use Rattle.osm_model.proofs.ContentLemmas.{last_of-append, later_of-none, same_key-only, same_key-refl}
use Rattle.osm_mirror.specs.Mirror.{AreRising, object_at}
use Rattle.osm_publisher.specs.Published.{PublishedValue}
use Rattle.osm_range.specs.Handed.{HoldsUnder, Takes, deletion_by, taken_at, under}
use Rattle.osm_range.specs.Ranges.{changes_in}
use Rattle.osm_range.proofs.TakingLemmas.{changes_in-more}

-- ---- a change under a filter

pub under-kept : (f : FilterValue) (c : ChangeValue) → keeps f c ≡ true → under f c ≡ c
under-kept f c e = rw e refl

pub under-dropped : (f : FilterValue) (c : ChangeValue) → keeps f c ≡ false → under f c ≡ deletion_by c
under-dropped f c e = rw e refl

pub under_key : (f : FilterValue) (c : ChangeValue) → (under f c).key ≡ c.key
under_key f c = by_test (keeps f c)
  where
    by_test : (b : Bool) → (let d : ChangeValue = if b then c else deletion_by c in d.key ≡ c.key)
    by_test true = refl
    by_test false = refl

-- ---- changes taken one after the other

pub takes_none : (f : FilterValue) (old : List ChangeValue) → Takes f old [] old
takes_none f old = λ k. refl

taken_after : (f : FilterValue) (before x y : Option ChangeValue) → taken_at f (taken_at f before x) y ≡ taken_at f before (later_of x y)
taken_after f before x None = refl
taken_after f before x (Some c) = refl

pub takes_more : (f : FilterValue) (a b c : List ChangeValue) (xs ys : List ChangeValue) → Takes f a xs b → Takes f b ys c → Takes f a (xs ++ ys) c
takes_more f a b c xs ys first next = λ k.
    next k ∙ (ap (λ (o : Option ChangeValue). taken_at f o (last_of ys k)) (first k)
    ∙ (taken_after f (object_at a k) (last_of xs k) (last_of ys k)
    ∙ ap (λ (o : Option ChangeValue). taken_at f (object_at a k) o) (sym (last_of-append xs ys k))))

one_taken : (f : FilterValue) (b : Bool) (before : Option ChangeValue) (c : ChangeValue)
    → (if b then Some (under f c) else before) ≡ taken_at f before (if b then Some c else None)
one_taken f true before c = refl
one_taken f false before c = refl

pub takes_one : (f : FilterValue) (old new : List ChangeValue) (c d : ChangeValue) → d ≡ under f c
    → ((k : Key) → object_at new k ≡ (if same_key d.key k then Some d else object_at old k)) → Takes f old (c ∷ []) new
takes_one f old new c d is put = λ k.
    put k
    ∙ (ap (λ (x : ChangeValue). if same_key x.key k then Some x else object_at old k) is
    ∙ (ap (λ (q : Key). if same_key q k then Some (under f c) else object_at old k) (under_key f c)
    ∙ one_taken f (same_key c.key k) (object_at old k) c))

-- ---- what sequences come to

pub joined_taken : (f : FilterValue) (x y : Option ChangeValue) → taken_at f (option_map (under f) x) y ≡ option_map (under f) (later_of x y)
joined_taken f x None = refl
joined_taken f x (Some c) = refl

-- ---- a list by rising keys has one change of a key

none_above : (cs : List ChangeValue) (k : Key) → AllByRecursion (λ q. key_cmp k q ≡ Less) (map (λ (c : ChangeValue). c.key) cs) → object_at cs k ≡ None
none_above [] k all = refl
none_above (c ∷ cs) k all =
    ap (λ (b : Bool). if b then Some c else object_at cs k) (ap is_eq all.0) ∙ none_above cs k all.1

pub last_of-rising : (cs : List ChangeValue) (k : Key) → AreRising cs → last_of cs k ≡ object_at cs k
unfolding IsStrictlySortedBy
last_of-rising [] k rising = refl
last_of-rising (c ∷ cs) k rising = ap (λ (o : Option ChangeValue). later_of (if same_key c.key k then Some c else None) o)
    (last_of-rising cs k rising.1) ∙ by_key (same_key k c.key) refl
  where
    goal_is : Bool → Type 0
    goal_is b = later_of (if same_key c.key k then Some c else None) (object_at cs k) ≡ (if b then Some c else object_at cs k)

    by_other : (b : Bool) → same_key c.key k ≡ b → same_key k c.key ≡ false
        → later_of (if b then Some c else None) (object_at cs k) ≡ object_at cs k
    by_other true e not = absurd (let same : c.key ≡ k = same_key-only c.key k e in
        let bad : true ≡ false = sym (same_key-refl k) ∙ (ap (λ (q : Key). same_key k q) (sym same) ∙ not) in cc)
    by_other false e not = later_of-none (object_at cs k)

    by_key : (b : Bool) → same_key k c.key ≡ b → goal_is b
    by_key true e =
        let same : k ≡ c.key = same_key-only k c.key e in
        let none : object_at cs k ≡ None = ap (λ (q : Key). object_at cs q) same ∙ none_above cs c.key rising.0 in
        let first : same_key c.key k ≡ true = ap (λ (q : Key). same_key c.key q) same ∙ same_key-refl c.key in
        rw (none, first) refl
    by_key false e = ap (λ (b : Bool). later_of (if b then Some c else None) (object_at cs k)) refl ∙ by_other (same_key c.key k) refl e

-- ---- the changes of one more sequence

pub holds_more : (f : FilterValue) (old new : List ChangeValue) (ps : List PublishedValue) (p : PublishedValue) → Takes f old p.changes new
    → HoldsUnder f ps old → HoldsUnder f (ps ++ p ∷ []) new
holds_more f old new ps p taken held = λ k.
    taken k
    ∙ (ap (λ (o : Option ChangeValue). taken_at f o (last_of p.changes k)) (held k)
    ∙ (joined_taken f (last_of (changes_in ps) k) (last_of p.changes k)
    ∙ ap (option_map (under f)) (sym (ap (λ (cs : List ChangeValue). last_of cs k) (changes_in-more ps p) ∙ last_of-append (changes_in ps) p.changes k))))
