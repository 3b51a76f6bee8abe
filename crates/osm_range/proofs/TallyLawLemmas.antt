-- Changes have one list of rows, which counts each change once, and rows add up.
use Rattle.std.proofs.Common.{
  ◌≡◌,
  ℕ,
  ◌+◌,
  List,
  [],
  ◌∷◌,
  ◌++◌,
  length,
  filter,
  map,
  refl,
  ap,
  sym,
  subst,
  ◌∙◌,
  arith,
  Bool,
  true,
  false,
  not,
  ◌&&◌,
  Some,
  None,
  T,
}
use Rattle.std.specs.Prelude.{◌==◌, if◌then◌else◌, IsSome, unwrap_or, cond}
use Rattle.std.specs.BTreeMap.{is_at}
use Rattle.std.specs.Cmp.{IsTotalOrder}
use Rattle.std.specs.FinMap.Entries.{below_all, find, is_sorted, same_entries}
use Rattle.std.specs.List.{All, AllByRecursion, sum}
use Rattle.std.specs.List.Sorted.{IsStrictlySortedBy}
use Rattle.std.specs.Map.{keys_of, lookup}
use Rattle.std.specs.Ordering.{is_eq}
use Rattle.std.specs.declared.cmp.Ordering.TheVariants.{Less}
use Rattle.std.proofs.lemmas.Cmp.{nat_cmp_total, on_total, then_total, tied_itself}
use Rattle.std.proofs.lemmas.List.{length-append}
use Rattle.std.proofs.lemmas.List.Elements.{All-head, All-tail, filter-append}
use Rattle.std.proofs.lemmas.List.Sums.{sum_by-cons}
use Rattle.osm_model.specs.Change.{ChangeValue}
use Rattle.osm_range.proofs.CombinationLemmas.{one_combination, same_combination-only}
use Rattle.osm_range.specs.Columns.{Combination, combination_cmp, combination_of, same_combination}
use Rattle.osm_range.specs.TallyLaws.{AddUp, AreTheOnly, CountAll, changes_counted, counted_at}
use Rattle.osm_range.specs.Steps.Counting.{counted_some, one_if}
use Rattle.osm_range.specs.Tally.{AreRows, IsRow, Row, changes_of, counted, is_created, is_deleted, is_modified}
use Rattle.osm_range.specs.declared.columns.Columns.{Columns}
use Rattle.osm_range.specs.declared.counted.Counted.{Counted}

combinations_total : IsTotalOrder combination_cmp
combinations_total =
    then_total (then_total (then_total (on_total (λ (k : Combination). k.0) nat_cmp_total) (on_total (λ (k : Combination). k.1) nat_cmp_total))
    (on_total (λ (k : Combination). k.2) nat_cmp_total)) (on_total (λ (k : Combination). k.3) nat_cmp_total)

-- a combination without changes has no row
no_row : (cs : List ChangeValue) → ((cs ≡ [] → ⊥) → ⊥) → None ≡ counted_some cs
no_row [] none = refl
no_row (c ∷ cs) none = absurd (none (λ e. cc))

some_counted : (cs : List ChangeValue) (row : Counted) → (cs ≡ [] → ⊥) → row ≡ counted cs → Some row ≡ counted_some cs
some_counted [] row some is = absurd (some refl)
some_counted (c ∷ cs) row some is = ap Some is

-- the row that is found at a combination
found : (columns : Columns) (changes : List ChangeValue) (k : Combination) (rows : List Row) → All (IsRow columns changes) rows
    → (lookup (is_at (combination_cmp k)) rows ≡ None → (changes_of columns changes k ≡ [] → ⊥) → ⊥)
    → lookup (is_at (combination_cmp k)) rows ≡ counted_some (changes_of columns changes k)
found columns changes k [] each none = no_row (changes_of columns changes k) (none refl)
found columns changes k (row ∷ rows) each none =
    by_test (same_combination k row.0) refl none (found columns changes k rows (All-tail (IsRow columns changes) row rows each))
  where
    by_test : (b : Bool) → same_combination k row.0 ≡ b
        → (cond b (Some row.1) (lookup (is_at (combination_cmp k)) rows) ≡ None → (changes_of columns changes k ≡ [] → ⊥) → ⊥)
        → ((lookup (is_at (combination_cmp k)) rows ≡ None → (changes_of columns changes k ≡ [] → ⊥) → ⊥)
        → lookup (is_at (combination_cmp k)) rows ≡ counted_some (changes_of columns changes k))
        → cond b (Some row.1) (lookup (is_at (combination_cmp k)) rows) ≡ counted_some (changes_of columns changes k)
    by_test true e none later =
        let same : row.0 ≡ k = sym (same_combination-only k row.0 e) in
        let head : IsRow columns changes row = All-head (IsRow columns changes) row rows each in
        subst (λ q. Some row.1 ≡ counted_some (changes_of columns changes q)) same
        (some_counted (changes_of columns changes row.0) row.1 head.some head.counts)
    by_test false e none later = later none

lookup_is : (columns : Columns) (changes : List ChangeValue) (rows : List Row) (k : Combination) → AreRows columns changes rows
    → lookup (is_at (combination_cmp k)) rows ≡ counted_some (changes_of columns changes k)
lookup_is columns changes rows k are =
    found columns changes k rows are.each (λ none some. absurd (let there : false ≡ true = subst IsSome none (are.all k some) in cc))

found_as : (k : Combination) (rows : List Row) → find combination_cmp k rows ≡ lookup (is_at (combination_cmp k)) rows
found_as k [] = refl
found_as k (row ∷ rows) = ap (cond (same_combination k row.0) (Some row.1)) (found_as k rows)

all_below : (k : Combination) (rows : List Row) → AllByRecursion (λ j. combination_cmp k j ≡ Less) (keys_of rows) → below_all combination_cmp k rows ≡ true
all_below k [] below = refl
all_below k (row ∷ rows) below = rw (below.0, all_below k rows below.1) refl

sorted_as : (rows : List Row) → IsStrictlySortedBy combination_cmp (keys_of rows) → is_sorted combination_cmp rows ≡ true
unfolding IsStrictlySortedBy
sorted_as [] rising = refl
sorted_as (row ∷ rows) rising = rw (all_below row.0 rows rising.0, sorted_as rows rising.1) refl

pub are_the_only : AreTheOnly
are_the_only columns changes a b p q =
    same_entries combination_cmp combinations_total one_combination a b (subst T (sym (sorted_as a p.rising)) tt) (subst T (sym (sorted_as b q.rising)) tt)
    (λ k. found_as k a ∙ (lookup_is columns changes a k p ∙ (sym (lookup_is columns changes b k q) ∙ sym (found_as k b))))

-- ---- rows add up

both : {X : Type 0} (p q : X → Bool) (xs ys : List X)
    → length (filter p (filter q (xs ++ ys))) ≡ length (filter p (filter q xs)) + length (filter p (filter q ys))
both p q xs ys =
    ap (λ zs. length (filter p zs)) (filter-append q xs ys)
    ∙ (ap length (filter-append p (filter q xs) (filter q ys)) ∙ length-append (filter p (filter q xs)) (filter p (filter q ys)))

counted_some_or : (cs : List ChangeValue) → unwrap_or (counted_some cs) (counted []) ≡ counted cs
counted_some_or [] = refl
counted_some_or (c ∷ cs) = refl

-- what rows count at a combination is what is counted of its changes
counted_at_is : (columns : Columns) (changes : List ChangeValue) (rows : List Row) (k : Combination) → AreRows columns changes rows
    → counted_at rows k ≡ counted (changes_of columns changes k)
counted_at_is columns changes rows k are =
    ap (λ o. unwrap_or o (counted [])) (lookup_is columns changes rows k are) ∙ counted_some_or (changes_of columns changes k)

pub add_up : AddUp
add_up columns one other first second all p q r k =
    rw (counted_at_is columns one first k p, counted_at_is columns other second k q, counted_at_is columns (one ++ other) all k r) (record {
      created = both is_created (λ c. same_combination (combination_of columns c) k) one other;
      modified = both is_modified (λ c. same_combination (combination_of columns c) k) one other;
      deleted = both is_deleted (λ c. same_combination (combination_of columns c) k) one other;
    })

-- ---- rows count each change once

-- each change is created, modified or deleted
each_once : (cs : List ChangeValue) → length (filter is_created cs) + length (filter is_modified cs) + length (filter is_deleted cs) ≡ length cs
each_once [] = refl
each_once (c ∷ cs) = by_tests (is_deleted c) (c.meta.version == 1) (each_once cs)
  where
    by_tests : (d v : Bool) → length (filter is_created cs) + length (filter is_modified cs) + length (filter is_deleted cs) ≡ length cs
        → length (if not d && v then c ∷ filter is_created cs else filter is_created cs)
        + length (if not d && not v then c ∷ filter is_modified cs else filter is_modified cs)
        + length (if d then c ∷ filter is_deleted cs else filter is_deleted cs) ≡ length (c ∷ cs)
    by_tests true true rest = omega arith
    by_tests true false rest = omega arith
    by_tests false true rest = omega arith
    by_tests false false rest = omega arith

-- how many of the changes have the combination of one of the rows, added row by row
abbrev in_rows : Columns → List ChangeValue → List Row → ℕ
in_rows columns cs [] = 0
in_rows columns cs (row ∷ rows) = length (changes_of columns cs row.0) + in_rows columns cs rows

sum_is : (columns : Columns) (changes : List ChangeValue) (rows : List Row) → All (IsRow columns changes) rows
    → sum (map changes_counted rows) ≡ in_rows columns changes rows
sum_is columns changes [] each = refl
sum_is columns changes (row ∷ rows) each =
    let head : IsRow columns changes row = All-head (IsRow columns changes) row rows each in
    let first : changes_counted row ≡ length (changes_of columns changes row.0) =
    ap (λ (n : Counted). n.created + n.modified + n.deleted) head.counts ∙ each_once (changes_of columns changes row.0) in
    let rest = sum_is columns changes rows (All-tail (IsRow columns changes) row rows each) in
    sum_by-cons (λ n. n) (changes_counted row) (map changes_counted rows)
    ∙ (ap (λ n. n + sum (map changes_counted rows)) first ∙ ap (λ n. length (changes_of columns changes row.0) + n) rest)

-- how many rows have a combination
abbrev rows_at : Combination → List Row → ℕ
rows_at k [] = 0
rows_at k (row ∷ rows) = one_if (same_combination k row.0) + rows_at k rows

more : (columns : Columns) (c : ChangeValue) (cs : List ChangeValue) (rows : List Row)
    → in_rows columns (c ∷ cs) rows ≡ rows_at (combination_of columns c) rows + in_rows columns cs rows
more columns c cs [] = refl
more columns c cs (row ∷ rows) = by_test (same_combination (combination_of columns c) row.0) (more columns c cs rows)
  where
    by_test : (b : Bool) → in_rows columns (c ∷ cs) rows ≡ rows_at (combination_of columns c) rows + in_rows columns cs rows
        → length (if b then c ∷ changes_of columns cs row.0 else changes_of columns cs row.0) + in_rows columns (c ∷ cs) rows
        ≡ one_if b + rows_at (combination_of columns c) rows + (length (changes_of columns cs row.0) + in_rows columns cs rows)
    by_test true rest = omega (arith, rest)
    by_test false rest = omega (arith, rest)

-- a combination of a row is that of no later one
none_later : (k : Combination) (rows : List Row) → AllByRecursion (λ j. combination_cmp k j ≡ Less) (keys_of rows) → rows_at k rows ≡ 0
none_later k [] below = refl
none_later k (row ∷ rows) below = let rest = none_later k rows below.1 in rw (ap is_eq below.0) (omega (arith, rest))

once : (k : Combination) (rows : List Row) → IsStrictlySortedBy combination_cmp (keys_of rows)
    → IsSome (lookup (is_at (combination_cmp k)) rows) → rows_at k rows ≡ 1
unfolding IsStrictlySortedBy
once k [] rising there = absurd (let bad : false ≡ true = there in cc)
once k (row ∷ rows) rising there = by_test (same_combination k row.0) refl there (once k rows rising.1)
  where
    by_test : (b : Bool) → same_combination k row.0 ≡ b → IsSome (cond b (Some row.1) (lookup (is_at (combination_cmp k)) rows))
        → (IsSome (lookup (is_at (combination_cmp k)) rows) → rows_at k rows ≡ 1) → one_if b + rows_at k rows ≡ 1
    by_test true e there later =
        let none : rows_at k rows ≡ 0 = subst (λ q. rows_at q rows ≡ 0) (sym (same_combination-only k row.0 e)) (none_later row.0 rows rising.0) in
        omega (arith, none)
    by_test false e there later = let one = later there in omega (arith, one)

same_itself : (k : Combination) → same_combination k k ≡ true
same_itself k = ap is_eq (tied_itself combinations_total k)

-- if each combination of the changes has one row, the rows have each change once
all_in_rows : (columns : Columns) (cs : List ChangeValue) (rows : List Row)
    → ((k : Combination) → (changes_of columns cs k ≡ [] → ⊥) → rows_at k rows ≡ 1) → in_rows columns cs rows ≡ length cs
all_in_rows columns [] rows each = none rows
  where
    none : (rs : List Row) → in_rows columns [] rs ≡ 0
    none [] = refl
    none (r ∷ rs) = let rest = none rs in omega (arith, rest)
all_in_rows columns (c ∷ cs) rows each =
    let first : rows_at (combination_of columns c) rows ≡ 1 = each (combination_of columns c) here in
    let rest = all_in_rows columns cs rows (λ k some. each k (later k some)) in
    more columns c cs rows ∙ omega (arith, first, rest)
  where
    here : changes_of columns (c ∷ cs) (combination_of columns c) ≡ [] → ⊥
    here = rw (same_itself (combination_of columns c)) (λ e. cc)

    later : (k : Combination) → (changes_of columns cs k ≡ [] → ⊥) → changes_of columns (c ∷ cs) k ≡ [] → ⊥
    later k some = by_test (same_combination (combination_of columns c) k)
      where
        by_test : (b : Bool) → (if b then c ∷ changes_of columns cs k else changes_of columns cs k) ≡ [] → ⊥
        by_test true e = cc
        by_test false e = some e

pub count_all : CountAll
count_all columns changes rows are =
    sum_is columns changes rows are.each ∙ all_in_rows columns changes rows (λ k some. once k rows are.rising (are.all k some))
