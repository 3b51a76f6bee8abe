-- One change more.
use Rattle.std.proofs.Common.{
  ◌≡◌,
  ℕ,
  ◌+◌,
  ◌<◌,
  ◌≤◌,
  ◌^◌,
  List,
  [],
  ◌∷◌,
  ◌++◌,
  length,
  suc,
  filter,
  map,
  refl,
  ap,
  sym,
  ◌∙◌,
  arith,
  subst,
  Bool,
  true,
  false,
  not,
  ◌&&◌,
  ◌||◌,
  Some,
  None,
  Option,
  append-nil,
}
use Rattle.std.specs.Prelude.{if◌then◌else◌, ◌==◌, unwrap_or}
use Rattle.std.specs.Cmp.{tied_then, unsigned_tied}
use Rattle.std.specs.BTreeMap.{get, is_at}
use Rattle.std.specs.Map.{lookup}
use Rattle.std.specs.BTreeSet.{contains}
use Rattle.std.specs.List.{list_any}
use Rattle.std.specs.Ordering.{is_eq, nat_cmp}
use Rattle.std.proofs.lemmas.List.{length-append, length-map, map-append}
use Rattle.std.proofs.lemmas.List.Elements.{filter-append}
use Rattle.std.proofs.lemmas.List.Folds.{list_any-append}
use Rattle.std.proofs.lemmas.List.Sums.{count_by-le-length, length-filter}
use Rattle.std.proofs.lemmas.Bool.{eq-eqb, eqb-true}
use Rattle.osm_model.specs.Change.{ChangeValue}
use Rattle.osm_range.proofs.CombinationLemmas.{same_combination-only}
use Rattle.osm_range.specs.Columns.{Combination, combination_cmp, combination_of, number_in, same_combination}
use Rattle.osm_range.specs.Tally.{changes_of, counted, different, is_created, is_deleted, is_modified, last_name, later_name}
use Rattle.osm_range.specs.Steps.Counting.{Counts, HasRoom, IsBelow, counted_in, counted_some, has_changeset, is_changeset, is_seen}
use Rattle.osm_range.specs.Steps.Counting.{no_changes, one_if, one_more, pair_cmp, pair_of}
use Rattle.osm_range.specs.declared.columns.Column.{Column}
use Rattle.osm_range.specs.declared.columns.Column.TheVariants.{Day, User, Changeset, Kind}
use Rattle.osm_range.specs.declared.columns.Columns.{Columns}
use Rattle.osm_range.specs.declared.counted.Counted.{Counted}
use Rattle.osm_range.specs.declared.table.Table.{Table}

or_false : (b : Bool) → (b || false) ≡ b
or_false true = refl
or_false false = refl

eqb-sym : (m n : ℕ) → (m == n) ≡ (n == m)
eqb-sym m n = by_tests (m == n) (n == m) refl refl
  where
    by_tests : (a b : Bool) → (m == n) ≡ a → (n == m) ≡ b → a ≡ b
    by_tests true true p q = refl
    by_tests false false p q = refl
    by_tests true false p q = let r : true ≡ false = sym (eq-eqb n m (sym (eqb-true m n p))) ∙ q in absurd (cc)
    by_tests false true p q = let r : true ≡ false = sym (eq-eqb m n (sym (eqb-true n m q))) ∙ p in absurd (cc)

filter-one : {X : Type 0} (p : X → Bool) (x : X) → length (filter p (x ∷ [])) ≡ one_if (p x)
filter-one p x = by_test (p x)
  where
    by_test : (b : Bool) → length (if b then x ∷ [] else []) ≡ one_if b
    by_test true = refl
    by_test false = refl

-- one element more
length-filter-more : {X : Type 0} (p : X → Bool) (xs : List X) (x : X) → length (filter p (xs ++ x ∷ [])) ≡ length (filter p xs) + one_if (p x)
length-filter-more p xs x =
    ap length (filter-append p xs (x ∷ [])) ∙ (length-append (filter p xs) (filter p (x ∷ [])) ∙ ap (λ n. length (filter p xs) + n) (filter-one p x))

-- the changes of a combination, with one change more
pub changes_of-more : (columns : Columns) (cs : List ChangeValue) (c : ChangeValue) (k : Combination)
    → changes_of columns (cs ++ c ∷ []) k ≡ changes_of columns cs k ++ (if same_combination (combination_of columns c) k then c ∷ [] else [])
changes_of-more columns cs c k = filter-append (λ d. same_combination (combination_of columns d) k) cs (c ∷ [])

-- one number more: the last one of a list is new, or it isn't
by_tests : (a b b2 h : Bool) (m : ℕ) (D E : List ℕ) → b ≡ b2 → (b ≡ true → a ≡ h) → length E ≡ length D + one_if (not h)
    → length (if a || b then E else m ∷ E) ≡ length (if a then D else m ∷ D) + one_if (not (b2 || h))
by_tests true true true true m D E b same is = is
by_tests true true true false m D E b same is = absurd (let bad : true ≡ false = same refl in cc)
by_tests false true true true m D E b same is = absurd (let bad : false ≡ true = same refl in cc)
by_tests false true true false m D E b same is = is ∙ omega arith
by_tests a true false h m D E b same is = absurd (cc)
by_tests a false true h m D E b same is = absurd (cc)
by_tests true false false h m D E b same is = is
by_tests false false false h m D E b same is = omega arith

different-more : (ns : List ℕ) (n : ℕ) → length (different (ns ++ n ∷ [])) ≡ length (different ns) + one_if (not (list_any (λ m. m == n) ns))
different-more [] n = refl
different-more (m ∷ ns) n =
    rw (list_any-append (λ k. k == m) ns (n ∷ []), or_false (n == m))
    (by_tests (list_any (λ k. k == m) ns) (n == m) (m == n) (list_any (λ k. k == n) ns) m (different ns) (different (ns ++ n ∷ []))
    (eqb-sym n m) (λ e. ap (λ k. list_any (λ j. j == k) ns) (sym (eqb-true n m e))) (different-more ns n))

-- what is counted of one change more, after those of its combination
counted-more : (cs : List ChangeValue) (c : ChangeValue) → counted (cs ++ c ∷ [])
    ≡ one_more (counted cs) c (Some (not (list_any (λ n. n == c.meta.changeset) (map (λ d. d.meta.changeset) cs))))
unfolding one_more
counted-more cs c =
    rw (
      length-filter-more is_created cs c,
      length-filter-more is_modified cs c,
      length-filter-more is_deleted cs c,
      map-append (λ (d : ChangeValue). d.meta.changeset) cs (c ∷ []),
      different-more (map (λ (d : ChangeValue). d.meta.changeset) cs) c.meta.changeset,
    ) refl

-- a changeset was seen with a combination exactly if a change of the combination has it
seen_is : (columns : Columns) (cs : List ChangeValue) (k : Combination) (n : ℕ)
    → is_seen columns cs (k, n) ≡ list_any (λ m. m == n) (map (λ d. d.meta.changeset) (changes_of columns cs k))
seen_is columns [] k n = refl
seen_is columns (c ∷ cs) k n =
    let test = same_combination (combination_of columns c) k in
    let pair : is_eq (pair_cmp (pair_of columns c) (k, n)) ≡ (test && c.meta.changeset == n) =
    sym (tied_then (combination_cmp (combination_of columns c) k) (nat_cmp c.meta.changeset n)) ∙ ap (λ b. test && b) (unsigned_tied c.meta.changeset n) in
    rw (pair, seen_is columns cs k n) (by_test test)
  where
    by_test : (b : Bool) → ((b && c.meta.changeset == n) || list_any (λ m. m == n) (map (λ d. d.meta.changeset) (changes_of columns cs k)))
        ≡ list_any (λ m. m == n) (map (λ (d : ChangeValue). d.meta.changeset) (if b then c ∷ changes_of columns cs k else changes_of columns cs k))
    by_test true = refl
    by_test false = refl

counted_some-more : (cs : List ChangeValue) (c : ChangeValue) → counted_some (cs ++ c ∷ []) ≡ Some (counted (cs ++ c ∷ []))
counted_some-more [] c = refl
counted_some-more (d ∷ cs) c = refl

pub counted_or_none : (cs : List ChangeValue) → unwrap_or (counted_some cs) no_changes ≡ counted cs
counted_or_none [] = refl
counted_or_none (c ∷ cs) = refl

-- the row at each combination, after one change more
pub row-more : (columns : Columns) (cs : List ChangeValue) (c : ChangeValue) (k : Combination)
    → counted_some (changes_of columns (cs ++ c ∷ []) k)
    ≡ (if same_combination (combination_of columns c) k
    then Some (one_more (counted (changes_of columns cs (combination_of columns c))) c (Some (not (is_seen columns cs (pair_of columns c)))))
    else counted_some (changes_of columns cs k))
row-more columns cs c k =
    ap counted_some (changes_of-more columns cs c k) ∙ by_test (same_combination (combination_of columns c) k) refl
  where
    by_test : (b : Bool) → same_combination (combination_of columns c) k ≡ b
        → counted_some (changes_of columns cs k ++ (if b then c ∷ [] else []))
        ≡ (if b then Some (one_more (counted (changes_of columns cs (combination_of columns c))) c (Some (not (is_seen columns cs (pair_of columns c)))))
        else counted_some (changes_of columns cs k))
    by_test true e =
        counted_some-more (changes_of columns cs k) c
        ∙ (ap Some (counted-more (changes_of columns cs k) c)
        ∙ (ap (λ b. Some (one_more (counted (changes_of columns cs k)) c (Some (not b)))) (sym (seen_is columns cs k c.meta.changeset))
        ∙ ap (λ q. Some (one_more (counted (changes_of columns cs q)) c (Some (not (is_seen columns cs (q, c.meta.changeset))))))
        (sym (same_combination-only (combination_of columns c) k e))))
    by_test false e = ap counted_some (append-nil (changes_of columns cs k))

pub seen-more : (columns : Columns) (cs : List ChangeValue) (c : ChangeValue) (p : Combination × ℕ)
    → is_seen columns (cs ++ c ∷ []) p ≡ (if is_eq (pair_cmp (pair_of columns c) p) then true else is_seen columns cs p)
seen-more columns cs c p =
    list_any-append (λ d. is_eq (pair_cmp (pair_of columns d) p)) cs (c ∷ []) ∙ by_tests2 (is_seen columns cs p) (is_eq (pair_cmp (pair_of columns c) p))
  where
    by_tests2 : (a b : Bool) → (a || (b || false)) ≡ (if b then true else a)
    by_tests2 true true = refl
    by_tests2 true false = refl
    by_tests2 false true = refl
    by_tests2 false false = refl

-- the last name of a user, after one change more
pub last_name-more : (cs : List ChangeValue) (c : ChangeValue) (uid : ℕ)
    → last_name (cs ++ c ∷ []) uid ≡ (if c.meta.uid == uid then Some c.meta.user else last_name cs uid)
last_name-more [] c uid = by_test (c.meta.uid == uid)
  where
    by_test : (b : Bool) → later_name (if b then Some c.meta.user else None) None ≡ (if b then Some c.meta.user else None)
    by_test true = refl
    by_test false = refl
last_name-more (d ∷ cs) c uid =
    ap (later_name (if d.meta.uid == uid then Some d.meta.user else None)) (last_name-more cs c uid) ∙ by_test (c.meta.uid == uid)
  where
    by_test : (b : Bool) → later_name (if d.meta.uid == uid then Some d.meta.user else None) (if b then Some c.meta.user else last_name cs uid)
        ≡ (if b then Some c.meta.user else last_name (d ∷ cs) uid)
    by_test true = refl
    by_test false = refl

-- ---- no count is above the number of changes

pub filter-le : {X : Type 0} (p : X → Bool) (xs : List X) → length (filter p xs) ≤ length xs
filter-le p xs = rw (length-filter p xs) (count_by-le-length p xs)

pub different-le : (ns : List ℕ) → length (different ns) ≤ length ns
different-le [] = omega arith
different-le (n ∷ ns) = by_test (list_any (λ m. m == n) ns) (different-le ns)
  where
    by_test : (b : Bool) → length (different ns) ≤ length ns → length (if b then different ns else n ∷ different ns) ≤ length (n ∷ ns)
    by_test true le = omega arith
    by_test false le = omega arith

-- nothing that is counted is above the number of changes
pub below : (columns : Columns) (cs : List ChangeValue) (k : Combination) → length cs + 1 < 2 ^ 64 → IsBelow (counted (changes_of columns cs k))
below columns cs k few =
    let those = changes_of columns cs k in
    let most : length those ≤ length cs = filter-le (λ c. same_combination (combination_of columns c) k) cs in
    let created : length (filter is_created those) ≤ length those = filter-le is_created those in
    let modified : length (filter is_modified those) ≤ length those = filter-le is_modified those in
    let deleted : length (filter is_deleted those) ≤ length those = filter-le is_deleted those in
    let ids : List ℕ = map (λ (c : ChangeValue). c.meta.changeset) those in
    let many : length ids ≡ length those = length-map those (λ (c : ChangeValue). c.meta.changeset) in
    let changesets : length (different ids) ≤ length ids = different-le ids in
    record { created = omega arith; modified = omega arith; deleted = omega arith; changesets = omega arith }

-- ---- a row with one changeset

in_column : (o : Option Column) (c d : ChangeValue) → is_changeset o ≡ true → number_in o c ≡ number_in o d → c.meta.changeset ≡ d.meta.changeset
in_column None c d is same = absurd (let bad : false ≡ true = is in cc)
in_column (Some Day) c d is same = absurd (let bad : false ≡ true = is in cc)
in_column (Some User) c d is same = absurd (let bad : false ≡ true = is in cc)
in_column (Some Changeset) c d is same = same
in_column (Some Kind) c d is same = absurd (let bad : false ≡ true = is in cc)

either : {P : Type 0} (a b : Bool) → (a ≡ true → P) → (b ≡ true → P) → (a || b) ≡ true → P
either true b f g e = f refl
either false b f g e = g e

-- if the changeset is a column, changes with one combination have one changeset
one_changeset : (columns : Columns) (c d : ChangeValue) → has_changeset columns ≡ true
    → combination_of columns c ≡ combination_of columns d → c.meta.changeset ≡ d.meta.changeset
one_changeset columns c d has same =
    either (is_changeset columns.first) (is_changeset columns.second || (is_changeset columns.third || is_changeset columns.fourth))
    (λ is. in_column columns.first c d is (ap (λ k. k.0) same))
    (either (is_changeset columns.second) (is_changeset columns.third || is_changeset columns.fourth)
    (λ is. in_column columns.second c d is (ap (λ k. k.1) same))
    (either (is_changeset columns.third) (is_changeset columns.fourth)
    (λ is. in_column columns.third c d is (ap (λ k. k.2) same))
    (λ is. in_column columns.fourth c d is (ap (λ k. k.3) same)))) has

suc-not-zero : (n : ℕ) → (suc n == 0) ≡ false
suc-not-zero n = by_test (suc n == 0) refl
  where
    by_test : (b : Bool) → (suc n == 0) ≡ b → b ≡ false
    by_test false e = refl
    by_test true e = absurd (let bad : suc n ≡ 0 = eqb-true (suc n) 0 e in omega (arith, bad))

different-some : (n : ℕ) (ns : List ℕ) → (length (different (n ∷ ns)) == 0) ≡ false
different-some n [] = refl
different-some n (m ∷ ns) = by_test (list_any (λ k. k == n) (m ∷ ns)) (different-some m ns)
  where
    by_test : (b : Bool) → (length (different (m ∷ ns)) == 0) ≡ false
        → (length (if b then different (m ∷ ns) else n ∷ different (m ∷ ns)) == 0) ≡ false
    by_test true some = some
    by_test false some = suc-not-zero (length (different (m ∷ ns)))

-- then a row has no changeset exactly if it doesn't have that of the change
row_has : (columns : Columns) (cs : List ChangeValue) (c : ChangeValue) → has_changeset columns ≡ true
    → ((counted (changes_of columns cs (combination_of columns c))).changesets == 0)
    ≡ not (list_any (λ m. m == c.meta.changeset) (map (λ d. d.meta.changeset) (changes_of columns cs (combination_of columns c))))
row_has columns [] c has = refl
row_has columns (d ∷ cs) c has = by_test (same_combination (combination_of columns d) (combination_of columns c)) refl (row_has columns cs c has)
  where
    n : ℕ
    n = c.meta.changeset

    those : List ChangeValue
    those = changes_of columns cs (combination_of columns c)

    by_test : (b : Bool) → same_combination (combination_of columns d) (combination_of columns c) ≡ b
        → ((counted those).changesets == 0) ≡ not (list_any (λ m. m == n) (map (λ (x : ChangeValue). x.meta.changeset) those))
        → ((counted (if b then d ∷ those else those)).changesets == 0)
        ≡ not (list_any (λ m. m == n) (map (λ (x : ChangeValue). x.meta.changeset) (if b then d ∷ those else those)))
    by_test false e rest = rest
    by_test true e rest =
        let same : d.meta.changeset ≡ n = one_changeset columns d c has (same_combination-only (combination_of columns d) (combination_of columns c) e) in
        different-some d.meta.changeset (map (λ (x : ChangeValue). x.meta.changeset) those)
        ∙ ap (λ b. not (b || list_any (λ m. m == n) (map (λ (x : ChangeValue). x.meta.changeset) those))) (sym (eq-eqb d.meta.changeset n same))

one_more-first : (row : Counted) (c : ChangeValue) (first : Option Bool) → one_more row c first ≡ one_more row c (Some (unwrap_or first (row.changesets == 0)))
unfolding one_more
one_more-first row c first = refl

-- whether a change is the first one of its changeset in its row, by what is noted, or else by the row
first_is : (cs : List ChangeValue) (c : ChangeValue) (table : Table) → Counts cs table
    → unwrap_or (if has_changeset table.columns then None else Some (not (contains pair_cmp table.seen (pair_of table.columns c))))
    ((counted (changes_of table.columns cs (combination_of table.columns c))).changesets == 0)
    ≡ not (is_seen table.columns cs (pair_of table.columns c))
first_is cs c table counts = by_test (has_changeset table.columns) refl
  where
    by_test : (b : Bool) → has_changeset table.columns ≡ b
        → unwrap_or (if b then None else Some (not (contains pair_cmp table.seen (pair_of table.columns c))))
        ((counted (changes_of table.columns cs (combination_of table.columns c))).changesets == 0)
        ≡ not (is_seen table.columns cs (pair_of table.columns c))
    by_test true has = row_has table.columns cs c has ∙ ap not (sym (seen_is table.columns cs (combination_of table.columns c) c.meta.changeset))
    by_test false has = ap not (counts.seen has (pair_of table.columns c))

-- a table counts one change more
counts-more : (before : List ChangeValue) (c : ChangeValue) (old new : Table) → new.columns ≡ old.columns
    → ((k : Combination) → get combination_cmp new.rows k
    ≡ (if same_combination (combination_of old.columns c) k
    then Some (one_more (counted_in old.rows (combination_of old.columns c)) c
    (if has_changeset old.columns then None else Some (not (contains pair_cmp old.seen (pair_of old.columns c)))))
    else get combination_cmp old.rows k))
    → (has_changeset old.columns ≡ false → (p : Combination × ℕ)
    → contains pair_cmp new.seen p ≡ (if is_eq (pair_cmp (pair_of old.columns c) p) then true else contains pair_cmp old.seen p))
    → ((uid : ℕ) → get nat_cmp new.names uid ≡ (if c.meta.uid == uid then Some c.meta.user else get nat_cmp old.names uid))
    → Counts before old → Counts (before ++ c ∷ []) new
counts-more before c old new same rows seen names counts = record {
  rows = λ k. rows k ∙ (row_is k ∙ (sym (row-more columns before c k) ∙ ap (λ d. counted_some (changes_of d (before ++ c ∷ []) k)) (sym same)));
  seen = λ none p.
      let has : has_changeset columns ≡ false = sym (ap has_changeset same) ∙ none in
      seen has p
      ∙ (ap (λ b. if is_eq (pair_cmp (pair_of columns c) p) then true else b) (counts.seen has p)
      ∙ (sym (seen-more columns before c p) ∙ ap (λ d. is_seen d (before ++ c ∷ []) p) (sym same)));
  names = λ uid. names uid ∙ (ap (λ o. if c.meta.uid == uid then Some c.meta.user else o) (counts.names uid) ∙ sym (last_name-more before c uid));
}
  where
    columns : Columns
    columns = old.columns

    is_noted : Option Bool
    is_noted = if has_changeset columns then None else Some (not (contains pair_cmp old.seen (pair_of columns c)))

    first_row : counted_in old.rows (combination_of columns c) ≡ counted (changes_of columns before (combination_of columns c))
    first_row =
        ap (λ o. unwrap_or o no_changes) (counts.rows (combination_of columns c))
        ∙ counted_or_none (changes_of columns before (combination_of columns c))

    row_is : (k : Combination) → (if same_combination (combination_of columns c) k
        then Some (one_more (counted_in old.rows (combination_of columns c)) c is_noted)
        else get combination_cmp old.rows k)
        ≡ (if same_combination (combination_of columns c) k
        then Some (one_more (counted (changes_of columns before (combination_of columns c))) c (Some (not (is_seen columns before (pair_of columns c)))))
        else counted_some (changes_of columns before k))
    row_is k =
        let is_it = same_combination (combination_of columns c) k in
        let first = counted (changes_of columns before (combination_of columns c)) in
        ap (λ r. if is_it then Some (one_more r c is_noted) else get combination_cmp old.rows k) first_row
        ∙ (ap (λ r. if is_it then Some r else get combination_cmp old.rows k)
        (one_more-first first c is_noted ∙ ap (λ b. one_more first c (Some b)) (first_is before c old counts))
        ∙ ap (λ o. if is_it then Some (one_more first c (Some (not (is_seen columns before (pair_of columns c))))) else o) (counts.rows k))

-- no count of a table with room is at its end
pub room_below : (columns : Columns) (table : Table) (c : ChangeValue) → table.columns ≡ columns → HasRoom 1 table
    → IsBelow (counted_in table.rows (combination_of columns c))
room_below columns table c is room =
    let k = combination_of columns c in
    let row : counted_in table.rows k ≡ counted (changes_of columns room.changes k) =
    ap (λ o. unwrap_or o no_changes) (room.counts.rows k ∙ ap (λ d. counted_some (changes_of d room.changes k)) is)
    ∙ counted_or_none (changes_of columns room.changes k) in
    subst IsBelow (sym row) (below columns room.changes k room.few)

-- the same, by the values that the code has
pub counts-after : (before : List ChangeValue) (c : ChangeValue) (pair : Combination × ℕ) (first : Option Bool) (old new : Table)
    → new.columns ≡ old.columns → pair ≡ pair_of old.columns c
    → first ≡ (if has_changeset old.columns then None else Some (not (contains pair_cmp old.seen pair)))
    → ((k : Combination) → get combination_cmp new.rows k
    ≡ (if same_combination pair.0 k
    then Some (one_more (counted_in old.rows pair.0) c first)
    else get combination_cmp old.rows k))
    → (has_changeset old.columns ≡ false → (p : Combination × ℕ)
    → contains pair_cmp new.seen p ≡ (if is_eq (pair_cmp pair p) then true else contains pair_cmp old.seen p))
    → ((uid : ℕ) → get nat_cmp new.names uid ≡ (if c.meta.uid == uid then Some c.meta.user else get nat_cmp old.names uid))
    → Counts before old → Counts (before ++ c ∷ []) new
counts-after before c pair first old new same pair_is first_is rows seen names counts =
    counts-more before c old new same
    (λ k. rows k
    ∙ (ap (λ o. if same_combination pair.0 k then Some (one_more (counted_in old.rows pair.0) c o) else get combination_cmp old.rows k) first_is
    ∙ ap (λ (p : Combination × ℕ). if same_combination p.0 k
    then Some (one_more (counted_in old.rows p.0) c (if has_changeset old.columns then None else Some (not (contains pair_cmp old.seen p))))
    else get combination_cmp old.rows k) pair_is))
    (λ none p. seen none p ∙ ap (λ (q : Combination × ℕ). if is_eq (pair_cmp q p) then true else contains pair_cmp old.seen p) pair_is)
    names counts

-- a value was put at a combination
pub put_at : (old put new : List (Combination × Counted)) (at k : Combination) (put_value value : Counted) → new ≡ put
    → lookup (is_at (combination_cmp k)) put ≡ (if same_combination at k then Some put_value else lookup (is_at (combination_cmp k)) old)
    → put_value ≡ value
    → lookup (is_at (combination_cmp k)) new ≡ (if same_combination at k then Some value else lookup (is_at (combination_cmp k)) old)
put_at old put new at k put_value value same is equal =
    ap (lookup (is_at (combination_cmp k))) same
    ∙ (is ∙ ap (λ r. if same_combination at k then Some r else lookup (is_at (combination_cmp k)) old) equal)
