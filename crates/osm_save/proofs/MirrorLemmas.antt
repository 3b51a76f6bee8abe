-- The lists of a mirror, read and written.
use Rattle.std.proofs.Common.{◌≡◌, ℕ, ◌<◌, ◌≤◌, ◌^◌, List, [], ◌∷◌, ◌++◌, length, map, refl, ap, Bool, true, false, cond, Option, Some, None, ⊎_elim, arith}
use Rattle.std.specs.Prelude.{codes, decimal, unwrap_or}
use Rattle.std.specs.BTreeMap.{is_at}
use Rattle.std.specs.List.{AllByRecursion}
use Rattle.std.specs.List.Sorted.{IsStrictlySortedBy}
use Rattle.std.specs.Cmp.{eq_by_cmp_equiv, tied_itself}
use Rattle.std.specs.Map.{keys_of, lookup}
use Rattle.std.specs.Ordering.{is_eq, nat_cmp}
use Rattle.std.proofs.lemmas.Bool.{cases_Bool}
use Rattle.std.proofs.lemmas.Cmp.{nat_cmp_total}
use Rattle.std.proofs.lemmas.Map.{lookup-none}
use Rattle.std.proofs.lemmas.Map.Entries.{lookup_tail, none_past_head}
use Rattle.std.proofs.lemmas.Map.Keys.{IsDistinct-from_sorted, sorted_tail}
use Rattle.osm_model.specs.Change.{ChangeValue}
use Rattle.osm_model.specs.Filter.{AreKept, FilterValue}
use Rattle.osm_model.specs.KeyOrder.{key_cmp}
use Rattle.osm_model.specs.Limits.{IsPositive}
use Rattle.osm_model.proofs.DataLemmas.{keys_total}
use Rattle.osm_mirror.specs.Mirror.{Counted, HasNumber, IsAboveZero, IsObject}
use Rattle.osm_mirror.specs.Mirror as mirror
use Rattle.osm_opl.specs.Written.{line_text}
use Rattle.osm_opl.proofs.LineLaws.{line_lacks}
use Rattle.osm_opl.proofs.ListLaws.{line_feed}
use Rattle.osm_opl.proofs.RoundTrip.{line_spells}
use Rattle.osm_reading.specs.Pieces.{Lacks}
use Rattle.osm_reading.proofs.PieceLemmas.{lacks_append}
use Rattle.osm_save.specs.Lines.{ended, list_lines}
use Rattle.osm_save.specs.Save.{count_text}
use Rattle.osm_save.specs.Reading.{count_at, counts_at, object_at, objects_at}
use Rattle.osm_save.proofs.CountLemmas.{count_again, count_takes}
use Rattle.osm_save.proofs.LineLemmas.{lacks_by}
use Rattle.osm_save.proofs.ListLemmas.{IsItem, TakesList, list_again, list_takes}
use Rattle.osm_save.proofs.NumberLemmas.{decimal_lacks}
use Rattle.osm_save.proofs.ObjectLemmas.{IsKept, object_again, object_takes}

-- ---- objects

object_item : (f : FilterValue) → IsItem key_cmp (λ (c : ChangeValue). c.key) line_text (IsKept f) (object_at f)
object_item f = record {
  takes = λ last line c e. (let t = object_takes f last line c e in (t.text, t.good, t.above));
  again = λ last c good above. object_again f last c good above;
  lacks = λ c good. line_lacks 10 line_feed (line_text c) c (λ e. omega (arith, e)) (line_spells c good.object.limits);
}

abbrev pub TakesObjects : FilterValue → ℕ → List ℕ → List ChangeValue × List ℕ → Type 0
TakesObjects f most bytes r = TakesList key_cmp (λ (c : ChangeValue). c.key) line_text (IsKept f) (codes "objects ") most bytes r.0 r.1

pub objects_take : (f : FilterValue) (most : ℕ) (bytes : List ℕ) (r : List ChangeValue × List ℕ) → objects_at f most bytes ≡ Some r
    → TakesObjects f most bytes r
unfolding objects_at
objects_take f most bytes r e = list_takes key_cmp keys_total (λ (c : ChangeValue). c.key) line_text (IsKept f)
    (object_at f) (object_item f) (codes "objects ") most bytes r e

objects_lack : Lacks 10 (codes "objects ")
objects_lack = lacks_by 10 (codes "objects ") refl

pub objects_again : (f : FilterValue) (most : ℕ) (cs : List ChangeValue) (rest : List ℕ) → length cs ≤ most → most < 1000000000000000000
    → AllByRecursion (IsKept f) cs → IsStrictlySortedBy key_cmp (map (λ (c : ChangeValue). c.key) cs)
    → objects_at f most (ended (list_lines (codes "objects ") line_text cs) ++ rest) ≡ Some (cs, rest)
unfolding objects_at
objects_again f most cs rest few small good rising = list_again key_cmp keys_total (λ (c : ChangeValue). c.key)
    line_text (IsKept f) (object_at f) (object_item f) (codes "objects ") most cs rest objects_lack few small good rising

pub objects_of : (f : FilterValue) (cs : List ChangeValue) → AllByRecursion (IsKept f) cs → AllByRecursion IsObject cs
objects_of f [] all = tt
objects_of f (c ∷ cs) all = (all.0.object, objects_of f cs all.1)

pub kept_of : (f : FilterValue) (cs : List ChangeValue) → AllByRecursion (IsKept f) cs → AreKept f cs
kept_of f [] all = tt
kept_of f (c ∷ cs) all = (all.0.kept, kept_of f cs all.1)

pub kept_objects : (f : FilterValue) (cs : List ChangeValue) → AllByRecursion IsObject cs → AreKept f cs → AllByRecursion (IsKept f) cs
kept_objects f [] objects kept = tt
kept_objects f (c ∷ cs) objects kept = (record { object = objects.0; kept = kept.0 }, kept_objects f cs objects.1 kept.1)

-- ---- counts

-- a number within the limits, and a count from 1 to `most`
pub record IsCountWithin (most : ℕ) (e : Counted) : Type 0 where
  pub number : IsPositive e.0
  pub some : 1 ≤ e.1
  pub few : e.1 ≤ most

count_lacks : (most : ℕ) (e : Counted) → most < 1000000000000000000 → IsCountWithin most e → Lacks 10 (count_text e)
count_lacks most e small good =
    let fits : e.0 < 2 ^ 32 = good.number.high in
    let few : e.1 ≤ most = good.few in
    lacks_append 10 (decimal e.0) (32 ∷ decimal e.1) (decimal_lacks 10 e.0 (omega arith) (omega arith))
    ((λ x. omega (arith, x)), decimal_lacks 10 e.1 (omega arith) (omega arith))

count_item : (most : ℕ) → most < 1000000000000000000 → IsItem nat_cmp (λ (e : Counted). e.0) count_text (IsCountWithin most) (count_at most)
count_item most small = record {
  takes = λ last line e h. (let t = count_takes most last line e h in (t.text, record { number = t.number; some = t.some; few = t.few }, t.above));
  again = λ last e good above. count_again most last e small good.number good.some good.few above;
  lacks = λ e good. count_lacks most e small good;
}

abbrev pub TakesCounts : List ℕ → ℕ → List ℕ → List Counted × List ℕ → Type 0
TakesCounts word most bytes r = TakesList nat_cmp (λ (e : Counted). e.0) count_text (IsCountWithin most) word most bytes r.0 r.1

pub counts_take : (word : List ℕ) (most : ℕ) (bytes : List ℕ) (r : List Counted × List ℕ) → most < 1000000000000000000
    → counts_at word most bytes ≡ Some r → TakesCounts word most bytes r
unfolding counts_at
counts_take word most bytes r small e = list_takes nat_cmp nat_cmp_total (λ (e : Counted). e.0) count_text
    (IsCountWithin most) (count_at most) (count_item most small) word most bytes r e

pub counts_again : (word : List ℕ) (most : ℕ) (es : List Counted) (rest : List ℕ) → Lacks 10 word → length es ≤ most
    → most < 1000000000000000000 → AllByRecursion (IsCountWithin most) es
    → IsStrictlySortedBy nat_cmp (map (λ (e : Counted). e.0) es)
    → counts_at word most (ended (list_lines word count_text es) ++ rest) ≡ Some (es, rest)
unfolding counts_at
counts_again word most es rest lacks few small good rising =
    list_again nat_cmp nat_cmp_total (λ (e : Counted). e.0) count_text (IsCountWithin most) (count_at most)
    (count_item most small) word most es rest lacks few small good rising

-- ---- counts of a mirror

pub numbers_of : (most : ℕ) (es : List Counted) → AllByRecursion (IsCountWithin most) es → AllByRecursion HasNumber es
numbers_of most [] all = tt
numbers_of most (e ∷ es) all = (all.0.number, numbers_of most es all.1)

pub above_of : (most : ℕ) (es : List Counted) → AllByRecursion (IsCountWithin most) es → AllByRecursion IsAboveZero es
above_of most [] all = tt
above_of most (e ∷ es) all = (all.0.some, above_of most es all.1)

pub counts_most : (most : ℕ) (es : List Counted) → AllByRecursion (IsCountWithin most) es → (n : ℕ) → mirror.count_at es n ≤ most
counts_most most [] all n = omega arith
counts_most most (e ∷ es) all n = by_test (is_at (nat_cmp n) e.0) (counts_most most es all.1 n)
  where
    by_test : (b : Bool) → mirror.count_at es n ≤ most → unwrap_or (cond b (Some e.1) (lookup (is_at (nat_cmp n)) es)) 0 ≤ most
    by_test true rest = all.0.few
    by_test false rest = rest

-- no number has a greater count in the rest of a list than in the list
tail_most : (most : ℕ) (e : Counted) (es : List Counted) → IsStrictlySortedBy nat_cmp (keys_of (e ∷ es))
    → ((n : ℕ) → mirror.count_at (e ∷ es) n ≤ most) → (n : ℕ) → mirror.count_at es n ≤ most
tail_most most e es rising each n = ⊎_elim
    (λ same. (let none : lookup (is_at (nat_cmp n)) es ≡ None =
    lookup-none (is_at (nat_cmp n)) es (none_past_head (eq_by_cmp_equiv nat_cmp_total) n e es (IsDistinct-from_sorted nat_cmp _ rising) same) in
    rw none (omega arith)))
    (λ other. (let is : mirror.count_at (e ∷ es) n ≡ mirror.count_at es n =
    ap (λ (o : Option ℕ). unwrap_or o 0) (lookup_tail (is_at (nat_cmp n)) e es other) in
    rw is at (each n)))
    (cases_Bool (is_eq (nat_cmp n e.0)))

-- if no number has a count above `most`, no entry has
pub each_few : (most : ℕ) (es : List Counted) → IsStrictlySortedBy nat_cmp (keys_of es) → ((n : ℕ) → mirror.count_at es n ≤ most)
    → AllByRecursion (λ (e : Counted). e.1 ≤ most) es
each_few most [] rising each = tt
each_few most (e ∷ es) rising each =
    let here : is_at (nat_cmp e.0) e.0 ≡ true = ap is_eq (tied_itself nat_cmp_total e.0) in
    let first : mirror.count_at (e ∷ es) e.0 ≡ e.1 = rw here refl in
    (rw first at (each e.0), each_few most es (sorted_tail nat_cmp e.0 (keys_of es) rising) (tail_most most e es rising each))

-- each entry of a list whose counts are at most `most`
pub each_within : (most : ℕ) (es : List Counted) → IsStrictlySortedBy nat_cmp (map (λ (d : Counted). d.0) es)
    → AllByRecursion HasNumber es → AllByRecursion IsAboveZero es → ((n : ℕ) → mirror.count_at es n ≤ most)
    → AllByRecursion (IsCountWithin most) es
each_within most es rising numbers above each = by_entries es numbers above (each_few most es rising each)
  where
    by_entries : (ds : List Counted) → AllByRecursion HasNumber ds → AllByRecursion IsAboveZero ds → AllByRecursion (λ (d : Counted). d.1 ≤ most) ds
        → AllByRecursion (IsCountWithin most) ds
    by_entries [] numbers above few = tt
    by_entries (d ∷ ds) numbers above few = (record { number = numbers.0; some = above.0; few = few.0 }, by_entries ds numbers.1 above.1 few.1)
