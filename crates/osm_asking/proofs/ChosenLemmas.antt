-- The counts that are asked for.
use Rattle.std.proofs.Common.{◌≡◌, ℕ, ◌<◌, Bool, true, false, List, [], ◌∷◌, get_or, take, refl, sym, ap, ◌∙◌, arith, cond, eqb}
use Rattle.std.proofs.Common.{ltb, ltb-true, ltb-false, suc, zero}
use Rattle.std.specs.Prelude.{◌&&◌, not, All}
use Rattle.std.specs.List.{filter}
use Rattle.std.specs.List.Sorted.{IsNonDecreasingBy, IsPartitionPoint, IsPermutation, IsStableByKey, ties}
use Rattle.std.specs.Ordering.{is_lt, nat_cmp}
use Rattle.std.proofs.lemmas.Bool.{eq-eqb, eqb-false, eqb-true, ne_eqb}
use Rattle.std.proofs.lemmas.Bool.Decides.{nat_tests}
use Rattle.std.proofs.lemmas.List.Elements.{All-head, All-tail}
use Rattle.osm_mirror.specs.Mirror.{Counted}
use Rattle.osm_asking.specs.Counts.{AreLargest, count_in, place_of}

pub first_taken : (most : ℕ) (counts ordered given : List Counted) → IsPermutation counts ordered → IsNonDecreasingBy place_of ordered
    → given ≡ take most ordered → AreLargest most counts given
first_taken most counts ordered given same falls is = record { ordered = ordered; same = same; falls = falls; given_are = is }

-- ---- a stable sort by the ids

-- what leaves no count of that id out
kept_count : (id : ℕ) (test : Counted → Bool) → ((e : Counted) → e.0 ≡ id → test e ≡ true) → (es : List Counted)
    → count_in (filter test es) id ≡ count_in es id
kept_count id test all [] = refl
kept_count id test all (e ∷ es) = by_test (kept_count id test all es) (test e) refl (eqb e.0 id) refl
  where
    by_test : count_in (filter test es) id ≡ count_in es id → (b : Bool) → test e ≡ b → (t : Bool) → eqb e.0 id ≡ t
        → count_in (cond b (e ∷ filter test es) (filter test es)) id ≡ cond t e.1 (count_in es id)
    by_test ih true is t same = ap (λ (b : Bool). cond b e.1 (count_in (filter test es) id)) same ∙ ap (cond t e.1) ih
    by_test ih false out true same = absurd (let bad = sym out ∙ all e (eqb-true e.0 id same) in cc)
    by_test ih false out false other = ih

ties_itself : (m n : ℕ) → m ≡ n → (not (is_lt (nat_cmp n m)) && not (is_lt (nat_cmp m n))) ≡ true
ties_itself m n same = grind (arith, nat_tests)

pub stable_count : (cs rising : List Counted) → IsStableByKey (λ e. e.0) nat_cmp cs rising → (id : ℕ) → count_in rising id ≡ count_in cs id
stable_count cs rising stable id =
    let test : Counted → Bool = ties (λ (x y : Counted). is_lt (nat_cmp x.0 y.0)) (id, 0) in
    let all : (e : Counted) → e.0 ≡ id → test e ≡ true = λ e same. ties_itself e.0 id same in
    sym (kept_count id test all rising) ∙ (ap (λ (l : List Counted). count_in l id) (stable (id, 0)) ∙ kept_count id test all cs)

-- ---- a search among rising ids

none_above : (cs : List Counted) (id : ℕ) → All (λ e. id < e.0) cs → count_in cs id ≡ 0
none_above [] id above = refl
none_above (e ∷ cs) id above =
    let more = All-head (λ (e : Counted). id < e.0) e cs above in
    rw (ne_eqb e.0 id (λ same. omega (arith, more, same))) (none_above cs id (All-tail (λ (e : Counted). id < e.0) e cs above))

-- the first of the ids that aren't below that one
count_there : (cs : List Counted) (id i : ℕ) → IsNonDecreasingBy (λ e. e.0) cs
    → IsPartitionPoint (λ e. ltb e.0 id ≡ true) (λ e. ltb e.0 id ≡ false) cs i
    → count_in cs id ≡ count_in (get_or cs i (id, 0) ∷ []) id
count_there [] id i rises point = by_test (eqb id id)
  where
    by_test : (b : Bool) → ◌≡◌ {A = ℕ} 0 (cond b 0 0)
    by_test true = refl
    by_test false = refl
count_there (e ∷ cs) id zero rises point = by_test (eqb e.0 id) refl
  where
    by_test : (b : Bool) → eqb e.0 id ≡ b → cond b e.1 (count_in cs id) ≡ cond b e.1 0
    by_test true same = refl
    by_test false other =
        let least = ltb-false e.0 id (point.1 0 e (omega arith) (omega arith)) in
        let apart = eqb-false e.0 id other in
        none_above cs id (λ k d lt. let more = rises 0 (suc k) d (omega arith) (omega (arith, lt)) in omega (arith, least, more, apart))
count_there (e ∷ cs) id (suc i) rises point =
    let less = ltb-true e.0 id (point.0 0 e (omega arith) (omega arith)) in
    rw (ne_eqb e.0 id (λ same. omega (arith, less, same)))
    (count_there cs id i (λ j k d le lt. rises (suc j) (suc k) d (omega (arith, le)) (omega (arith, lt)))
    (λ k d a b. point.0 (suc k) d (omega arith) (omega (arith, b)), λ k d a b. point.1 (suc k) d (omega (arith, a)) (omega (arith, b))))

pub first_count : (cs : List Counted) (id i : ℕ) (first : Counted) → IsNonDecreasingBy (λ e. e.0) cs
    → IsPartitionPoint (λ e. ltb e.0 id ≡ true) (λ e. ltb e.0 id ≡ false) cs i → first ≡ get_or cs i (id, 0)
    → (first.0 ≡ id → first.1 ≡ count_in cs id) × ((first.0 ≡ id → ⊥) → 0 ≡ count_in cs id)
first_count cs id i first rises point is =
    let there : count_in cs id ≡ cond (eqb first.0 id) first.1 0 = count_there cs id i rises point ∙ ap (λ (e : Counted). count_in (e ∷ []) id) (sym is) in (
      λ same. sym (there ∙ ap (λ (b : Bool). cond b first.1 0) (eq-eqb first.0 id same)),
      λ other. sym (there ∙ ap (λ (b : Bool). cond b first.1 0) (ne_eqb first.0 id other)),
    )
