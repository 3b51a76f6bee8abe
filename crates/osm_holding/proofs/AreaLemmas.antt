-- The order of what is held, and areas that hold the same.
use Rattle.std.proofs.Common.{◌≡◌, ℕ, zero, suc, ◌+◌, ◌<◌, ◌≤◌, List, [], ◌∷◌, ◌++◌, length, refl, ap, subst, sym, ◌∙◌}
use Rattle.std.proofs.Common.{true, false, arith, None, Some, Option, inl, inr}
use Rattle.std.specs.Prelude.{slice_set, ◌==◌, slice_index, IsSome, Contains, ◌↔◌}
use Rattle.std.specs.Cmp.{nat_eq_equiv}
use Rattle.std.specs.List.Sorted.{IsStrictlyIncreasing, IsStrictlySortedBy}
use Rattle.std.specs.Map.{keys_of}
use Rattle.std.specs.Ordering.{nat_cmp}
use Rattle.std.proofs.lemmas.Bool.{cases_lt, cases_eq, eq-eqb, eqb-true, ne_eqb}
use Rattle.std.proofs.lemmas.Map.Keys.{below_from_sorted, sorted_tail, sorted_from_strictly_increasing}
use Rattle.std.proofs.lemmas.Map.Views.{Contains-keys_from_lookup, IsSome-lookup_from_Contains}
use Rattle.std.proofs.Math.ListN.{length-set}
use Rattle.circular_buffer.specs.Buffer.{Buffer, buffer, keep_last}
use Rattle.osm_model.specs.Limits.{max_sequence}
use Rattle.osm_holding.specs.declared.holding.Held.{Held}
use Rattle.osm_holding.specs.Holding.{ChangesAt, HoldingValue, IsHolding, held_at, numbers_of}
use Rattle.osm_holding.specs.Steps.Slots.{entries_from, area_of, AreSlots}
use Rattle.osm_holding.proofs.SlotLemmas.{found, in_window, moved, moved_length, slot_changes}

-- the numbers of the entries rise, and none is below the least
abbrev pub RisesFrom : ℕ → List (ℕ × Held) → Type 0
RisesFrom least [] = Unit {0}
RisesFrom least (e ∷ es) = (least ≤ e.0) × RisesFrom (e.0 + 1) es

RisesFrom-lower : (least more : ℕ) (es : List (ℕ × Held)) → least ≤ more → RisesFrom more es → RisesFrom least es
RisesFrom-lower least more [] le rises = tt
RisesFrom-lower least more (e ∷ es) le rises =
    let above : more ≤ e.0 = rises.0 in
    (omega arith, rises.1)

RisesFrom-entries_from : (first : ℕ) (slots : List (Option Held)) → RisesFrom first (entries_from first slots)
RisesFrom-entries_from first [] = tt
RisesFrom-entries_from first (None ∷ slots) = RisesFrom-lower first (first + 1) (entries_from (first + 1) slots)
    (omega arith) (RisesFrom-entries_from (first + 1) slots)
RisesFrom-entries_from first (Some held ∷ slots) = (omega arith, RisesFrom-entries_from (first + 1) slots)

-- numbers that rise are each below the next
increasing : (least : ℕ) (es : List (ℕ × Held)) → RisesFrom least es → (k j : ℕ) → j ≡ k + 1 → j < length (keys_of es)
    → slice_index (keys_of es) k < slice_index (keys_of es) j
increasing least [] rises k j next within = absurd (omega arith)
increasing least (e ∷ []) rises k j next within = absurd (omega arith)
increasing least (e ∷ f ∷ es) rises k zero next within = absurd (omega arith)
increasing least (e ∷ f ∷ es) rises zero (suc zero) next within =
    let above : e.0 + 1 ≤ f.0 = rises.1.0 in
    omega arith
increasing least (e ∷ f ∷ es) rises zero (suc (suc j)) next within = absurd (omega arith)
increasing least (e ∷ f ∷ es) rises (suc k) (suc j) next within = increasing (e.0 + 1) (f ∷ es) rises.1 k j (omega arith) (omega arith)

pub slots_rise : (first : ℕ) (slots : List (Option Held)) → IsStrictlyIncreasing (keys_of (entries_from first slots))
slots_rise first slots = λ k within. increasing first (entries_from first slots) (RisesFrom-entries_from first slots) k (k + 1) refl within

rises_after : (e : ℕ × Held) (es : List (ℕ × Held)) → IsStrictlySortedBy nat_cmp (keys_of (e ∷ es)) → RisesFrom (e.0 + 1) es
rises_after e [] sorted = tt
rises_after e (f ∷ es) sorted =
    let above : e.0 < f.0 = below_from_sorted (keys_of (e ∷ f ∷ es)) 0 1 0 sorted (omega arith) (omega arith) in
    (omega arith, rises_after f es (sorted_tail nat_cmp e.0 (keys_of (f ∷ es)) sorted))

pub rises : (es : List (ℕ × Held)) → IsStrictlySortedBy nat_cmp (keys_of es) → RisesFrom 0 es
rises [] sorted = tt
rises (e ∷ es) sorted = (omega arith, rises_after e es sorted)

-- entries that rise have nothing below the least number
found_below_least : (least : ℕ) (es : List (ℕ × Held)) (number : ℕ) → RisesFrom least es → number < least → found es number ≡ None
found_below_least least [] number up below = refl
found_below_least least (e ∷ es) number up below =
    let above : least ≤ e.0 = up.0 in
    let other : (number == e.0) ≡ false = ne_eqb number e.0 (λ is. omega arith) in
    rw other (found_below_least (e.0 + 1) es number up.1 (omega arith))

pub found_first : (e : ℕ × Held) (es : List (ℕ × Held)) (number : ℕ) → number ≡ e.0 → found (e ∷ es) number ≡ Some e.1
found_first e es number is = let same : (number == e.0) ≡ true = eq-eqb number e.0 is in rw same refl

pub found_later : (e : ℕ × Held) (es : List (ℕ × Held)) (number : ℕ) → e.0 < number → found (e ∷ es) number ≡ found es number
found_later e es number above = let other : (number == e.0) ≡ false = ne_eqb number e.0 (λ is. omega arith) in rw other refl

same_pair : (e f : ℕ × Held) → e.0 ≡ f.0 → Some e.1 ≡ Some f.1 → e ≡ f
same_pair e f numbers held =
    let same : e.1 ≡ f.1 = cc in
    ap (λ (n : ℕ). (n, e.1)) numbers ∙ ap (λ (h : Held). (f.0, h)) same

-- rising entries are determined by what they show at each number
same_entries : (least low : ℕ) (es fs : List (ℕ × Held)) → RisesFrom least es → RisesFrom low fs → ((number : ℕ) → found es number ≡ found fs number) → es ≡ fs
same_entries least low [] [] up over same = refl
same_entries least low [] (f ∷ fs) up over same =
    let there : None ≡ Some f.1 = same f.0 ∙ found_first f fs f.0 refl in
    cc
same_entries least low (e ∷ es) [] up over same =
    let there : Some e.1 ≡ None = sym (found_first e es e.0 refl) ∙ same e.0 in
    cc
same_entries least low (e ∷ es) (f ∷ fs) up over same = elim (cases_lt e.0 f.0) [
  | inl less ↦ absurd (apart (sym (found_first e es e.0 refl) ∙ (same e.0 ∙ found_below_least f.0 (f ∷ fs) e.0 (omega arith, over.1) less)))
  | inr not_less ↦ elim (cases_lt f.0 e.0) [
    | inl less ↦ absurd (apart (sym (found_first f fs f.0 refl) ∙ (sym (same f.0) ∙ found_below_least e.0 (e ∷ es) f.0 (omega arith, up.1) less)))
    | inr not_more ↦ (let numbers : e.0 ≡ f.0 = omega arith in
        let firsts : Some e.1 ≡ Some f.1 = sym (found_first e es e.0 refl) ∙ (same e.0 ∙ found_first f fs e.0 numbers) in
        let rests : es ≡ fs = same_entries (e.0 + 1) (f.0 + 1) es fs up.1 over.1 (λ number. later number numbers (same number)) in
        ap (λ g. g ∷ es) (same_pair e f numbers firsts) ∙ ap (λ gs. f ∷ gs) rests)
  ]
]
  where
    apart : {h : Held} → Some h ≡ None → ⊥
    apart is = cc

    later : (number : ℕ) → e.0 ≡ f.0 → found (e ∷ es) number ≡ found (f ∷ fs) number → found es number ≡ found fs number
    later number numbers both = elim (cases_lt e.0 number) [
      | inl above ↦ sym (found_later e es number above) ∙ (both ∙ found_later f fs number (omega arith))
      | inr below ↦ found_below_least (e.0 + 1) es number up.1 (omega arith) ∙ sym (found_below_least (f.0 + 1) fs number over.1 (omega arith))
    ]

made : ℕ → List (ℕ × Held) → HoldingValue
made reached entries = record { reached = reached; entries = entries }

pub one_area : (a b : HoldingValue) → IsHolding a → IsHolding b → a.reached ≡ b.reached → ((number : ℕ) → held_at a number ≡ held_at b number) → a ≡ b
unfolding made
one_area a b holds_a holds_b reached same =
    let entries : a.entries ≡ b.entries =
    same_entries 0 0 a.entries b.entries
    (rises a.entries (sorted_from_strictly_increasing (keys_of a.entries) holds_a.rising))
    (rises b.entries (sorted_from_strictly_increasing (keys_of b.entries) holds_b.rising)) same in
    ap (λ (n : ℕ). made n a.entries) reached ∙ ap (λ (es : List (ℕ × Held)). made b.reached es) entries

-- the numbers of an area are those at which it holds something
pub exactly_held : (area : HoldingValue) (number : ℕ) → Contains (numbers_of area) number ↔ IsSome (held_at area number)
exactly_held area number = (
  IsSome-lookup_from_Contains nat_eq_equiv number area.entries,
  Contains-keys_from_lookup eqb-true number area.entries,
)

-- the area of slots is within its limits
pub is_holding : (reached : ℕ) (slots : Buffer (Option Held)) → AreSlots reached slots → IsHolding (area_of reached slots.items)
is_holding reached slots are = record {
  reached = are.limit;
  rising = slots_rise (reached + 1) slots.items;
  within = λ number some. in_window reached slots.items number are.full some;
  limit = are.sequences;
}

-- the slots after a write
pub are_written : (reached : ℕ) (slots : Buffer (Option Held)) (i number : ℕ) (now : Option Held) → AreSlots reached slots
    → number ≡ reached + 1 + i → i < length slots.items → (IsSome now → number ≤ max_sequence)
    → AreSlots reached (buffer (slice_set slots.items i now) slots.capacity)
are_written reached slots i number now are is within limit = record {
  limit = are.limit;
  full = length-set slots.items i now ∙ are.full;
  room = are.room;
  sequences = λ other some. elim (cases_eq other number) [
    | inl same ↦ (let there : IsSome now = subst (λ (o : Option Held). IsSome o) changes.changed
        (subst (λ (n : ℕ). IsSome (found (entries_from (reached + 1) (slice_set slots.items i now)) n)) same some) in
        omega (arith, limit there, same))
    | inr apart ↦ are.sequences other (subst (λ (o : Option Held). IsSome o) (changes.others other apart) some)
  ];
}
  where
    changes : ChangesAt (area_of reached slots.items) (area_of reached (slice_set slots.items i now)) number now
    changes = slot_changes reached slots.items i number now is within

-- a ring that has moved on shows the same after the next number
pub moved_slots : (reached : ℕ) (old new : Buffer (Option Held)) → AreSlots reached old
    → new ≡ buffer (keep_last old.capacity (old.items ++ None ∷ [])) old.capacity
    → held_at (area_of reached old.items) (reached + 1) ≡ None → entries_from (reached + 1 + 1) new.items ≡ entries_from
    (reached + 1) old.items
moved_slots reached old new are is free =
    let items : new.items ≡ keep_last 64 (old.items ++ None ∷ []) = ap (λ (b : Buffer (Option Held)). b.items) is
    ∙ ap (λ n. keep_last n (old.items ++ None ∷ [])) are.room in
    ap (λ s. entries_from (reached + 1 + 1) s) items ∙ moved (reached + 1) old.items are.full free

pub are_moved : (reached : ℕ) (old new : Buffer (Option Held)) → AreSlots reached old → reached < max_sequence
    → new ≡ buffer (keep_last old.capacity (old.items ++ None ∷ [])) old.capacity
    → held_at (area_of reached old.items) (reached + 1) ≡ None → AreSlots (reached + 1) new
are_moved reached old new are room is free =
    let items : new.items ≡ keep_last 64 (old.items ++ None ∷ []) = ap (λ (b : Buffer (Option Held)). b.items) is
    ∙ ap (λ n. keep_last n (old.items ++ None ∷ [])) are.room in
    record {
      limit = omega arith;
      full = ap (λ (s : List (Option Held)). length s) items ∙ moved_length old.items are.full;
      room = ap (λ (b : Buffer (Option Held)). b.capacity) is ∙ are.room;
      sequences = λ number some. are.sequences number (subst (λ (es : List (ℕ × Held)). IsSome (found es number))
          (moved_slots reached old new are is free) some);
    }

pub moved_area : (reached : ℕ) (old new : Buffer (Option Held)) → AreSlots reached old
    → new ≡ buffer (keep_last old.capacity (old.items ++ None ∷ [])) old.capacity
    → held_at (area_of reached old.items) (reached + 1) ≡ None → area_of (reached + 1) new.items ≡ record {
      reached = reached + 1;
      entries = entries_from (reached + 1) old.items;
    }
unfolding made
moved_area reached old new are is free =
    ap (λ es. made (reached + 1) es) (moved_slots reached old new are is free)
