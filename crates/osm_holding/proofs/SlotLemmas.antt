-- What an area holds, seen from the slots of its ring.
use Rattle.std.proofs.Common.{◌≡◌, ℕ, zero, suc, ◌+◌, ◌-◌, ◌<◌, ◌≤◌, ◌≢◌, List, [], ◌∷◌, ◌++◌, length, take, refl, ap}
use Rattle.std.proofs.Common.{sym, ◌∙◌, true, false, arith, None, Some, Option, inl, inr, length-append, length-drop}
use Rattle.std.proofs.Common.{add-one, subst, Bool}
use Rattle.std.specs.Prelude.{slice_get, slice_set, ◌==◌, ◌↔◌, IsSome, IsTrue, OnSome, is_some}
use Rattle.std.specs.Map.{lookup, keys_of}
use Rattle.std.specs.Option.{option_flatten}
use Rattle.std.specs.Bool.{OnFalse}
use Rattle.std.proofs.lemmas.Bool.{OnFalse_from, cases_lt, eq-eqb, false≢true, ne_eqb}
use Rattle.std.proofs.lemmas.List.{append-nil, take_all}
use Rattle.std.proofs.lemmas.Option.{slice_get_past}
use Rattle.circular_buffer.specs.Buffer.{keep_last}
use Rattle.osm_holding.specs.declared.holding.Held.{Held}
use Rattle.osm_holding.specs.Holding.{IsInWindow, ChangesAt}
use Rattle.osm_holding.specs.Steps.Slots.{entries_from, area_of}

-- what a list of entries has at a number
abbrev pub found : List (ℕ × Held) → ℕ → Option Held
found entries number = lookup (λ key. number == key) entries

-- nothing is held below the first number
pub found_below : (first : ℕ) (slots : List (Option Held)) (number : ℕ) → number < first → found (entries_from first slots) number ≡ None
found_below first [] number below = refl
found_below first (None ∷ slots) number below = found_below (first + 1) slots number (omega arith)
found_below first (Some held ∷ slots) number below =
    let other : (number == first) ≡ false = ne_eqb number first (λ e. omega arith) in
    rw other (found_below (first + 1) slots number (omega arith))

-- what is held at a number is what its slot holds
pub found_at : (first : ℕ) (slots : List (Option Held)) (number i : ℕ) → number ≡ first + i
    → found (entries_from first slots) number ≡ option_flatten (slice_get slots i)
found_at first [] number zero is = refl
found_at first [] number (suc i) is = refl
found_at first (None ∷ slots) number zero is = found_below (first + 1) slots number (omega arith)
found_at first (None ∷ slots) number (suc i) is = found_at (first + 1) slots number i (omega arith)
found_at first (Some held ∷ slots) number zero is =
    let same : (number == first) ≡ true = eq-eqb number first (omega arith) in
    rw same refl
found_at first (Some held ∷ slots) number (suc i) is =
    let other : (number == first) ≡ false = ne_eqb number first (λ e. omega arith) in
    rw other (found_at (first + 1) slots number i (omega arith))

-- a slot that is written holds what was written, and the others hold what they held before
slice_get-set_same : (slots : List (Option Held)) (i : ℕ) (now : Option Held) → i < length slots → slice_get (slice_set slots i now) i ≡ Some now
slice_get-set_same [] i now within = absurd (omega arith)
slice_get-set_same (s ∷ slots) zero now within = refl
slice_get-set_same (s ∷ slots) (suc i) now within = slice_get-set_same slots i now (omega arith)

slice_get-set_other : (slots : List (Option Held)) (i j : ℕ) (now : Option Held) → j ≢ i → slice_get (slice_set slots i now) j ≡ slice_get slots j
slice_get-set_other [] i j now apart = refl
slice_get-set_other (s ∷ slots) zero zero now apart = absurd (apart refl)
slice_get-set_other (s ∷ slots) zero (suc j) now apart = refl
slice_get-set_other (s ∷ slots) (suc i) zero now apart = refl
slice_get-set_other (s ∷ slots) (suc i) (suc j) now apart = slice_get-set_other slots i j now (λ e. apart (ap suc e))

-- a write to a slot changes what is held at its number, and nothing else
pub slot_changes : (reached : ℕ) (slots : List (Option Held)) (i number : ℕ) (now : Option Held) → number ≡ reached + 1 + i
    → i < length slots → ChangesAt (area_of reached slots) (area_of reached (slice_set slots i now)) number now
slot_changes reached slots i number now is within = record {
  reached = refl;
  changed = found_at (reached + 1) (slice_set slots i now) number i is ∙ ap option_flatten (slice_get-set_same slots i now within);
  others = λ other apart. elim (cases_lt reached other) [
    | inl above ↦ (let j : ℕ = other - reached - 1 in
        let apart_too : j ≢ i = λ e. apart (omega arith) in
        found_at (reached + 1) (slice_set slots i now) other j (omega arith)
        ∙ (ap option_flatten (slice_get-set_other slots i j now apart_too)
        ∙ sym (found_at (reached + 1) slots other j (omega arith))))
    | inr below ↦ found_below (reached + 1) (slice_set slots i now) other (omega arith) ∙ sym (found_below (reached + 1) slots other (omega arith))
  ];
}

-- an empty slot at the back shows nothing more
entries_from-none : (first : ℕ) (slots : List (Option Held)) → entries_from first (slots ++ None ∷ []) ≡ entries_from first slots
entries_from-none first [] = refl
entries_from-none first (None ∷ slots) = entries_from-none (first + 1) slots
entries_from-none first (Some held ∷ slots) = ap (λ es. (first, held) ∷ es) (entries_from-none (first + 1) slots)

-- a ring whose first slot is empty shows the same after it has moved on
pub moved : (first : ℕ) (slots : List (Option Held)) → length slots ≡ 64 → found (entries_from first slots) first ≡ None
    → entries_from (first + 1) (keep_last 64 (slots ++ None ∷ [])) ≡ entries_from first slots
moved first [] full free = absurd (omega arith)
moved first (None ∷ slots) full free =
    let one : length (None ∷ (slots ++ None ∷ [])) - 64 ≡ suc 0 = omega (arith, length-append slots (None ∷ [])) in
    rw one (entries_from-none (first + 1) slots)
moved first (Some held ∷ slots) full free =
    let there : Some held ≡ None = sym (found_at first (Some held ∷ slots) first 0 (omega arith)) ∙ free in
    cc

pub moved_length : (slots : List (Option Held)) → length slots ≡ 64 → length (keep_last 64 (slots ++ None ∷ [])) ≡ 64
moved_length slots full =
    let one : length (slots ++ None ∷ []) - 64 ≡ 1 = omega (arith, length-append slots (None ∷ [])) in
    rw one (omega (arith, length-drop 1 (slots ++ None ∷ []), length-append slots (None ∷ [])))

-- what is held is in the window
none_is_not_some : (o : Option Held) → o ≡ None → IsSome o → ⊥
none_is_not_some None is some = cc
none_is_not_some (Some held) is some = cc

pub in_window : (reached : ℕ) (slots : List (Option Held)) (number : ℕ) → length slots ≡ 64
    → IsSome (found (entries_from (reached + 1) slots) number) → IsInWindow reached number
in_window reached slots number full some = elim (cases_lt reached number) [
  | inl above ↦ elim (cases_lt (reached + 64) number) [
    | inl past ↦ (let i : ℕ = number - reached - 1 in
        absurd (none_is_not_some _ (found_at (reached + 1) slots number i (omega arith) ∙ ap option_flatten (slice_get_past slots i (omega arith))) some))
    | inr within ↦ record { above = above; within = within }
  ]
  | inr below ↦ absurd (none_is_not_some _ (found_below (reached + 1) slots number (omega arith)) some)
]

-- the number of a slot, if it holds something
abbrev pub number_in : ℕ → Option (Option Held) → List ℕ
number_in number None = []
number_in number (Some None) = []
number_in number (Some (Some held)) = number ∷ []

-- the numbers that the first slots show
abbrev pub numbers_before : ℕ → List (Option Held) → ℕ → List ℕ
numbers_before first slots i = keys_of (entries_from first (take i slots))

pub numbers_before-suc : (first : ℕ) (slots : List (Option Held)) (i number : ℕ) → number ≡ first + i
    → numbers_before first slots (suc i) ≡ numbers_before first slots i ++ number_in number (slice_get slots i)
numbers_before-suc first [] zero number is = refl
numbers_before-suc first [] (suc i) number is = refl
numbers_before-suc first (None ∷ slots) zero number is = refl
numbers_before-suc first (Some held ∷ slots) zero number is =
    let same : first ≡ number = omega arith in
    ap (λ n. n ∷ []) same
numbers_before-suc first (None ∷ slots) (suc i) number is = numbers_before-suc (first + 1) slots i number (omega arith)
numbers_before-suc first (Some held ∷ slots) (suc i) number is = ap (λ ns. first ∷ ns) (numbers_before-suc (first + 1) slots i number (omega arith))

number_in-some : (number : ℕ) (slot : Option (Option Held)) → IsSome (option_flatten slot) → number_in number slot ≡ number ∷ []
number_in-some number None some = cc
number_in-some number (Some None) some = cc
number_in-some number (Some (Some held)) some = refl

number_in-none : (number : ℕ) (slot : Option (Option Held)) → (IsSome (option_flatten slot) → ⊥) → number_in number slot ≡ []
number_in-none number None free = refl
number_in-none number (Some None) free = refl
number_in-none number (Some (Some held)) free = absurd (free refl)

-- one more slot, which holds something or doesn't
pub numbers_before_held : (first : ℕ) (slots : List (Option Held)) (i number : ℕ) → number ≡ first + i
    → IsSome (found (entries_from first slots) number) → numbers_before first slots (i + 1) ≡
    numbers_before first slots i ++ number ∷ []
numbers_before_held first slots i number is some =
    let there : IsSome (option_flatten (slice_get slots i)) = subst (λ (o : Option Held). IsSome o) (found_at first slots number i is) some in
    rw add-one (numbers_before-suc first slots i number is ∙ ap (λ ns. numbers_before first slots i ++ ns) (number_in-some number (slice_get slots i) there))

pub numbers_before_free : (first : ℕ) (slots : List (Option Held)) (i number : ℕ) → number ≡ first + i
    → (IsSome (found (entries_from first slots) number) → ⊥) → numbers_before first slots (i + 1) ≡
    numbers_before first slots i
numbers_before_free first slots i number is free =
    let none : IsSome (option_flatten (slice_get slots i)) → ⊥ =
    λ some. free (subst (λ (o : Option Held). IsSome o) (sym (found_at first slots number i is)) some) in
    rw add-one (numbers_before-suc first slots i number is
    ∙ (ap (λ ns. numbers_before first slots i ++ ns) (number_in-none number (slice_get slots i) none)
    ∙ append-nil (numbers_before first slots i)))

pub count_before_held : (first : ℕ) (slots : List (Option Held)) (i number : ℕ) → number ≡ first + i
    → IsSome (found (entries_from first slots) number) → length (numbers_before first slots (i + 1)) ≡
    length (numbers_before first slots i) + 1
count_before_held first slots i number is some =
    ap (λ (ns : List ℕ). length ns) (numbers_before_held first slots i number is some)
    ∙ length-append (numbers_before first slots i) (number ∷ [])

pub count_before_free : (first : ℕ) (slots : List (Option Held)) (i number : ℕ) → number ≡ first + i
    → (IsSome (found (entries_from first slots) number) → ⊥) → length (numbers_before first slots (i + 1)) ≡
    length (numbers_before first slots i)
count_before_free first slots i number is free = ap (λ (ns : List ℕ). length ns) (numbers_before_free first slots i number is free)

-- all slots show all numbers
pub numbers_before_all : (first : ℕ) (slots : List (Option Held)) (n : ℕ) → length slots ≤ n → numbers_before first slots n ≡ keys_of (entries_from first slots)
numbers_before_all first slots n all = ap (λ s. keys_of (entries_from first s)) (take_all n slots all)

-- a slot's answer is that of its number
pub slot_tells : (o p : Option Held) (r : Bool) → r ≡ is_some p → o ≡ p → IsTrue r ↔ IsSome o
slot_tells o p r is same = (λ true_r. ap is_some same ∙ (sym is ∙ true_r), λ some. is ∙ (sym (ap is_some same) ∙ some))

pub slot_is_free : (o p : Option Held) (r : Bool) → r ≡ is_some p → o ≡ p → OnFalse r (o ≡ None)
slot_is_free o None r is same = OnFalse_from r (o ≡ None) (λ no. same)
slot_is_free o (Some held) r is same = OnFalse_from r (o ≡ None) (λ no. absurd (false≢true (sym no ∙ is)))

-- if there is no slot, nothing is held
pub none_tells : (o : Option Held) → o ≡ None → IsTrue false ↔ IsSome o
none_tells o is = slot_tells o None false refl is

pub none_is_free : (o : Option Held) → o ≡ None → OnFalse false (o ≡ None)
none_is_free o is = OnFalse_from false (o ≡ None) (λ no. is)

-- each index below the number of slots has a slot
pub slot_there : (slots : List (Option Held)) (i : ℕ) → i < length slots → slice_get slots i ≡ None → ⊥
slot_there [] i within is = omega arith
slot_there (s ∷ slots) zero within is = cc
slot_there (s ∷ slots) (suc i) within is = slot_there slots i (omega arith) is

-- what follows if something is held
pub OnSome_from : (o p : Option Held) (P : Type 0) → o ≡ p → (IsSome p → P) → OnSome o P
OnSome_from None p P is follows = tt
OnSome_from (Some held) p P is follows = follows (sym (ap is_some is))
