-- Numbers without a gap, and what is joined between them.
use Rattle.std.proofs.Common.{◌≡◌, ℕ, zero, suc, ◌+◌, ◌<◌, ◌≤◌, List, [], ◌∷◌, ◌++◌, refl, ap, sym, ◌∙◌, Bool, true}
use Rattle.std.proofs.Common.{false, arith, append-nil, append_assoc, inl, inr}
use Rattle.std.proofs.lemmas.Bool.{cases_lt, cases_Bool}
use Rattle.std.specs.Prelude.{filter, not, ◌-◌}
use Rattle.osm_follow.specs.Reach.{Reaches, between, numbers}

pub between-append : {A : Type 0} (f : ℕ → List A) (n c d : ℕ) → between f n c ++ between f (n + c) d ≡ between f n (c + d)
between-append f n c zero = let same : c + 0 ≡ c = omega arith in rw (append-nil, same) refl
between-append f n c (suc d) =
    let more : c + suc d ≡ suc (c + d) = omega arith in
    let last : n + c + suc d ≡ n + suc (c + d) = omega arith in
    rw (more, last) (sym (append_assoc (between f n c) (between f (n + c) d) (f (n + suc (c + d))))
    ∙ ap (λ xs. xs ++ f (n + suc (c + d))) (between-append f n c d))

pub between-suc : {A : Type 0} (f : ℕ → List A) (n c k : ℕ) → k ≡ n + c + 1 → between f n (c + 1) ≡ between f n c ++ f k
between-suc f n c k is =
    let more : c + 1 ≡ suc c = omega arith in
    let last : k ≡ n + suc c = omega arith in
    rw (more, last) refl

pub between_same : {A : Type 0} (f g : ℕ → List A) (n c : ℕ) → ((j : ℕ) → n < j → j ≤ n + c → f j ≡ g j) → between f n c ≡ between g n c
between_same f g n zero same = refl
between_same f g n (suc c) same =
    ap (λ xs. xs ++ f (n + suc c)) (between_same f g n c (λ j above below. same j above (omega arith)))
    ∙ ap (λ ys. between g n c ++ ys) (same (n + suc c) (omega arith) (omega arith))

-- one more number
pub all_more : (is_in : ℕ → Bool) (low high : ℕ) → ((j : ℕ) → low < j → j ≤ high → is_in j ≡ true)
    → is_in (high + 1) ≡ true → (j : ℕ) → low < j → j ≤ high + 1 → is_in j ≡ true
all_more is_in low high all next j above below = elim (cases_lt high j) [
  | inl past ↦ (let same : j ≡ high + 1 = omega arith in rw same next)
  | inr within ↦ all j above within
]

-- if nothing after n + c is in, some number is the last one without a gap
pub reaches_some : (is_in : ℕ → Bool) (n c : ℕ) → ((j : ℕ) → n + c < j → is_in j ≡ false) → (m : ℕ) × Reaches is_in n m
reaches_some is_in n zero none = (n, record { from = omega arith; all = λ j above below. absurd (omega arith); next = none (n + 1) (omega arith) })
reaches_some is_in n (suc c) none = elim (cases_Bool (is_in (n + 1))) [
  | inr out ↦ (n, record { from = omega arith; all = λ j above below. absurd (omega arith); next = out })
  | inl has ↦ (let rest : (m : ℕ) × Reaches is_in (n + 1) m = reaches_some is_in (n + 1) c (λ j past. none j (omega arith)) in (
    rest.0,
    record {
      from = (let from = rest.1.from in omega arith);
      all = λ j above below. elim (cases_lt (n + 1) j) [ inl past ↦ rest.1.all j past below | inr until ↦ (let is : j ≡ n + 1 = omega arith in rw is has) ];
      next = rest.1.next;
    },
  ))
]

-- two tests that agree after n reach the same number from there
pub reaches_same : (is_in are_in : ℕ → Bool) (n m : ℕ) → ((j : ℕ) → n < j → is_in j ≡ are_in j) → Reaches is_in n m → Reaches are_in n m
reaches_same is_in are_in n m same r =
    let from = r.from in
    record {
      from = r.from;
      all = λ j above below. sym (same j above) ∙ r.all j above below;
      next = sym (same (m + 1) (omega arith)) ∙ r.next;
    }

-- of the numbers n + 1 to n + count, those that aren't in
abbrev pub missing_among : (ℕ → Bool) → ℕ → ℕ → List ℕ
missing_among is_in n count = filter (λ j. not (is_in j)) (numbers n count)
