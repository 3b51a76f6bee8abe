-- Numbers without a gap.
use Rattle.std.proofs.Common.{◌≡◌, ℕ, ◌+◌, ◌<◌, ◌≤◌, sym, ◌∙◌, Bool, true, false, arith, inl, inr}
use Rattle.std.specs.Prelude.{◌==◌, ◌||◌}
use Rattle.std.proofs.lemmas.Bool.{cases_eq, cases_lt, eq-eqb, ne_eqb, or_left, or_right, or_from}
use Rattle.osm_follow.specs.Reach.{Reaches}

-- only one number is the greatest that is reached without a gap
pub one_reach : (is_in : ℕ → Bool) (n a b : ℕ) → Reaches is_in n a → Reaches is_in n b → a ≡ b
one_reach is_in n a b p q = elim (cases_lt a b) [
  | inl below ↦ absurd (past a b p q below)
  | inr above ↦ elim (cases_lt b a) [
    | inl below ↦ absurd (past b a q p below)
    | inr same ↦ omega arith
  ]
]
  where
    past : (x y : ℕ) → Reaches is_in n x → Reaches is_in n y → x < y → ⊥
    past x y r s below =
        let from = r.from in
        let yes : is_in (x + 1) ≡ true = s.all (x + 1) (omega arith) (omega arith) in
        let none : is_in (x + 1) ≡ false = r.next in
        let bad : true ≡ false = sym yes ∙ none in cc

-- with more numbers in, the number reached isn't lower
pub reaches_more : (f g : ℕ → Bool) (n a b : ℕ) → Reaches f n a → Reaches g n b → ((j : ℕ) → f j ≡ true → g j ≡ true) → a ≤ b
reaches_more f g n a b r s more = elim (cases_lt b a) [
  | inr le ↦ le
  | inl less ↦ absurd (
      let from = s.from in
      let out : g (b + 1) ≡ false = s.next in
      let has : g (b + 1) ≡ true = more (b + 1) (r.all (b + 1) (omega arith) (omega arith)) in
      let bad : true ≡ false = sym has ∙ out in cc)
]

-- if the next number comes in, all numbers are reached that are reached from it
pub reaches_with_next : (f : ℕ → Bool) (start n k high : ℕ) → Reaches f start n → k ≡ n + 1 → Reaches f k high → Reaches (λ j. (k == j) || f j) start high
reaches_with_next f start n k high here next on =
    let start_from = here.from in
    let from = on.from in
    record {
      from = omega arith;
      all = λ j above below. elim (cases_eq k j) [
        | inl is ↦ or_left (k == j) (f j) (eq-eqb k j is)
        | inr ne ↦ or_right (k == j) (f j) (elim (cases_lt j k) [
          | inl earlier ↦ here.all j above (omega arith)
          | inr later ↦ on.all j (omega arith) below
        ])
      ];
      next = or_from (k == (high + 1)) (f (high + 1)) (ne_eqb k (high + 1) (λ e. omega arith)) on.next;
    }

-- if a number beyond the next comes in, nothing more is reached
pub reaches_with_later : (f : ℕ → Bool) (start n k : ℕ) → Reaches f start n → n + 1 < k → Reaches (λ j. (k == j) || f j) start n
reaches_with_later f start n k here later = record {
  from = here.from;
  all = λ j above below. or_right (k == j) (f j) (here.all j above below);
  next = or_from (k == (n + 1)) (f (n + 1)) (ne_eqb k (n + 1) (λ e. omega arith)) here.next;
}
