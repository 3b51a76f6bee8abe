-- The decimals of a coordinate are the digits of a number that has a 1 before them.
use Rattle.std.proofs.Common.{◌≡◌, ℕ, zero, suc, ◌+◌, ◌*◌, ◌/◌, ◌%◌, ◌^◌, ◌<◌, ◌≤◌, true, false, List, [], ◌∷◌, ◌++◌}
use Rattle.std.proofs.Common.{drop, inl, inr, refl, sym, ap, ◌∙◌, arith, lit<}
use Rattle.std.specs.Prelude.{◌==◌}
use Rattle.std.proofs.lemmas.Bool.{cases_lt}
use Rattle.std.proofs.lemmas.Bool.Decides.{nat_tests}
use Rattle.std.proofs.lemmas.Fmt.{decimal_digit, decimal_step}
use Rattle.std.proofs.lemmas.List.{drop-drop}
use Rattle.std.proofs.Math.Nat.{one-le-pow, pow-le-pow_right}
use Rattle.std.specs.Fmt.{decimal}
use Rattle.osm_opl.specs.Written.{decimals}

-- the last digits of a number, as many as are asked for
abbrev pub padded : ℕ → ℕ → List ℕ
padded zero n = []
padded (suc k) n = padded k (n / 10) ++ (48 + n % 10) ∷ []

-- what moving by one digit keeps
record Moves (k n : ℕ) : Type 0 where
  over : n / 10 / 10 ^ k ≡ n / 10 ^ suc k
  back : n / 10 % 10 ^ k ≡ n % 10 ^ suc k / 10
  last : n % 10 ≡ n % 10 ^ suc k % 10
  up : n * 10 / 10 ^ suc k ≡ n / 10 ^ k
  rest : n * 10 % 10 ^ suc k ≡ n % 10 ^ k * 10
  below : n % 10 ^ k < 10 ^ k

moves : (k n : ℕ) → k ≤ 6 → Moves k n
moves zero n h = record { over = omega arith; back = omega arith; last = omega arith; up = omega arith; rest = omega arith; below = omega arith }
moves (suc zero) n h = record { over = omega arith; back = omega arith; last = omega arith; up = omega arith; rest = omega arith; below = omega arith }
moves (suc (suc zero)) n h = record { over = omega arith; back = omega arith; last = omega arith; up = omega arith; rest = omega arith; below = omega arith }
moves (suc (suc (suc zero))) n h = record {
  over = omega arith;
  back = omega arith;
  last = omega arith;
  up =
      omega arith;
  rest = omega arith;
  below = omega arith;
}
moves (suc (suc (suc (suc zero)))) n h = record {
  over = omega arith;
  back = omega arith;
  last = omega arith;
  up =
      omega arith;
  rest = omega arith;
  below = omega arith;
}
moves (suc (suc (suc (suc (suc zero))))) n h = record {
  over = omega arith;
  back = omega arith;
  last = omega arith;
  up =
      omega arith;
  rest = omega arith;
  below = omega arith;
}
moves (suc (suc (suc (suc (suc (suc zero)))))) n h = record {
  over = omega arith;
  back = omega arith;
  last =
      omega arith;
  up = omega arith;
  rest = omega arith;
  below = omega arith;
}
moves (suc (suc (suc (suc (suc (suc (suc k))))))) n h = absurd (omega arith)

-- the digits of a number that has a 1 before them
after_one : (k n : ℕ) → k ≤ 7 → n < 10 ^ k → decimal (10 ^ k + n) ≡ 49 ∷ padded k n
after_one zero n le h = let z : n < 1 = h in let e : 10 ^ 0 + n ≡ 1 = omega arith in rw e (decimal_digit 1 (lit< tt))
after_one (suc k) n le h =
    let some : 1 ≤ 10 ^ k = one-le-pow k 10 (lit< tt) in
    let most : 10 ^ k ≤ 10 ^ 6 = pow-le-pow_right {n = 10} (lit< tt) {i = k} {j = 6} (omega arith) in
    let step : decimal (10 ^ suc k + n) ≡ decimal ((10 ^ suc k + n) / 10) ++ ((48 + (10 ^ suc k + n) % 10) ∷ []) =
    decimal_step (10 ^ suc k + n) (omega arith) (omega arith) in
    let front : (10 ^ suc k + n) / 10 ≡ 10 ^ k + n / 10 = omega arith in
    let last : (10 ^ suc k + n) % 10 ≡ n % 10 = omega arith in
    let inner : decimal (10 ^ k + n / 10) ≡ 49 ∷ padded k (n / 10) = after_one k (n / 10) (omega arith) (omega arith) in
    step ∙ ap (λ (d : ℕ). decimal ((10 ^ suc k + n) / 10) ++ ((48 + d) ∷ [])) last
    ∙ ap (λ (m : ℕ). decimal m ++ ((48 + n % 10) ∷ [])) front ∙ ap (λ (l : List ℕ). l ++ ((48 + n % 10) ∷ [])) inner

-- the first digit and the others
first_padded : (k n : ℕ) → k ≤ 6 → n < 10 ^ suc k → padded (suc k) n ≡ (48 + n / 10 ^ k) ∷ padded k (n % 10 ^ k)
first_padded zero n le h = let z : n < 10 = h in let e : n % 10 ≡ n / 10 ^ 0 = omega arith in ap (λ (d : ℕ). (48 + d) ∷ []) e
first_padded (suc k) n le h =
    let m : Moves k n = moves k n (omega arith) in
    let inner : padded (suc k) (n / 10) ≡ (48 + n / 10 / 10 ^ k) ∷ padded k (n / 10 % 10 ^ k) = first_padded k (n / 10) (omega arith) (omega arith) in
    ap (λ (l : List ℕ). l ++ ((48 + n % 10) ∷ [])) inner
    ∙ ap (λ (d : ℕ). (48 + d) ∷ (padded k (n / 10 % 10 ^ k) ++ ((48 + n % 10) ∷ []))) m.over
    ∙ ap (λ (r : ℕ). (48 + n / 10 ^ suc k) ∷ (padded k r ++ ((48 + n % 10) ∷ []))) m.back
    ∙ ap (λ (d : ℕ). (48 + n / 10 ^ suc k) ∷ (padded k (n % 10 ^ suc k / 10) ++ ((48 + d) ∷ []))) m.last

-- a fraction whose last digit isn't 0 has all its digits
pub all_decimals : (k n : ℕ) → k ≤ 7 → n < 10 ^ k → 0 < n % 10 → decimals k n ≡ padded k n
unfolding decimals
all_decimals zero n le h some = refl
all_decimals (suc zero) n le h some =
    let z : n < 10 = h in
    let test : (n == 0) ≡ false = grind (arith, nat_tests) in
    let e : n / 10 ^ 0 ≡ n % 10 = omega arith in
    rw test (ap (λ (d : ℕ). (48 + d) ∷ []) e)
all_decimals (suc (suc k)) n le h some =
    let test : (n == 0) ≡ false = grind (arith, nat_tests) in
    let m : Moves k n = moves k n (omega arith) in
    let o : Moves (suc k) n = moves (suc k) n (omega arith) in
    let inner : decimals (suc k) (n % 10 ^ suc k) ≡ padded (suc k) (n % 10 ^ suc k) =
    all_decimals (suc k) (n % 10 ^ suc k) (omega arith) o.below (omega (arith, m.last)) in
    let step : decimals (suc (suc k)) n ≡ (48 + n / 10 ^ suc k) ∷ decimals (suc k) (n % 10 ^ suc k) = rw test refl in
    step ∙ ap (λ (l : List ℕ). (48 + n / 10 ^ suc k) ∷ l) inner ∙ sym (first_padded (suc k) n (omega arith) h)

-- a zero at the end adds nothing
pub less_zero : (k n : ℕ) → k ≤ 6 → n < 10 ^ k → decimals (suc k) (n * 10) ≡ decimals k n
unfolding decimals
less_zero zero n le h =
    let z : n < 1 = h in
    let test : (n * 10 == 0) ≡ true = grind (arith, nat_tests) in
    rw test refl
less_zero (suc k) n le h =
    elim (cases_lt 0 n) [
      | inr nothing ↦
          let test : (n == 0) ≡ true = grind (arith, nat_tests) in
          let more : (n * 10 == 0) ≡ true = grind (arith, nat_tests) in
          rw (test, more) refl
      | inl some ↦
          let test : (n == 0) ≡ false = grind (arith, nat_tests) in
          let more : (n * 10 == 0) ≡ false = grind (arith, nat_tests) in
          let m : Moves k n = moves k n (omega arith) in
          let o : Moves (suc k) n = moves (suc k) n (omega arith) in
          let inner : decimals (suc k) (n % 10 ^ k * 10) ≡ decimals k (n % 10 ^ k) = less_zero k (n % 10 ^ k) (omega arith) m.below in
          let left : decimals (suc (suc k)) (n * 10) ≡ (48 + n * 10 / 10 ^ suc k) ∷ decimals (suc k) (n * 10 % 10 ^ suc k) = rw more refl in
          let right : decimals (suc k) n ≡ (48 + n / 10 ^ k) ∷ decimals k (n % 10 ^ k) = rw test refl in
          left
          ∙ ap (λ (d : ℕ). (48 + d) ∷ decimals (suc k) (n * 10 % 10 ^ suc k)) m.up
          ∙ ap (λ (r : ℕ). (48 + n / 10 ^ k) ∷ decimals (suc k) r) m.rest
          ∙ ap (λ (l : List ℕ). (48 + n / 10 ^ k) ∷ l) inner
          ∙ sym right
    ]

-- trailing zeros are taken from a fraction that has a 1 before it
pub record Stripped (part number : ℕ) : Type 0 where
  pub places : ℕ
  pub rest : ℕ
  pub few : places ≤ 7
  pub some : 0 < rest
  pub below : rest < 10 ^ places
  pub is : number ≡ 10 ^ places + rest
  pub same : decimals places rest ≡ decimals 7 part

pub strip_begun : (part : ℕ) → 0 < part → part < 10 ^ 7 → Stripped part (10000000 + part)
strip_begun part some h = record { places = 7; rest = part; few = omega arith; some = some; below = h; is = omega arith; same = refl }

pub strip_more : (part number : ℕ) → Stripped part number → number % 10 ≡ 0 → Stripped part (number / 10)
strip_more part number h e = strip h.places h.rest h.few h.some h.below h.is h.same
  where
    strip : (places rest : ℕ) → places ≤ 7 → 0 < rest → rest < 10 ^ places → number ≡ 10 ^ places + rest
        → decimals places rest ≡ decimals 7 part → Stripped part (number / 10)
    strip zero rest few some below is same = absurd (let z : rest < 1 = below in omega arith)
    strip (suc k) rest few some below is same =
        let zero_last : rest % 10 ≡ 0 = omega arith in
        let back : rest / 10 * 10 ≡ rest = omega arith in
        let less : decimals (suc k) (rest / 10 * 10) ≡ decimals k (rest / 10) = less_zero k (rest / 10) (omega arith) (omega arith) in
        record {
          places = k;
          rest = rest / 10;
          few = omega arith;
          some = omega arith;
          below = omega arith;
          is = omega arith;
          same = sym less ∙ ap (decimals (suc k)) back ∙ same;
        }

-- two zeros at once
pub strip_two : (part number : ℕ) → Stripped part number → number % 100 ≡ 0 → Stripped part (number / 100)
strip_two part number h e =
    let twice : number / 10 / 10 ≡ number / 100 = omega arith in
    let once : Stripped part (number / 10) = strip_more part number h (omega arith) in
    rw (← twice) (strip_more part (number / 10) once (omega arith))

pub strip_done : (part number : ℕ) → Stripped part number → 0 < number % 10 → decimal number ≡ 49 ∷ decimals 7 part
strip_done part number h some = strip h.places h.rest h.few h.some h.below h.is h.same
  where
    strip : (places rest : ℕ) → places ≤ 7 → 0 < rest → rest < 10 ^ places → number ≡ 10 ^ places + rest
        → decimals places rest ≡ decimals 7 part → decimal number ≡ 49 ∷ decimals 7 part
    strip zero rest few some below is same = absurd (let z : rest < 1 = below in omega arith)
    strip (suc k) rest few more below is same =
        let last : 0 < rest % 10 = omega arith in
        ap decimal is ∙ after_one (suc k) rest few below ∙ ap (λ (l : List ℕ). 49 ∷ l) (sym (all_decimals (suc k) rest few below last) ∙ same)

-- what follows the 1, where the digits end the room
pub after_first : (room : List ℕ) (i x : ℕ) (ds : List ℕ) → drop i room ≡ x ∷ ds → drop (i + 1) room ≡ ds
after_first room i x ds e = sym (drop-drop 1 i room) ∙ ap (drop 1) e
