-- The line of a number and its count.
use Rattle.std.proofs.Common.{◌≡◌, ℕ, ◌<◌, ◌≤◌, ◌^◌, List, ◌∷◌, ◌++◌, refl, ◌∙◌, Bool, true, ◌&&◌, Option, Some, None, subst, arith}
use Rattle.std.specs.Prelude.{nat_le, nat_lt, if◌then◌else◌, decimal}
use Rattle.std.specs.Ordering.{nat_cmp}
use Rattle.std.proofs.lemmas.Bool.Decides.{nat_tests}
use Rattle.std.proofs.lemmas.Option.{same_Some}
use Rattle.osm_model.specs.Limits.{IsPositive}
use Rattle.osm_mirror.specs.Mirror.{Counted}
use Rattle.osm_reading.specs.Pieces.{cut_at}
use Rattle.osm_reading.specs.Answers.{and_then}
use Rattle.osm_reading.proofs.PieceLemmas.{cut_again, cut_takes}
use Rattle.osm_reading.proofs.StepLemmas.{both_held, guard_some, some_then}
use Rattle.osm_save.specs.Save.{count_text}
use Rattle.osm_save.specs.Reading.{count_at, is_above, number_at}
use Rattle.osm_save.proofs.NumberLemmas.{decimal_lacks, number_again, number_takes}

-- what is read from a line
pub record TakesCount (most : ℕ) (last : Option ℕ) (line : List ℕ) (e : Counted) : Type 0 where
  pub text : line ≡ count_text e
  pub number : IsPositive e.0
  pub some : 1 ≤ e.1
  pub few : e.1 ≤ most
  pub above : is_above nat_cmp last e.0 ≡ true

abbrev is_kept : ℕ → Option ℕ → ℕ → ℕ → Bool
is_kept most last n k = nat_le 1 n && nat_lt n (2 ^ 32) && nat_le 1 k && nat_le k most && is_above nat_cmp last n

same_parts : (a b x y : List ℕ) → a ≡ x → b ≡ y → a ++ 32 ∷ b ≡ x ++ 32 ∷ y
same_parts a b x y p q = rw (p, q) refl

pub count_takes : (most : ℕ) (last : Option ℕ) (line : List ℕ) (e : Counted) → count_at most last line ≡ Some e → TakesCount most last line e
unfolding count_at
count_takes most last line e h =
    let p = some_then (cut_at 32 line) (λ (p : List ℕ × List ℕ). and_then {A = ℕ} {B = Counted} (number_at p.0)
    (λ (n : ℕ). and_then {A = ℕ} {B = Counted} (number_at p.1) (λ (k : ℕ). if is_kept most last n k then Some
    (n, k) else None))) e h in
    let n = some_then (number_at p.0.0) (λ (n : ℕ). and_then {A = ℕ} {B = Counted} (number_at p.0.1)
    (λ (k : ℕ). if is_kept most last n k then Some (n, k) else None)) e p.2 in
    let k = some_then (number_at p.0.1) (λ (k : ℕ). if is_kept most last n.0 k then Some (n.0, k) else None) e n.2 in
    let g = guard_some (is_kept most last n.0 k.0) (Some (n.0, k.0)) e k.2 in
    let a = both_held (nat_le 1 n.0 && nat_lt n.0 (2 ^ 32) && nat_le 1 k.0 && nat_le k.0 most) (is_above nat_cmp last n.0) g.0 in
    let b = both_held (nat_le 1 n.0 && nat_lt n.0 (2 ^ 32) && nat_le 1 k.0) (nat_le k.0 most) a.0 in
    let d = both_held (nat_le 1 n.0 && nat_lt n.0 (2 ^ 32)) (nat_le 1 k.0) b.0 in
    let f = both_held (nat_le 1 n.0) (nat_lt n.0 (2 ^ 32)) d.0 in
    let low : nat_le 1 n.0 ≡ true = f.0 in
    let high : nat_lt n.0 (2 ^ 32) ≡ true = f.1 in
    let some : nat_le 1 k.0 ≡ true = d.1 in
    let few : nat_le k.0 most ≡ true = b.1 in
    let first = number_takes p.0.0 n.0 n.1 in
    let second = number_takes p.0.1 k.0 k.1 in
    subst (λ (x : Counted). TakesCount most last line x) (same_Some (n.0, k.0) e g.1) (record {
      text = cut_takes 32 line p.0.0 p.0.1 p.1 ∙ same_parts p.0.0 p.0.1 (decimal n.0) (decimal k.0) first.text second.text;
      number = record { low = grind (arith, nat_tests); high = grind (arith, nat_tests) };
      some = grind (arith, nat_tests);
      few = grind (arith, nat_tests);
      above = a.1;
    })

pub count_again : (most : ℕ) (last : Option ℕ) (e : Counted) → most < 1000000000000000000 → IsPositive e.0 → 1 ≤ e.1
    → e.1 ≤ most → is_above nat_cmp last e.0 ≡ true → count_at most last (count_text e) ≡ Some e
unfolding count_at
count_again most last e small number some few above =
    let positive : 1 ≤ e.0 = number.low in
    let fits : e.0 < 2 ^ 32 = number.high in
    let cut : cut_at 32 (count_text e) ≡ Some (decimal e.0, decimal e.1) = cut_again 32 (decimal e.0) (decimal e.1)
    (decimal_lacks 32 e.0 (omega arith) (omega arith)) in
    let first : number_at (decimal e.0) ≡ Some e.0 = number_again e.0 (omega arith) in
    let second : number_at (decimal e.1) ≡ Some e.1 = number_again e.1 (omega arith) in
    let t_low : nat_le 1 e.0 ≡ true = grind (arith, nat_tests) in
    let t_high : nat_lt e.0 (2 ^ 32) ≡ true = grind (arith, nat_tests) in
    let t_some : nat_le 1 e.1 ≡ true = grind (arith, nat_tests) in
    let t_few : nat_le e.1 most ≡ true = grind (arith, nat_tests) in
    rw (cut, first, second, t_low, t_high, t_some, t_few, above) refl
