-- Lists that are the same where they are compared.
use Rattle.std.proofs.Common.{◌≡◌, ℕ, ◌+◌, ◌-◌, ◌*◌, ◌≤◌, ◌++◌, List, take, drop, zero, suc}
use Rattle.std.proofs.Common.{refl, sym, ◌∙◌, ap, arith, rules}
use Rattle.std.proofs.Math.Seq.{take-add}
use Rattle.std.proofs.lemmas.List.{drop-drop, take-append-drop}
use Rattle.std.specs.Simd.{first_chunks}

-- lists with the same elements up to k, and from m on, where m isn't after k
pub covered : (k m : ℕ) (xs ys : List ℕ) → m ≤ k → take k xs ≡ take k ys → drop m xs ≡ drop m ys
    → xs ≡ ys
covered k m xs ys le front back =
    let whole : m + (k - m) ≡ k = omega arith in
    let rest : drop (m + (k - m)) xs ≡ drop (m + (k - m)) ys =
    sym (drop-drop (k - m) m xs) ∙ ap (drop (k - m)) back ∙ drop-drop (k - m) m ys in
    let tail : drop k xs ≡ drop k ys = rw (sym whole) rest in
    sym (take-append-drop k xs) ∙ ap (λ a. a ++ drop k xs) front
    ∙ ap (λ b. take k ys ++ b) tail ∙ take-append-drop k ys

-- lists with the same chunks are the same up to their end
pub same_front : (k : ℕ) (xs ys : List ℕ) → first_chunks 8 k xs ≡ first_chunks 8 k ys
    → take (k * 8) xs ≡ take (k * 8) ys
same_front zero xs ys e = refl
same_front (suc k) xs ys e =
    let head : take 8 xs ≡ take 8 ys = search rules in
    let tail : first_chunks 8 k (drop 8 xs) ≡ first_chunks 8 k (drop 8 ys) = search rules in
    let count : suc k * 8 ≡ 8 + k * 8 = omega arith in
    rw count (take-add 8 (k * 8) xs ∙ ap (λ a. a ++ take (k * 8) (drop 8 xs)) head
    ∙ ap (λ b. take 8 ys ++ b) (same_front k (drop 8 xs) (drop 8 ys) tail)
    ∙ sym (take-add 8 (k * 8) ys))
