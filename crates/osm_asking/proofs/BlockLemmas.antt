-- A block of a file.
use Rattle.std.proofs.Common.{◌≡◌, ◌≢◌, ◌⊎◌, inl, inr, ℕ, ◌<◌, ◌≤◌, List, ◌++◌, length, take, drop, sym, ap, ◌∙◌, None, arith}
use Rattle.std.proofs.lemmas.List.{take-append-drop, drop_all, length-drop, length-append, take_all}
use Rattle.osm_reading.specs.Pieces.{cut_at}
use Rattle.osm_asking.specs.Steps.Reading.{IsBlockAt}

short_left : (most : ℕ) (xs : List ℕ) → length (take most xs) < most → length xs ≤ most
short_left most xs few =
    let all = sym (ap length (take-append-drop most xs)) ∙ length-append (take most xs) (drop most xs) in
    let left = length-drop most xs in
    omega (arith, few, all, left)

-- as many bytes as were asked for, of which one is an LF, or fewer
pub block_is : (file : List ℕ) (from most : ℕ) (bytes : List ℕ) → bytes ≡ take most (drop from file)
    → (cut_at 10 bytes ≢ None) ⊎ (length bytes < most) → 16384 ≤ most → IsBlockAt file from bytes
block_is file from most bytes e enough large = record {
  rest = drop most (drop from file);
  parts = sym (take-append-drop most (drop from file)) ∙ ap (λ (l : List ℕ). l ++ drop most (drop from file)) (sym e);
  whole = λ none. by_case enough none;
  last = λ few. (let same : length bytes ≡ length (take most (drop from file)) = ap length e in
      drop_all most (drop from file) (short_left most (drop from file) (omega (arith, few, same, large))));
}
  where
    by_case : (cut_at 10 bytes ≢ None) ⊎ (length bytes < most) → cut_at 10 bytes ≡ None → bytes ≡ drop from file
    by_case (inl some) none = absurd (some none)
    by_case (inr few) none =
        let same : length bytes ≡ length (take most (drop from file)) = ap length e in
        e ∙ take_all most (drop from file) (short_left most (drop from file) (omega (arith, few, same)))
