-- Cuts of bytes, and files with short lines.
use Rattle.std.proofs.Common.{◌≡◌, ◌≢◌, ◌⊎◌, inl, inr, ℕ, ◌+◌, ◌-◌, ◌<◌, ◌≤◌, List, [], ◌∷◌, ◌++◌, length, take, drop, sym, ap, ◌∙◌, subst, Some, None}
use Rattle.std.proofs.Common.{append_assoc, arith}
use Rattle.std.proofs.lemmas.Bool.{cases_lt}
use Rattle.std.proofs.lemmas.List.{drop-drop, drop_at, length-append, length-drop, take-append-drop, take-append-le}
use Rattle.osm_reading.specs.Pieces.{Lacks, cut_at}
use Rattle.osm_reading.proofs.PieceLemmas.{cut_lacks, cut_takes, uncut_again, uncut_lacks}
use Rattle.osm_asking.specs.Reads.{HasShortLines}
use Rattle.osm_asking.proofs.LineLemmas.{all_right}

lacks_left : (xs ys : List ℕ) → Lacks 10 (xs ++ ys) → Lacks 10 xs
lacks_left [] ys h = tt
lacks_left (x ∷ xs) ys h = (h.0, lacks_left xs ys h.1)

uncut_take : (n : ℕ) (xs : List ℕ) → cut_at 10 xs ≡ None → cut_at 10 (take n xs) ≡ None
uncut_take n xs none =
    uncut_again 10 (take n xs) (lacks_left (take n xs) (drop n xs) (subst (Lacks 10) (sym (take-append-drop n xs)) (uncut_lacks 10 xs none)))

pub uncut_drop : (n : ℕ) (xs : List ℕ) → cut_at 10 xs ≡ None → cut_at 10 (drop n xs) ≡ None
uncut_drop n xs none =
    uncut_again 10 (drop n xs) (all_right (λ (b : ℕ). b ≢ 10) (take n xs) (drop n xs)
    (subst (Lacks 10) (sym (take-append-drop n xs)) (uncut_lacks 10 xs none)))

-- ---- the first line

pub cut_size : (bytes line after : List ℕ) → cut_at 10 bytes ≡ Some (line, after) → length bytes ≡ length line + 1 + length after
cut_size bytes line after cut =
    let size = ap length (cut_takes 10 bytes line after cut) ∙ length-append line (10 ∷ after) in
    omega (arith, size)

-- the place of the next line
pub next_there : (file : List ℕ) (from : ℕ) (line after : List ℕ) → cut_at 10 (drop from file) ≡ Some (line, after)
    → after ≡ drop (from + (length line + 1)) file
next_there file from line after cut =
    let text : drop from file ≡ (line ++ 10 ∷ []) ++ after = cut_takes 10 (drop from file) line after cut ∙ sym (append_assoc line (10 ∷ []) after) in
    let many : length (line ++ 10 ∷ []) ≡ length line + 1 = length-append line (10 ∷ []) in
    sym (ap (drop (length line + 1)) text ∙ drop_at (line ++ 10 ∷ []) after (length line + 1) many) ∙ drop-drop (length line + 1) from file

-- ---- short lines

-- so many bytes in a row have an LF
pub short_part : (most : ℕ) (file : List ℕ) (place : ℕ) (part rest : List ℕ) → HasShortLines most file → 0 < most → drop place file ≡ part ++ rest
    → most ≤ length part → cut_at 10 part ≡ None → ⊥
short_part most file place part rest short some parts long none =
    let size = ap length parts ∙ length-append part rest in
    let left = length-drop place file in
    short place (omega (arith, size, left, long, some))
    (ap (cut_at 10) (ap (take most) parts ∙ take-append-le most part rest long) ∙ uncut_take most part none)

pub short_first : (most : ℕ) (file : List ℕ) (from : ℕ) (line after : List ℕ) → HasShortLines most file → 0 < most
    → cut_at 10 (drop from file) ≡ Some (line, after) → length line < most
short_first most file from line after short some cut = by_order (cases_lt (length line) most)
  where
    by_order : (length line < most) ⊎ (most ≤ length line) → length line < most
    by_order (inl less) = less
    by_order (inr long) =
        absurd (short_part most file from line (10 ∷ after) short some (cut_takes 10 (drop from file) line after cut) long
        (uncut_again 10 line (cut_lacks 10 (drop from file) line after cut)))
