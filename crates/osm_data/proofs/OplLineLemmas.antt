-- The lines of what is left of a file.
use Rattle.std.proofs.Common.{◌≡◌, ℕ, ◌+◌, ◌-◌, ◌<◌, ◌≤◌, Bool, true, false, List, [], ◌∷◌, ◌++◌, length, map, take, drop}
use Rattle.std.proofs.Common.{Some, None, sym, ap, ◌∙◌, arith, cond, length-append}
use Rattle.std.specs.Prelude.{◌==◌, min}
use Rattle.std.proofs.lemmas.List.{drop-drop, length-drop, length-take}
use Rattle.std.proofs.Math.Seq.{drop-append-add}
use Rattle.osm_reading.specs.Lines.{lines_of, without_cr}
use Rattle.osm_reading.specs.Pieces.{Lacks, cut_at, pieces}
use Rattle.osm_reading.proofs.PieceLemmas.{cut_takes, pieces-one, pieces-prefix, pieces_cut, pieces_some, pieces_whole, with_prefix}
use Rattle.osm_blocks.specs.Places.{IsLong}
use Rattle.osm_data.specs.OplReading.{max_line}

-- a line is shorter by one byte at most without its CR
pub trimmed_length : (bytes : List ℕ) → length bytes ≤ length (without_cr bytes) + 1
trimmed_length [] = omega arith
trimmed_length (b ∷ []) = by_test (b == 13)
  where
    by_test : (t : Bool) → 1 ≤ length (cond t [] (b ∷ [])) + 1
    by_test true = omega arith
    by_test false = omega arith
trimmed_length (b ∷ c ∷ bs) = let h = trimmed_length (c ∷ bs) in omega (arith, h)

same_head : {A : Type 0} (x y : A) (xs ys : List A) → x ∷ xs ≡ y ∷ ys → x ≡ y
same_head x y xs ys e = cc

-- the first line of bytes without LF is all of them
pub trimmed : (bytes line : List ℕ) (after : List (List ℕ)) → pieces 10 bytes ≡ bytes ∷ [] → lines_of bytes ≡ line ∷ after → line ≡ without_cr bytes
trimmed bytes line after one lines =
    same_head line (without_cr bytes) after [] (sym lines ∙ ap (map without_cr) one)

pub trimmed_line : (bytes line : List ℕ) (after : List (List ℕ)) → Lacks 10 bytes → lines_of bytes ≡ line ∷ after → line ≡ without_cr bytes
trimmed_line bytes line after lacks lines = trimmed bytes line after (pieces-one 10 bytes lacks) lines

-- the last line
pub lines_uncut : (bytes : List ℕ) → cut_at 10 bytes ≡ None → lines_of bytes ≡ without_cr bytes ∷ []
lines_uncut bytes e = ap (map without_cr) (pieces_whole 10 bytes e)

-- a line and those after it
pub lines_cut : (bytes piece after : List ℕ) → cut_at 10 bytes ≡ Some (piece, after) → lines_of bytes ≡ without_cr piece ∷ lines_of after
lines_cut bytes piece after e = ap (map without_cr) (pieces_cut 10 bytes piece after e)

-- what follows a line begins one byte after it
pub after_cut : (file piece after : List ℕ) (from : ℕ) → cut_at 10 (drop from file) ≡ Some (piece, after) → after ≡ drop (from + (length piece + 1)) file
after_cut file piece after from e =
    let parts : drop from file ≡ piece ++ 10 ∷ after = cut_takes 10 (drop from file) piece after e in
    let rest : drop (length piece + 1) (drop from file) ≡ after =
    ap (drop (length piece + 1)) parts ∙ drop-append-add piece (10 ∷ after) 1 in
    sym rest ∙ drop-drop (length piece + 1) from file

pub cut_within : (bytes piece after : List ℕ) → cut_at 10 bytes ≡ Some (piece, after) → length piece + 1 ≤ length bytes
cut_within bytes piece after e =
    let parts : length bytes ≡ length (piece ++ 10 ∷ after) = ap length (cut_takes 10 bytes piece after e) in
    let both : length (piece ++ 10 ∷ after) ≡ length piece + length (10 ∷ after) = length-append piece (10 ∷ after) in
    omega (arith, parts, both)

pub taken_length : (count : ℕ) (bytes : List ℕ) → count < length bytes → length (take count bytes) ≡ count
taken_length count bytes few =
    let long : length (take count bytes) ≡ min count (length bytes) = length-take count bytes in
    omega (arith, long, few)

-- so many bytes that are left are within the file
pub within_file : (file : List ℕ) (from count : ℕ) → from ≤ length file → count ≤ length (drop from file) → from + count ≤ length file
within_file file from count within few =
    let left : length (drop from file) ≡ length file - from = length-drop from file in
    omega (arith, within, few, left)

-- ---- long lines

pub record LongFirst (bytes : List ℕ) : Type 0 where
  pub line : List ℕ
  pub more : List (List ℕ)
  pub parts : lines_of bytes ≡ line ∷ more
  pub long : max_line < length line

pub long_first : (bytes : List ℕ) → IsLong bytes → LongFirst bytes
long_first bytes is =
    let rest = pieces_some 10 is.after in
    let cut : pieces 10 bytes ≡ with_prefix is.line (pieces 10 is.after) =
    ap (pieces 10) is.parts ∙ pieces-prefix 10 is.line is.after is.lacks in
    let first : pieces 10 bytes ≡ (is.line ++ rest.0) ∷ rest.1 = cut ∙ ap (with_prefix is.line) rest.2 in
    let both : length (is.line ++ rest.0) ≡ length is.line + length rest.0 = length-append is.line rest.0 in
    let short = trimmed_length (is.line ++ rest.0) in
    let long = is.long in
    record {
      line = without_cr (is.line ++ rest.0);
      more = map without_cr rest.1;
      parts = ap (map without_cr) first;
      long = omega (arith, both, short, long);
    }
