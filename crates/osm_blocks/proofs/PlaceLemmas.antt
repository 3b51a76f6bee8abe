-- What is left of a file while it is read.
use Rattle.std.proofs.Common.{◌≡◌, ℕ, zero, suc, ◌+◌, ◌<◌, ◌≤◌, Bool, true, false, List, []}
use Rattle.std.proofs.Common.{◌∷◌, ◌++◌, length, take, drop, Option, Some, None, refl, sym, ap}
use Rattle.std.proofs.Common.{subst, ◌∙◌, arith, append_assoc, length-append}
use Rattle.std.specs.Prelude.{◌==◌}
use Rattle.std.proofs.lemmas.Bool.Decides.{nat_tests}
use Rattle.std.proofs.lemmas.List.{length-take, take-append-drop, drop-drop}
use Rattle.std.proofs.lemmas.Option.{same_Some}
use Rattle.std.proofs.Math.Seq.{drop-append-add, take-append_seam}
use Rattle.osm_reading.specs.Pieces.{Lacks, cut_at}
use Rattle.osm_reading.proofs.PieceLemmas.{cut_again, cut_lacks, cut_takes, lacks_append, uncut_again, uncut_lacks}
use Rattle.osm_store.specs.Files.{block_of}
use Rattle.osm_blocks.specs.Places.{IsGrown, IsHuge, IsLine, IsLong, Place, ReadsMore, left_of, max_line, past}
use Rattle.std.specs.Prelude.{Ok, not}
use Rattle.osm_blocks.specs.Steps.Reading.{LacksFirst}

-- ---- where bytes are cut

-- a cut of a beginning is one of the whole
pub cut_more : (s : ℕ) (xs ys line after : List ℕ) → cut_at s xs ≡ Some (line, after) → cut_at s (xs ++ ys) ≡ Some (line, after ++ ys)
cut_more s xs ys line after e =
    let parts : xs ++ ys ≡ line ++ s ∷ (after ++ ys) = ap (λ (l : List ℕ). l ++ ys) (cut_takes s xs line after e) ∙ append_assoc line (s ∷ after) ys in
    rw parts (cut_again s line (after ++ ys) (cut_lacks s xs line after e))

-- the first LF is the first one after bytes without
line_after : (place : Place) (searched : ℕ) (piece after : List ℕ) → LacksFirst searched place.unread
    → cut_at 10 (drop searched place.unread) ≡ Some (piece, after) → IsLine place (searched + length piece)
line_after place searched piece after lacks e =
    let xs : List ℕ = place.unread in
    let front : List ℕ = take searched xs ++ piece in
    let parts : xs ≡ front ++ 10 ∷ after = sym (take-append-drop searched xs)
    ∙ ap (λ (l : List ℕ). take searched xs ++ l) (cut_takes 10 (drop searched xs) piece after e)
    ∙ sym (append_assoc (take searched xs) piece (10 ∷ after)) in
    let few = lacks.within in
    let long : length (take searched xs) ≡ searched = first_length searched xs few in
    let count : length front ≡ searched + length piece = (rw (length-append (take searched xs) piece, long) refl) in
    subst (λ (n : ℕ). IsLine place n) count
    (found place xs front after refl parts (lacks_append 10 (take searched xs) piece lacks.lacks (cut_lacks 10 (drop searched xs) piece after e)))
  where
    first_length : (n : ℕ) (xs : List ℕ) → n ≤ length xs → length (take n xs) ≡ n
    first_length zero xs few = refl
    first_length (suc n) [] few = absurd (omega arith)
    first_length (suc n) (x ∷ xs) few = ap suc (first_length n xs (omega arith))

    found : (place : Place) (xs front after : List ℕ) → place.unread ≡ xs → xs ≡ front ++ 10 ∷ after → Lacks 10 front → IsLine place (length front)
    found place xs front after is parts lacks =
        let whole : place.unread ≡ front ++ 10 ∷ after = is ∙ parts in
        let longer : length (front ++ 10 ∷ after) ≡ length front + suc (length after) = length-append front (10 ∷ after) in
        record {
          within = rw whole (omega (arith, longer));
          cut = rw (whole, take-append_seam front (10 ∷ after), drop-append-add front (10 ∷ after) 1) (cut_again 10 front after lacks);
        }

-- the same with the place of the LF
pub line_at : (place : Place) (searched at : ℕ) (after : List ℕ) → LacksFirst searched place.unread → at < length (drop searched place.unread)
    → cut_at 10 (drop searched place.unread) ≡ Some (take at (drop searched place.unread), after) → IsLine place (searched + at)
line_at place searched at after lacks few e =
    let xs : List ℕ = drop searched place.unread in
    let long : length (take at xs) ≡ at = omega (arith, few, length-take at xs) in
    subst (λ (n : ℕ). IsLine place (searched + n)) long (line_after place searched (take at xs) after lacks e)

-- there is none in bytes without and more bytes without
pub none_after : (bytes : List ℕ) (searched : ℕ) → LacksFirst searched bytes → cut_at 10 (drop searched bytes) ≡ None → cut_at 10 bytes ≡ None
none_after bytes searched lacks e =
    subst (λ (l : List ℕ). cut_at 10 l ≡ None) (take-append-drop searched bytes)
    (uncut_again 10 (take searched bytes ++ drop searched bytes)
    (lacks_append 10 (take searched bytes) (drop searched bytes) lacks.lacks (uncut_lacks 10 (drop searched bytes) e)))

-- ---- blocks

split : (most : ℕ) (file : List ℕ) → take most file ++ drop (length (take most file)) file ≡ file
split zero file = refl
split (suc most) [] = refl
split (suc most) (x ∷ xs) = ap (λ (l : List ℕ). x ∷ l) (split most xs)

pub opened : (most : ℕ) (told : Option (List ℕ)) (block : List ℕ) (from : ℕ) → block_of 0 most told ≡ Some block → from ≡ length block
    → (file : List ℕ) × (told ≡ Some file) × (block ≡ take most file) × (block ++ drop from file ≡ file)
opened most None block from e l = absurd cc
opened most (Some file) block from e l =
    let is : take most file ≡ block = same_Some (take most file) block e in
    (file, refl, sym is, rw (l, ← is) (split most file))

-- a file from that place on is the block there and the file after it
pub next_block : (most : ℕ) (file block : List ℕ) (from : ℕ) → take most (drop from file) ≡ block → drop from file ≡ block ++ drop (from + length block) file
next_block most file block from e =
    let d : List ℕ = drop from file in
    let rest : drop (from + length block) file ≡ drop (length block) d = sym (drop-drop (length block) from file) in
    rw (rest, ← e) (sym (split most d))

some_taken : (most : ℕ) → 0 < most → (y : ℕ) (ys : List ℕ) → take most (y ∷ ys) ≡ [] → ⊥
some_taken zero h y ys b = omega arith
some_taken (suc most) h y ys b = cc

pub nothing_left : (most : ℕ) → 0 < most → (ys : List ℕ) → take most ys ≡ [] → ys ≡ []
nothing_left most h [] e = refl
nothing_left most h (y ∷ ys) e = absurd (some_taken most h y ys e)

drop_long : (n : ℕ) (xs : List ℕ) (most : ℕ) → 0 < length (take most (drop n xs)) → n + length (take most (drop n xs)) ≤ length xs
drop_long zero xs most some = let h = taken_short most xs in omega (arith, h)
  where
    taken_short : (most : ℕ) (xs : List ℕ) → length (take most xs) ≤ length xs
    taken_short zero xs = omega arith
    taken_short (suc most) [] = omega arith
    taken_short (suc most) (x ∷ xs) = let h = taken_short most xs in omega (arith, h)
drop_long (suc n) [] zero some = absurd (omega arith)
drop_long (suc n) [] (suc most) some = absurd (omega arith)
drop_long (suc n) (x ∷ xs) most some = let h = drop_long n xs most some in omega (arith, h)

-- a block that was read lies within the file
pub block_within : (most : ℕ) (file block : List ℕ) (from : ℕ) → take most (drop from file) ≡ block → 0 < length block
    → from + length block ≤ length file
block_within most file block from e some = rw (← e) (drop_long from file most (rw e some))

-- a block past the last place that 64 bits count is one of a huge file
pub huge_file : (most : ℕ) (file block : List ℕ) (from : ℕ) → take most (drop from file) ≡ block → 0 < length block
    → 18446744073709551615 < from + length block → IsHuge file
huge_file most file block from e some high =
    let h = block_within most file block from e some in
    omega (arith, h, high)

-- ---- what is left

pub left_more : (old new : Place) (file block : List ℕ) (most : ℕ) → new.unread ≡ old.unread ++ block → new.from ≡ old.from + length block
    → take most (drop old.from file) ≡ block → left_of new file ≡ left_of old file
left_more old new file block most unread from e =
    rw (unread, from) (append_assoc old.unread block (drop (old.from + length block) file)
    ∙ ap (λ (l : List ℕ). old.unread ++ l) (sym (next_block most file block old.from e)))

pub left_line : (place : Place) (file : List ℕ) (count : ℕ) → IsLine place count
    → cut_at 10 (left_of place file) ≡ Some (take count place.unread, left_of (past (count + 1) place) file)
left_line place file count is = cut_more 10 place.unread (drop place.from file) (take count place.unread) (drop (count + 1) place.unread) is.cut

pub left_long : (place : Place) (file : List ℕ) → cut_at 10 place.unread ≡ None → max_line < length place.unread → IsLong (left_of place file)
left_long place file uncut long = record {
  line = place.unread;
  after = drop place.from file;
  parts = refl;
  lacks = uncut_lacks 10 place.unread uncut;
  long = long;
}

-- bytes that were searched are still so when more come after them
pub lacks_still : (bytes more : List ℕ) → cut_at 10 bytes ≡ None → LacksFirst (length bytes) (bytes ++ more)
lacks_still bytes more uncut = record {
  within = within_more bytes more;
  lacks = rw (take-append_seam bytes more) (uncut_lacks 10 bytes uncut);
}
  where
    within_more : (xs ys : List ℕ) → length xs ≤ length (xs ++ ys)
    within_more [] ys = omega arith
    within_more (x ∷ xs) ys = let h = within_more xs ys in omega (arith, h)

pub no_length : (xs : List ℕ) → length xs ≡ 0 → xs ≡ []
no_length [] h = refl
no_length (x ∷ xs) h = absurd (omega arith)

-- whether nothing is left where nothing is unread
pub end_of : (old new : Place) (file : List ℕ) (is_more : Bool) → length old.unread ≡ 0 → IsGrown is_more old new → ReadsMore file old new (Ok is_more)
    → (length (left_of old file) == 0) ≡ not is_more
end_of old new file false none same ended =
    let nothing : left_of old file ≡ [] = rw (no_length old.unread none, ended) refl in
    rw nothing refl
end_of old new file true none grown same =
    let some = grown.some in
    let first : new.unread ≡ grown.more = grown.unread ∙ ap (λ (l : List ℕ). l ++ grown.more) (no_length old.unread none) in
    let both : length (left_of new file) ≡ length new.unread + length (drop new.from file) = length-append new.unread (drop new.from file) in
    let long : length new.unread ≡ length grown.more = ap length first in
    let more : 0 < length (left_of new file) = omega (arith, some, both, long) in
    let other : (length (left_of new file) == 0) ≡ false = grind (arith, nat_tests) in
    ap (λ (l : List ℕ). length l == 0) (sym same.0) ∙ other
