-- Calls that come one after the other, by how many are ahead.
use Rattle.std.proofs.Common.{◌≡◌, ℕ, ◌+◌, ◌-◌, ◌<◌, ◌≤◌, List, length, take, drop, Option, Some}
use Rattle.std.proofs.Common.{None, inl, inr, refl, sym, ap, subst, ◌∙◌, arith, length-append}
use Rattle.std.specs.Prelude.{◌⊎◌, ◌/◌, min}
use Rattle.std.proofs.lemmas.Bool.{cases_lt}
use Rattle.std.proofs.lemmas.Nat.{le-div}
use Rattle.std.proofs.lemmas.List.{length-drop, length-take}
use Rattle.std.proofs.Math.Nat.{add-div_right, div-eq_of_lt}
use Rattle.osm_store.specs.Files.{HasFewer, SpendsAtMost}
use Rattle.osm_blocks.specs.Calls.{SpendsDown, blocks_after_first, blocks_in}
use Rattle.osm_blocks.specs.Places.{Place, left_of, max_block, next_block}

pub down_none : (n : ℕ) (x : Option ℕ) → SpendsDown n n x x
down_none n None = refl
down_none n (Some m) = (m, refl, omega arith)

pub down_then : (b s c d t u : ℕ) (x y z : Option ℕ) → b + c + u ≤ t + s + d → SpendsDown b s x y → SpendsDown c d y z → SpendsDown t u x z
down_then b s c d t u None y z e p q = subst (λ (o : Option ℕ). SpendsDown c d o z) p q
down_then b s c d t u (Some n) y z e (m, is, few) q = from_some (subst (λ (o : Option ℕ). SpendsDown c d o z) is q)
  where
    from_some : SpendsDown c d (Some m) z → SpendsDown t u (Some n) z
    from_some (l, at, fewer) = (l, at, omega arith)

pub down_lacks : (b s c t : ℕ) (x y : Option ℕ) → b + c ≤ t + s → SpendsDown b s x y → HasFewer c y → HasFewer t x
down_lacks b s c t None y e p h = subst (λ (o : Option ℕ). HasFewer c o) p h
down_lacks b s c t (Some n) y e (m, is, few) h =
    let fewer : m < c = subst (λ (o : Option ℕ). HasFewer c o) is h in
    omega (arith, fewer)

pub down_of : (k : ℕ) (x y : Option ℕ) → SpendsAtMost k x y → SpendsDown k 0 x y
down_of k None y p = p
down_of k (Some n) y (m, is, few) = (m, is, omega arith)

pub at_most_of : (b s k : ℕ) (x y : Option ℕ) → b ≤ k + s → SpendsDown b s x y → SpendsAtMost k x y
at_most_of b s k None y e p = p
at_most_of b s k (Some n) y e (m, is, few) = (m, is, omega arith)

-- ---- blocks

min_of : (n m : ℕ) → n < m → min m n ≡ n
min_of n m h = omega (arith, h)

min_first : (n m : ℕ) → n ≤ m → min n m ≡ n
min_first n m h = omega (arith, h)

abbrev many_blocks : ℕ → ℕ → ℕ
many_blocks b n = (n + b) / (b + 1)

one_more : (b n : ℕ) → (n + (b + 1) + b) / (b + 1) ≡ (n + b) / (b + 1) + 1
one_more b n =
    let swapped : n + (b + 1) + b ≡ n + b + (b + 1) = omega arith in
    rw swapped (add-div_right (n + b) (omega arith))

-- a block that isn't empty is the rest, or a whole one
fewer_blocks : (b all block rest : ℕ) → block ≡ min (b + 1) all → 0 < block → rest ≡ all - block → many_blocks b rest + 1 ≤ many_blocks b all
fewer_blocks b all block rest is some left = by_order (cases_lt all (b + 1))
  where
    by_order : (all < b + 1) ⊎ (b + 1 ≤ all) → many_blocks b rest + 1 ≤ many_blocks b all
    by_order (inl few) =
        let whole : block ≡ all = is ∙ min_of all (b + 1) few in
        let none : rest ≡ 0 = omega (arith, whole, left) in
        let nothing : (0 + b) / (b + 1) ≡ 0 = div-eq_of_lt (omega arith) in
        let one : 1 ≤ (all + b) / (b + 1) = le-div 1 (all + b) (b + 1) (omega arith) (omega (arith, some, whole)) in
        rw (none, nothing) one
    by_order (inr many) =
        let whole : block ≡ b + 1 = is ∙ min_first (b + 1) all many in
        let parts : all ≡ rest + (b + 1) = omega (arith, whole, left, many) in
        rw (parts, one_more b rest) (omega arith)

blocks_are : (n : ℕ) → blocks_in n ≡ many_blocks 131071 n
unfolding blocks_in
blocks_are n = refl

-- a block that was read is one fewer ahead
pub block_read : (file block : List ℕ) (from : ℕ) → take next_block (drop from file) ≡ block → 0 < length block
    → blocks_in (length (drop (from + length block) file)) + 1 ≤ blocks_in (length (drop from file))
block_read file block from e some =
    let long : length block ≡ min (131071 + 1) (length (drop from file)) = sym (ap length e) ∙ length-take next_block (drop from file) in
    let first : length (drop from file) ≡ length file - from = length-drop from file in
    let after : length (drop (from + length block) file) ≡ length file - (from + length block) = length-drop (from + length block) file in
    let rest : length (drop (from + length block) file) ≡ length (drop from file) - length block = omega (arith, first, after) in
    rw (blocks_are (length (drop (from + length block) file)), blocks_are (length (drop from file)))
    (fewer_blocks 131071 (length (drop from file)) (length block) (length (drop (from + length block) file)) long some rest)

-- what is ahead of a reader that was opened
pub opened_ahead : (place : Place) (file : List ℕ) → place.unread ≡ take max_block file → left_of place file ≡ file
    → blocks_in (length (drop place.from file)) ≡ blocks_after_first (length file)
opened_ahead place file unread left =
    let long : length place.unread ≡ min max_block (length file) = ap length unread ∙ length-take max_block file in
    let parts : length (left_of place file) ≡ length place.unread + length (drop place.from file) = length-append place.unread (drop place.from file) in
    let all : length (left_of place file) ≡ length file = ap length left in
    let rest : length (drop place.from file) ≡ length file - max_block = omega (arith, long, parts, all) in
    ap blocks_in rest
