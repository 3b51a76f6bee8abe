-- Lines of a block that are passed.
use Rattle.std.proofs.Common.{◌≡◌, ℕ, ◌+◌, ◌-◌, ◌≤◌, List, [], ◌∷◌, ◌++◌, length, drop, sym, ap, ◌∙◌, subst, Some, None, arith, append_assoc}
use Rattle.std.proofs.lemmas.List.{drop-drop, drop_at, length-append}
use Rattle.std.specs.declared.cmp.Ordering.TheVariants.{Less}
use Rattle.osm_reading.specs.Pieces.{cut_at}
use Rattle.osm_reading.proofs.PieceLemmas.{cut_takes, uncut_again}
use Rattle.osm_save.specs.declared.save.Saved.{Saved}
use Rattle.osm_asking.specs.Finding.{StandsAt}
use Rattle.osm_asking.specs.Steps.Passing.{IsSide, Passes}
use Rattle.osm_asking.specs.declared.side.Wanted.{Wanted}
use Rattle.osm_asking.proofs.LineLemmas.{cut_more}
use Rattle.osm_asking.proofs.StandLemmas.{line_passed}

-- so many lines at least were passed, and those bytes are left
pub record Passing (wanted : Wanted) (block rest : List ℕ) (i : ℕ) : Type 0 where
  pub count : length rest + i ≤ length block
  pub part : rest ≡ drop (length block - length rest) block
  pub stays : (v : Saved) (tail : List ℕ) → StandsAt wanted v (block ++ tail) → StandsAt wanted v (rest ++ tail)

after_line : (rest line after : List ℕ) → cut_at 10 rest ≡ Some (line, after) → after ≡ drop (length line + 1) rest
after_line rest line after cut =
    let text : rest ≡ (line ++ 10 ∷ []) ++ after = cut_takes 10 rest line after cut ∙ sym (append_assoc line (10 ∷ []) after) in
    let many : length (line ++ 10 ∷ []) ≡ length line + 1 = length-append line (10 ∷ []) in
    sym (ap (drop (length line + 1)) text ∙ drop_at (line ++ 10 ∷ []) after (length line + 1) many)

line_length : (rest line after : List ℕ) → cut_at 10 rest ≡ Some (line, after) → length rest ≡ length line + (1 + length after)
line_length rest line after cut =
    let text = ap length (cut_takes 10 rest line after cut) ∙ length-append line (10 ∷ after) in
    omega (arith, text)

pub passing_more : (wanted : Wanted) (block rest line after : List ℕ) (i : ℕ) → Passing wanted block rest i → cut_at 10 rest ≡ Some (line, after)
    → IsSide wanted line (Some Less) → Passing wanted block after (i + 1)
passing_more wanted block rest line after i p cut is =
    let count = p.count in
    let size = line_length rest line after cut in
    let skip : ℕ = length block - length rest in
    let both : skip + (length line + 1) ≡ length block - length after = omega (arith, count, size) in
    record {
      count = omega (arith, count, size);
      part = after_line rest line after cut ∙ (ap (drop (length line + 1)) p.part
          ∙ (drop-drop (length line + 1) skip block ∙ ap (λ (n : ℕ). drop n block) both));
      stays = λ v tail s. line_passed wanted v (rest ++ tail) (p.stays v tail s)
          (record { line = line; after = after ++ tail; cut = cut_more rest tail line after cut; is = is });
    }

pub passing_done : (wanted : Wanted) (block rest : List ℕ) (i : ℕ) → Passing wanted block rest i → Passes wanted block (length block - length rest)
passing_done wanted block rest i p = record {
  within = omega arith;
  stays = λ v tail s. subst (λ (l : List ℕ). StandsAt wanted v (l ++ tail)) p.part (p.stays v tail s);
}

-- what holds of the bytes that are left
pub passing_at : (wanted : Wanted) (block rest : List ℕ) (i : ℕ) (P : List ℕ → Type 0) → Passing wanted block rest i → P rest
    → P (drop (length block - length rest) block)
passing_at wanted block rest i P p is = subst P p.part is

-- as many lines as there are bytes: none is left
pub passing_all : (wanted : Wanted) (block rest : List ℕ) (i : ℕ) → Passing wanted block rest i → length block ≤ i → cut_at 10 rest ≡ None
passing_all wanted block [] i p end = uncut_again 10 [] tt
passing_all wanted block (b ∷ rest) i p end = absurd (let count = p.count in omega (arith, count, end))
