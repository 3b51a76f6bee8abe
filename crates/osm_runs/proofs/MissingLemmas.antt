-- The lost numbers that are named.
use Rattle.std.proofs.Common.{◌≡◌, ℕ, suc, ◌+◌, ◌≤◌, List, [], ◌∷◌, ◌++◌, length, filter, arith, sym, ap, ◌∙◌}
use Rattle.std.proofs.lemmas.List.Elements.{filter-append}
use Rattle.osm_follow.specs.Reach.{numbers}
use Rattle.osm_store.specs.Files.{Files}
use Rattle.osm_runs.specs.Following.{is_lost}
use Rattle.osm_runs.specs.Steps.Following.{AreNamed}

-- one more number was looked for
pub named_next : (known : Type 0) (files : Files) (dir : List ℕ) (reached top last : ℕ) (old new : List ℕ)
    → AreNamed known files dir reached top last old
    → (known → new ≡ old ++ filter (is_lost files dir) ((last + 1) ∷ [])) → length old ≤ length new
    → AreNamed known files dir reached top (last + 1) new
named_next known files dir reached top last old new a looked more =
    let is = a.last_is in
    let some = a.some in
    let at : last + 1 ≡ reached + suc (suc a.count) = omega (arith, is) in
    record {
      count = suc a.count;
      last_is = at;
      some = omega (arith, some, more);
      named = λ yes far. looked yes
          ∙ (ap (λ (xs : List ℕ). xs ++ filter (is_lost files dir) ((last + 1) ∷ [])) (a.named yes far)
          ∙ (ap (λ (k : ℕ). filter (is_lost files dir) (numbers reached (suc a.count)) ++ filter (is_lost files dir) (k ∷ [])) at
          ∙ sym (filter-append (is_lost files dir) (numbers reached (suc a.count)) ((reached + suc (suc a.count)) ∷ []))));
    }
