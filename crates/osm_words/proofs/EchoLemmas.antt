-- Whether a list has an element at an index.
use Rattle.std.proofs.Common.{◌≡◌, ℕ, List, [], ◌∷◌, zero, suc, Option, Some, None, length, is_some, refl, ap, sym, ◌∙◌, nat_lt, arith}
use Rattle.std.proofs.lemmas.Bool.Decides.{nat_tests}
use Rattle.std.specs.Prelude.{option_map, slice_get}
use Rattle.osm_words.specs.Echo.{is_cut}

some_of : (r : Option ℕ) → is_some (option_map (λ (x : ℕ). x) r) ≡ is_some r
some_of None = refl
some_of (Some x) = refl

some_at : (xs : List ℕ) (n : ℕ) → is_some (slice_get xs n) ≡ nat_lt n (length xs)
some_at [] n = grind (arith, nat_tests)
some_at (x ∷ xs) zero = grind (arith, nat_tests)
some_at (x ∷ xs) (suc n) = some_at xs n ∙ grind (arith, nat_tests)

pub is_cut_at : (cs : List ℕ) (r : Option ℕ) → option_map (λ (x : ℕ). x) r ≡ slice_get cs 64 → is_some r ≡ is_cut cs
is_cut_at cs r e = sym (some_of r) ∙ (ap (λ (o : Option ℕ). is_some o) e ∙ some_at cs 64)
