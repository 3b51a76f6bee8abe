-- Writes into a store, and calls that are left.
use Rattle.std.proofs.Common.{◌+◌, ◌≤◌, None, Some, arith, subst, ◌≡◌, ℕ, List, Option, length, take, refl, sym}
use Rattle.std.proofs.Common.{◌∙◌}
use Rattle.std.specs.Map.{update}
use Rattle.std.specs.Str.{bytes_eq}
use Rattle.std.proofs.lemmas.Slice.Eq.{bytes_eq-Decides}
use Rattle.std.proofs.lemmas.Map.{update_same, update_other}
use Rattle.std.proofs.lemmas.Bool.{false_from_ne_true}
use Rattle.std.proofs.lemmas.List.{take_all}
use Rattle.osm_store.specs.Files.{Files, Puts, Spends}

-- a short list is its own prefix
pub take_whole : (n : ℕ) (xs : List ℕ) → length xs ≤ n → xs ≡ take n xs
take_whole n xs short = sym (take_all n xs short)

pub puts_from_update : (f g : Files) (name : List ℕ) (w : Option (List ℕ)) → ((q : List ℕ) → g q ≡ update bytes_eq f name w q) → Puts f name w g
puts_from_update f g name w h =
    let same = bytes_eq-Decides name name in
    record {
      there = h name ∙ update_same bytes_eq f name w name (same.1 refl);
      others = λ m apart. h m ∙ update_other bytes_eq f name w m (false_from_ne_true (bytes_eq name m) (λ e.
          let d = bytes_eq-Decides name m in apart (sym (d.0 e))));
    }

pub spends_none : (a : Option ℕ) → Spends 0 a a
spends_none None = refl
spends_none (Some n) = (n, refl, omega arith)

pub spends_both : (i j k : ℕ) (a b c : Option ℕ) → k ≤ i + j → Spends i a b → Spends j b c → Spends k a c
spends_both i j k None b c e x y = subst (λ o. Spends j o c) x y
spends_both i j k (Some n) b c e (m, is, few) y = from_some (subst (λ o. Spends j o c) is y)
  where
    from_some : Spends j (Some m) c → Spends k (Some n) c
    from_some (l, at, fewer) = (l, at, omega arith)
