-- Steps of the proofs, which no public clause cites: entries and values as the code holds them.
use Rattle.std.specs.Prelude.{ℕ, ◌≡◌, List, take, Option, Some, option_map}
use Rattle.std.specs.Borrow.{Bor}
use Rattle.osm_state.specs.Properties.{unescaped}

-- an entry that the code holds by references
abbrev pub seen_entry : Option (Bor (List ℕ) × Bor (List ℕ)) → Option (List ℕ × List ℕ)
seen_entry entry = option_map (λ e. (e.0.now, e.1.now)) entry

-- the first 21 bytes of a value without its escapes: as many as the code's buffer takes
pub record IsPlainPrefix (value prefix : List ℕ) : Type 0 where
  pub plain : List ℕ
  pub whole : unescaped value ≡ Some plain
  pub cut : prefix ≡ take 21 plain
