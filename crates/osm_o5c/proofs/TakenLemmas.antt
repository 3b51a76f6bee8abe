-- What is read from the start of bytes.
use Rattle.std.proofs.Common.{◌≡◌, ℕ, List, ◌++◌, sym, ap, ◌∙◌, append_assoc}

-- the bytes are a prefix with this property, followed by the rest
pub record Taken (spelled_by : List ℕ → Type 0) (bytes rest : List ℕ) : Type 0 where
  pub prefix : List ℕ
  pub parts : bytes ≡ prefix ++ rest
  pub spelled : spelled_by prefix

-- the same for a prefix that leads to a context with this state
pub record TakenTo {Ctx S : Type 0} (state_of : Ctx → S) (spelled_by : List ℕ → Ctx → Type 0) (bytes : List ℕ) (state : S) (rest : List ℕ) : Type 0 where
  pub prefix : List ℕ
  pub after : Ctx
  pub parts : bytes ≡ prefix ++ rest
  pub spelled : spelled_by prefix after
  pub same : state ≡ state_of after

-- one prefix after another
pub parts_then : (bytes a b more rest : List ℕ) → bytes ≡ a ++ more → more ≡ b ++ rest → bytes ≡ (a ++ b) ++ rest
parts_then bytes a b more rest p q = p ∙ ap (λ (l : List ℕ). a ++ l) q ∙ sym (append_assoc a b rest)
