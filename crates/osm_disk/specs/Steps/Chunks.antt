-- Reading a file chunk by chunk.
use Rattle.std.specs.Prelude.{◌≡◌, ℕ, ◌≤◌, ◌++◌, ◌⊎◌, Bool, false, List, Option, length}
use Rattle.std.specs.Io.KnownBytes.{Consumes, IsAtEnd}

-- what one read of at most so many bytes adds to those that were read: the next ones that the
-- reader has. It is the last one only at the end, or if none are wanted.
pub record AddsChunk (left : ℕ) (is_more : Bool) (known later : Option (List ℕ))
    (old new : List ℕ) : Type 0 where
  pub chunk : List ℕ
  pub added : new ≡ old ++ chunk
  pub within : length chunk ≤ left
  pub next : Consumes known later chunk
  pub last : is_more ≡ false → (left ≡ 0) ⊎ IsAtEnd later
