-- Reading up to a limit.
use Rattle.std.proofs.Common.{◌≡◌, ℕ, ◌-◌, ◌≤◌, ◌++◌, ◌⊎◌, List, [], length, take, Option, Some, None, IfSome}
use Rattle.std.proofs.Common.{Bool, false, inl, inr, append_assoc, length-append, ap, sym, ◌∙◌, arith}
use Rattle.std.proofs.lemmas.List.{append-nil, take_all, take_at}
use Rattle.std.specs.Io.KnownBytes.{Consumes, IsAtEnd}
use Rattle.osm_disk.specs.Steps.Chunks.{AddsChunk}

-- so many bytes at most were read, and no others
pub record HasRead (most : ℕ) (known later : Option (List ℕ)) (bytes : List ℕ) : Type 0 where
  pub next : Consumes known later bytes
  pub within : length bytes ≤ most

-- nothing was read yet
pub nothing_read : (most : ℕ) (known : Option (List ℕ)) (bytes : List ℕ) → bytes ≡ [] → HasRead most known known bytes
nothing_read most known bytes e = record {
  next = from known;
  within = omega (arith, ap length e);
} where
  from : (k : Option (List ℕ)) → Consumes k k bytes
  from None = tt
  from (Some xs) = ap (λ (l : List ℕ). l ++ xs) (sym e)

-- what comes after what was read
joined : (known between later : Option (List ℕ)) (bytes chunk : List ℕ) → Consumes known between bytes
    → Consumes between later chunk → Consumes known later (bytes ++ chunk)
joined None between later bytes chunk a b = tt
joined (Some xs) None later bytes chunk a b = absurd a
joined (Some xs) (Some ys) None bytes chunk a b = b
joined (Some xs) (Some ys) (Some zs) bytes chunk a b =
    a ∙ ap (λ (l : List ℕ). bytes ++ l) b ∙ sym (append_assoc bytes chunk zs)

-- one chunk more
pub chunk_read : (most size : ℕ) (is_more : Bool) (known between later : Option (List ℕ)) (bytes new : List ℕ)
    → size ≡ length bytes → HasRead most known between bytes
    → AddsChunk (most - size) is_more between later bytes new → HasRead most known later new
chunk_read most size is_more known between later bytes new e h a = record {
  next = rw a.added (joined known between later bytes a.chunk h.next a.next);
  within = omega (arith, e, h.within, a.within, ap length a.added, length-append bytes a.chunk);
}

-- all that is wanted was read, or all that there is
pub first_read : (most size : ℕ) (is_more : Bool) (known between later : Option (List ℕ)) (bytes new : List ℕ)
    → size ≡ length bytes → is_more ≡ false → HasRead most known between bytes
    → AddsChunk (most - size) is_more between later bytes new → IfSome known (λ all. new ≡ take most all)
first_read most size is_more known between later bytes new e last h a =
    from known later (chunk_read most size is_more known between later bytes new e h a) (a.last last) where
      from : (k l : Option (List ℕ)) → HasRead most k l new → ((most - size) ≡ 0) ⊎ IsAtEnd l
          → IfSome k (λ all. new ≡ take most all)
      from None l r ends = tt
      from (Some xs) None r ends = absurd r.next
      from (Some xs) (Some ys) r (inl full) =
          sym (ap (take most) r.next ∙ take_at new ys most
          (omega (arith, full, e, h.within, r.within, ap length a.added, length-append bytes a.chunk)))
      from (Some xs) (Some ys) r (inr ended) =
          let e : xs ≡ new = r.next ∙ ap (λ (l : List ℕ). new ++ l) ended ∙ append-nil new in
          sym (ap (take most) e ∙ take_all most new r.within)
