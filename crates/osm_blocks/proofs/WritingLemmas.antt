-- Bytes that are appended to a file that was begun.
use Rattle.std.proofs.Common.{◌≡◌, List, [], ◌∷◌, ℕ, ◌++◌, refl, Option, Some, length, sym, ap, ◌∙◌, subst, arith}
use Rattle.std.proofs.lemmas.List.{append-nil}
use Rattle.osm_store.specs.Files.{Stage}
use Rattle.osm_blocks.specs.Writing.{IsWritten, Waiting}

-- what is appended while nothing waits
pub written_at_once : (stage now : Option Stage) (w : Waiting) (bytes name text : List ℕ) → w.bytes ≡ []
    → IsWritten stage w name text
    → ((appended : List ℕ) → stage ≡ Some (name, appended) → now ≡ Some (name, appended ++ bytes))
    → IsWritten now w name (text ++ bytes)
written_at_once stage now w bytes name text none v appends =
    let whole : text ≡ v.appended = v.whole ∙ ap (λ (l : List ℕ). v.appended ++ l) none ∙ append-nil v.appended in
    record {
      appended = v.appended ++ bytes;
      staged = appends v.appended v.staged;
      whole = ap (λ (l : List ℕ). l ++ bytes) whole ∙ sym (append-nil (v.appended ++ bytes))
          ∙ ap (λ (l : List ℕ). (v.appended ++ bytes) ++ l) (sym none);
      writes = v.writes;
    }

no_bytes : (bytes : List ℕ) → length bytes ≡ 0 → bytes ≡ []
no_bytes [] e = refl
no_bytes (b ∷ bs) e = absurd (omega arith)

-- nothing waits in an empty buffer
pub nothing_waits : (w now : Waiting) → w ≡ now → length w.bytes ≡ 0 → now.bytes ≡ []
nothing_waits w now e none = subst (λ (x : Waiting). x.bytes ≡ []) e (no_bytes w.bytes none)
