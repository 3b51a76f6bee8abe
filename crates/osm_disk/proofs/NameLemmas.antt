-- What a split at the last slash says, and names made from its parts.
use Rattle.std.proofs.Common.{◌≡◌, ℕ, ◌+◌, ◌*◌, ◌<◌, ◌≤◌, List, [], ◌∷◌, ◌++◌, length, take, drop, Option, Some, None}
use Rattle.std.proofs.Common.{MatchOption, Bor, eqb, refl, ap, sym, subst, ◌∙◌, arith, length-append, take-append-drop}
use Rattle.std.specs.Str.{NoCharPasses}
use Rattle.std.specs.Str.Pattern.{RFindsChar}
use Rattle.std.specs.Prelude.{◌⊎◌, Result, Ok, Err, IfOk, true, false, codes, nat_le}
use Rattle.std.proofs.Common.{inl, inr}
use Rattle.std.proofs.lemmas.Bool.{cases_lt}
use Rattle.std.proofs.lemmas.Bool.Decides.{nat_tests}
use Rattle.std.proofs.lemmas.Str.Pattern.{NoCharPasses-char, drop_at_char}
use Rattle.std.specs.Path.{slash}
use Rattle.hex.specs.Hex.{encode_lower, lower_digits}
use Rattle.hex.proofs.HexLemmas.{length-encode_with}
use Rattle.sha2.specs.Sha256.{sha256}
use Rattle.sha2.proofs.Facts256.{length-sha256}
use Rattle.osm_disk.specs.Names.{IsBare, IsIn, IsFolderOf, digest_start, hidden_start, hidden_text, in_root}
use Rattle.osm_disk.specs.Names.{in_folder}

-- the clause of `rsplit_once` at a slash
abbrev pub IsSplit : List ℕ → Option (Bor (List ℕ) × Bor (List ℕ)) → Type 0
IsSplit path r = MatchOption r (RFindsChar slash path None) (λ x. (i : ℕ) × (j : ℕ)
    × RFindsChar slash path (Some (i, j)) × (x.0.now ≡ take i path) × (x.1.now ≡ drop j path) × (i ≤ j)
    × (length x.0.now ≡ i) × (length x.1.now + j ≡ length path))

pub split_at_slash : (path : List ℕ) (r : Option (Bor (List ℕ) × Bor (List ℕ))) → IsSplit path r
    → MatchOption r (IsBare path) (λ x. IsIn x.0.now x.1.now path)
split_at_slash path None h = λ i. NoCharPasses-char slash path i h (omega arith)
split_at_slash path (Some x) h = record {
  bare = λ i. NoCharPasses-char slash x.1.now i (subst (NoCharPasses (λ d. eqb d slash)) (sym h.4) h.2.0) (omega arith);
  whole = sym (take-append-drop h.0 path) ∙ (λ k. sym h.3 k ++ (drop_at_char slash path h.0 h.1 h.2.1 (omega arith) ∙ ap (λ l. slash ∷ l) (sym h.4)) k);
}

pub folder_or_root : (folder name path r : List ℕ) → IsIn folder name path → (length folder ≡ 0 → r ≡ codes "/")
    → (0 < length folder → r ≡ folder) → IsFolderOf path r
folder_or_root [] name path r is root below = subst (IsFolderOf path) (sym (root refl)) (in_root [] name is refl)
folder_or_root (b ∷ folder) name path r is root below = subst (IsFolderOf path) (sym (below (omega arith))) (in_folder (b ∷ folder) name is (omega arith))

-- what holds of a text holds of a value made with that text
pub made : {S E : Type 0} (text_of : S → List ℕ) (r : Result S E) (text : List ℕ) (P : List ℕ → Type 0)
    → IfOk r (λ s. text_of s ≡ text) → P text → IfOk r (λ s. P (text_of s))
made text_of (Ok s) text P h p = subst P (sym h) p
made text_of (Err e) text P h p = tt

-- ---- the name of a temporary file is short

pub named_short : (name : List ℕ) → length name ≤ 235 → length (codes "." ++ (name ++ codes ".osmrepl-")) ≤ 245
named_short name fits = grind (arith, length-append, fits)

pub digest_short : (name : List ℕ) → length (digest_start name) ≤ 245
digest_short name =
    let digits : length (encode_lower (sha256 name)) ≡ 2 * length (sha256 name) = length-encode_with lower_digits (sha256 name) in
    let bytes : length (sha256 name) ≡ 32 = length-sha256 name in
    grind (arith, length-append, digits, bytes)

start_short : (name : List ℕ) → length (hidden_start name) ≤ 245
start_short name = by_length (cases_lt 235 (length name))
  where
    by_length : (235 < length name) ⊎ (length name ≤ 235) → length (hidden_start name) ≤ 245
    by_length (inl over) = (let test : nat_le (length name) 235 ≡ false = grind (arith, nat_tests, over) in rw test (digest_short name))
    by_length (inr fits) = (let test : nat_le (length name) 235 ≡ true = grind (arith, nat_tests, fits) in rw test (named_short name fits))

pub hidden_short : (name process : List ℕ) → length (hidden_text name process) ≤ 245 + length process
hidden_short name process = let start = start_short name in grind (arith, length-append, start)
