-- Taking the escapes out of a value, a byte or an escape at a time.
use Rattle.std.proofs.Common.{◌≡◌, ℕ, ◌≤◌, List, [], ◌∷◌, ◌++◌, length, take, false, refl, sym, ap, ◌∙◌, arith, append_assoc, inl, inr}
use Rattle.std.specs.Prelude.{Option, Some, None, option_map, ◌==◌}
use Rattle.std.proofs.lemmas.List.{take_all, take-append-le, length-take, append-nil}
use Rattle.std.proofs.lemmas.Bool.{cases_lt}
use Rattle.osm_state.specs.Properties.{unescaped}
use Rattle.osm_state.specs.Steps.Values.{IsPlainPrefix}

-- what was read so far, and its first bytes
pub record IsUnescaping (value rest prefix : List ℕ) : Type 0 where
  pub done : List ℕ
  pub so_far : unescaped value ≡ option_map (λ plain. done ++ plain) (unescaped rest)
  pub cut : prefix ≡ take 21 done

same_option : (o : Option (List ℕ)) → o ≡ option_map (λ plain. [] ++ plain) o
same_option None = refl
same_option (Some x) = refl

pub at_start : (value : List ℕ) → IsUnescaping value value []
at_start value = record { done = []; so_far = same_option (unescaped value); cut = refl }

joined : (done : List ℕ) (c : ℕ) (o : Option (List ℕ)) → option_map (λ plain. done ++ plain)
    (option_map (λ plain. c ∷ plain) o) ≡ option_map (λ plain. (done ++ c ∷ []) ++ plain) o
joined done c None = refl
joined done c (Some x) = ap (λ l. Some l) (sym (append_assoc done (c ∷ []) x))

pub unescaped_empty : unescaped [] ≡ Some []
unfolding unescaped
unescaped_empty = refl

-- an escape stands for its second byte
pub unescaped_escape : (b c : ℕ) (bs : List ℕ) → b ≡ 92 → unescaped (b ∷ c ∷ bs) ≡ option_map (λ plain. c ∷ plain) (unescaped bs)
unfolding unescaped
unescaped_escape b c bs e = rw e refl

-- every other byte stands for itself
pub unescaped_byte : (b : ℕ) (bs : List ℕ) → (b == 92) ≡ false → unescaped (b ∷ bs) ≡ option_map (λ plain. b ∷ plain) (unescaped bs)
unfolding unescaped
unescaped_byte b [] e = rw e refl
unescaped_byte b (c ∷ bs) e = rw e refl

-- a backslash at the end stands for nothing
pub unescaped_cut : (b : ℕ) (bs : List ℕ) → b ≡ 92 → length bs ≡ 0 → unescaped (b ∷ bs) ≡ None
unfolding unescaped
unescaped_cut b [] e h = rw e refl
unescaped_cut b (c ∷ bs) e h = absurd (omega arith)

-- the first bytes read so far are kept
kept : (done : List ℕ) (b : ℕ) → take 21 (take 21 done ++ b ∷ []) ≡ take 21 (done ++ b ∷ [])
kept done b =
    elim (cases_lt (length done) 21) [
      | inl lt ↦ ap (λ l. take 21 (l ++ b ∷ [])) (take_all 21 done (omega arith))
      | inr ge ↦
          let full : 21 ≤ length (take 21 done) = rw length-take (omega arith) in
          take-append-le 21 (take 21 done) (b ∷ []) full
          ∙ (take_all 21 (take 21 done) (rw length-take (omega arith)) ∙ sym (take-append-le 21 done (b ∷ []) ge))
    ]

-- one more byte or escape was read
pub step : (value rest after prefix next : List ℕ) (first b : ℕ) → IsUnescaping value rest prefix → rest ≡ first ∷ after
    → next ≡ take 21 (prefix ++ b ∷ []) → (more : List ℕ) → unescaped (first ∷ after) ≡ option_map (λ plain. b ∷ plain)
    (unescaped more) → IsUnescaping value more next
step value rest after prefix next first b h e n more u = record {
  done = h.done ++ b ∷ [];
  so_far = h.so_far ∙ (ap (λ l. option_map (λ plain. h.done ++ plain) (unescaped l)) e
      ∙ (ap (λ o. option_map (λ plain. h.done ++ plain) o) u ∙ joined h.done b (unescaped more)));
  cut = n ∙ (ap (λ l. take 21 (l ++ b ∷ [])) h.cut ∙ kept h.done b);
}

-- an escape that is cut off
pub cut_short : (value rest prefix : List ℕ) → IsUnescaping value rest prefix → unescaped rest ≡ None → unescaped value ≡ None
cut_short value rest prefix h u = h.so_far ∙ ap (λ o. option_map (λ plain. h.done ++ plain) o) u

-- the end of the value
pub all_read : (value rest prefix : List ℕ) → IsUnescaping value rest prefix → length rest ≡ 0 → IsPlainPrefix value prefix
unfolding unescaped
all_read value [] prefix h e = record { plain = h.done ++ []; whole = h.so_far; cut = rw append-nil h.cut }
all_read value (b ∷ bs) prefix h e = absurd (omega arith)

-- reading a value, a byte or an escape at a time
pub ruleset values = (at_start, step, cut_short, all_read)

-- what one byte or escape stands for
pub ruleset plain_bytes = (unescaped_escape, unescaped_byte, unescaped_cut)
