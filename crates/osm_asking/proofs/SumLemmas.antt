-- Sums of objects whose lines are taken one after the other.
use Rattle.std.proofs.Common.{◌≡◌, ℕ, ◌+◌, List, [], ◌∷◌, ◌++◌, length, refl, sym, ap, subst, ◌∙◌, append_assoc, arith}
use Rattle.std.specs.Prelude.{◌==◌, Err, IsTrue, Ok, OnOk, Result, false, true}
use Rattle.std.specs.List.{AllByRecursion, flat_map}
use Rattle.std.proofs.lemmas.Bool.Decides.{nat_tests}
use Rattle.std.proofs.lemmas.List.{append-nil, flat_map_more, length-append}
use Rattle.osm_model.specs.Change.{ChangeValue}
use Rattle.osm_model.proofs.DataLemmas.{all_then}
use Rattle.osm_opl.specs.Written.{line_text, opl_text}
use Rattle.sha2.specs.Hashers.{Holds256}
use Rattle.hex.specs.Hex.{encode_lower}
use Rattle.sha2.specs.Sha256.{sha256}
use Rattle.osm_asking.specs.Fingerprint.{block_line, first_word, sum_line, sum_line_of}
use Rattle.osm_asking.specs.Steps.Summing.{AreInBlocks, IsName, IsNoted, IsSumOf}
use Rattle.osm_asking.specs.declared.block_sums.Blocks.{Blocks}
use Rattle.osm_asking.specs.declared.sum.Sum.{Sum}

-- ---- lines

-- one more line
pub lines_more : (xs : List ChangeValue) (x : ChangeValue) → opl_text (xs ++ x ∷ []) ≡ opl_text xs ++ (line_text x ++ 10 ∷ [])
unfolding opl_text
lines_more [] x = refl
lines_more (c ∷ xs) x =
    ap (λ (l : List ℕ). line_text c ++ 10 ∷ l) (lines_more xs x) ∙ sym (append_assoc (line_text c) (10 ∷ opl_text xs) (line_text x ++ 10 ∷ []))

pub no_lines : opl_text [] ≡ []
unfolding opl_text
no_lines = refl

none_left : (a b : List ℕ) → [] ≡ a ++ b → b ≡ []
none_left [] b e = sym e
none_left (x ∷ a) b e = absurd (let bad = e in cc)

-- ---- one sum

-- no objects, of which nothing waits
pub sum_none : (sum : Sum) → Holds256 sum.hasher [] → sum.count ≡ 0 → IsSumOf sum [] []
sum_none sum holds count = record { hashed = []; holds = holds; lines = no_lines; count = count }

-- an object was counted
pub sum_more : (old new : Sum) (before : List ℕ) (objects : List ChangeValue) (x : ChangeValue) → new.hasher ≡ old.hasher → new.count ≡ old.count + 1
    → IsSumOf old before objects → IsSumOf new (before ++ (line_text x ++ 10 ∷ [])) (objects ++ x ∷ [])
sum_more old new before objects x same more s = record {
  hashed = s.hashed;
  holds = rw same s.holds;
  lines = lines_more objects x ∙ (ap (λ (l : List ℕ). l ++ (line_text x ++ 10 ∷ [])) s.lines
      ∙ append_assoc s.hashed before (line_text x ++ 10 ∷ []));
  count = more ∙ (ap (λ (n : ℕ). n + 1) s.count ∙ sym (length-append objects (x ∷ [])));
}

-- all of the lines were hashed
pub sum_holds : (sum : Sum) (objects : List ChangeValue) → IsSumOf sum [] objects → Holds256 sum.hasher (opl_text objects)
sum_holds sum objects s = subst (Holds256 sum.hasher) (sym (s.lines ∙ append-nil s.hashed)) s.holds

-- nothing waits if there are no objects
pub nothing_waits : (sum : Sum) (waiting : List ℕ) (objects : List ChangeValue) → IsSumOf sum waiting objects → sum.count ≡ 0
    → (objects ≡ []) × (waiting ≡ [])
nothing_waits sum waiting [] s none = (refl, none_left s.hashed waiting (sym no_lines ∙ s.lines))
nothing_waits sum waiting (x ∷ xs) s none = absurd (let count = sym none ∙ s.count in omega (arith, count))

-- the line of a sum
pub sum_written : (sum : Sum) (objects : List ChangeValue) (name old new digits : List ℕ) → new ≡ old ++ sum_line_of name sum.count digits
    → (Holds256 sum.hasher (opl_text objects) → digits ≡ encode_lower (sha256 (opl_text objects))) → IsSumOf sum [] objects
    → new ≡ old ++ sum_line name objects
sum_written sum objects name old new digits is digest s =
    is ∙ (ap (λ (n : ℕ). old ++ sum_line_of name n digits) s.count
    ∙ ap (λ (d : List ℕ). old ++ sum_line_of name (length objects) d) (digest (sum_holds sum objects s)))

-- ---- blocks

flat_more : {X A : Type 0} (f : X → List A) (xs : List X) (x : X) → flat_map f xs ++ f x ≡ flat_map f (xs ++ x ∷ [])
flat_more f xs x = flat_map_more f [] xs x

not_none : (y : ChangeValue) (ys : List ChangeValue) → (length (y ∷ ys) == 0) ≡ false
not_none y ys = grind (arith, nat_tests)

-- an object was counted
module _ (old new : Blocks) (before lines : List ℕ) (objects : List ChangeValue) (x : ChangeValue) (every : new.every ≡ old.every)
    (text : new.text.items ≡ old.text.items) (more : (b : List ℕ) (os : List ChangeValue) (y : ChangeValue) → IsSumOf old.sum b os
    → IsSumOf new.sum (b ++ (line_text y ++ 10 ∷ [])) (os ++ y ∷ []))
    (first : IsTrue (old.sum.count == 0) → (bytes : List ℕ) → lines ≡ bytes ++ 10 ∷ [] → new.name.items ≡ first_word bytes)
    (others : (old.sum.count == 0) ≡ false → new.name.items ≡ old.name.items) (ends : lines ≡ before ++ (line_text x ++ 10 ∷ [])) where
  named : (last : List ChangeValue) → IsSumOf old.sum before last → IsName last old.name.items → IsName (last ++ x ∷ []) new.name.items
  named [] s n = first (subst (λ (m : ℕ). IsTrue (m == 0)) (sym s.count) refl) (line_text x)
      (ends ∙ ap (λ (l : List ℕ). l ++ (line_text x ++ 10 ∷ [])) (nothing_waits old.sum before [] s s.count).1)
  named (y ∷ ys) s n = others (subst (λ (m : ℕ). (m == 0) ≡ false) (sym s.count) (not_none y ys)) ∙ n

  pub blocks_more : AreInBlocks old before objects → AreInBlocks new lines (objects ++ x ∷ [])
  blocks_more h = record {
    full = h.full;
    last = h.last ++ x ∷ [];
    whole = ap (λ (l : List ChangeValue). l ++ x ∷ []) h.whole ∙ append_assoc (flat_map (λ block. block) h.full) h.last (x ∷ []);
    each = subst (λ (n : ℕ). AllByRecursion (λ block. length block ≡ n) h.full) (sym every) h.each;
    sum = subst (λ (l : List ℕ). IsSumOf new.sum l (h.last ++ x ∷ [])) (sym ends) (more before h.last x h.sum);
    name = named h.last h.sum h.name;
    text = text ∙ h.text;
  }

-- a full block was closed
pub blocks_closed : (old new : Blocks) (objects : List ChangeValue)
    → ((os : List ChangeValue) → IsSumOf old.sum [] os → IsName os old.name.items → new.text.items ≡ old.text.items ++ block_line os)
    → IsSumOf new.sum [] [] → new.every ≡ old.every → AreInBlocks old [] objects → IsNoted true old → AreInBlocks new [] objects
blocks_closed old new objects line next every h noted = record {
  full = h.full ++ h.last ∷ [];
  last = [];
  whole = h.whole ∙ (flat_more (λ block. block) h.full h.last ∙ sym (append-nil (flat_map (λ block. block) (h.full ++ h.last ∷ []))));
  each = subst (λ (n : ℕ). AllByRecursion (λ block. length block ≡ n) (h.full ++ h.last ∷ [])) (sym every)
      (all_then (λ block. length block ≡ old.every) h.full h.last h.each (sym h.sum.count ∙ noted.0));
  sum = next;
  name = tt;
  text = line h.last h.sum h.name ∙ (ap (λ (l : List ℕ). l ++ block_line h.last) h.text ∙ flat_more block_line h.full h.last);
}

pub any_closed : {T E : Type 0} (r : Result T E) (old new : Blocks)
    → OnOk r ((os : List ChangeValue) → IsSumOf old.sum [] os → IsName os old.name.items → new.text.items ≡ old.text.items ++ block_line os)
    → OnOk r (IsSumOf new.sum [] []) → OnOk r (new.every ≡ old.every)
    → OnOk r ((objects : List ChangeValue) → AreInBlocks old [] objects → IsNoted true old → AreInBlocks new [] objects)
any_closed (Ok x) old new line next every = λ objects h noted. blocks_closed old new objects line next every h noted
any_closed (Err e) old new line next every = tt
