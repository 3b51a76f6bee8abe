-- What is ahead of a list that is merged with changes, whatever these are.
use Rattle.std.proofs.Common.{◌≡◌, ℕ, suc, List, [], ◌∷◌, ◌++◌, Option, Some, None, refl, sym, ap, ◌∙◌}
use Rattle.std.proofs.Common.{append_assoc}
use Rattle.std.proofs.lemmas.Option.{same_Some}
use Rattle.osm_reading.specs.Pieces.{Lacks, cut_at}
use Rattle.osm_reading.proofs.PieceLemmas.{cut_again, cut_lacks, cut_takes}
use Rattle.osm_reading.specs.Answers.{and_then}
use Rattle.osm_save.specs.Reading.{items_at}
use Rattle.osm_merge.specs.Laying.{next_at}
use Rattle.osm_merge.proofs.ItemLemmas.{next_parts}
use Rattle.osm_merged.specs.Ahead.{Ahead, GivesBy, IsGiven, held_before, values_ahead, with_first}
use Rattle.osm_merged.specs.Steps.Turns.{KeepsAhead}
use Rattle.osm_model.specs.Change.{ChangeValue}

-- what was ahead before is given too
pub given_after : {X : Type 0} (rest : List ℕ) (old mid new : Option (List X × List ℕ)) (given : Option X) → old ≡ mid → IsGiven rest mid new given
    → IsGiven rest old new given
given_after rest old mid new (Some x) same e = same ∙ e
given_after rest old mid new None same e = (same ∙ e.0, e.1)

-- values, and then those that are read
abbrev pub with_values : List ChangeValue → Option (List ChangeValue × List ℕ) → Option (List ChangeValue × List ℕ)
with_values xs None = None
with_values xs (Some r) = Some (xs ++ r.0, r.1)

pub with_nothing : (o : Option (List ChangeValue × List ℕ)) → o ≡ with_values [] o
with_nothing None = refl
with_nothing (Some r) = refl

pub with_more : (xs : List ChangeValue) (x : ChangeValue) (o : Option (List ChangeValue × List ℕ))
    → with_values xs (with_first x o) ≡ with_values (xs ++ x ∷ []) o
with_more xs x None = refl
with_more xs x (Some r) = ap (λ (l : List ChangeValue). Some (l, r.1)) (sym (append_assoc xs (x ∷ []) r.0))

-- ---- bytes that were passed

module _ {X : Type 0} where
  pub keeps_none : (f : List ℕ → Option (List X × List ℕ)) (bytes : List ℕ) → KeepsAhead f f bytes bytes
  keeps_none f bytes = record { passed = []; parts = refl; same = λ tail. refl }

  pub keeps_both : (f g h : List ℕ → Option (List X × List ℕ)) (x y z : List ℕ) → KeepsAhead f g x y → KeepsAhead g h y z → KeepsAhead f h x z
  keeps_both f g h x y z p q = record {
    passed = p.passed ++ q.passed;
    parts = p.parts ∙ (ap (λ (l : List ℕ). p.passed ++ l) q.parts ∙ sym (append_assoc p.passed q.passed z));
    same = λ tail. ap f (append_assoc p.passed q.passed tail) ∙ (p.same (q.passed ++ tail) ∙ q.same tail);
  }

  -- with what does come after them
  pub keeps_now : (f g : List ℕ → Option (List X × List ℕ)) (x y : List ℕ) → KeepsAhead f g x y → f x ≡ g y
  keeps_now f g x y p = ap f p.parts ∙ p.same y

  pub keeps_gives : (f g h : List ℕ → Option (List X × List ℕ)) (x y : List ℕ) (given : Option X) → KeepsAhead f g x y
      → ((tail : List ℕ) → IsGiven tail (g tail) (h tail) given) → GivesBy f h x y given
  keeps_gives f g h x y given p first = record {
    passed = p.passed;
    parts = p.parts;
    first = λ tail. given_after tail (f (p.passed ++ tail)) (g tail) (h tail) given (p.same tail) (first tail);
  }

module _ {E X K : Type 0} (lay : List E → List X → List X) (key : X → K) (item : Option K → List ℕ → Option X) where
  -- ---- the next line

  read_joined : (es : List E) (x : X) (r : Option (List X × List ℕ))
      → and_then {A = List X × List ℕ} {B = List X × List ℕ} (and_then {A = List X × List ℕ} {B = List X × List ℕ} r (λ p. Some (x ∷ p.0, p.1)))
      (λ p. Some (lay es p.0, p.1))
      ≡ and_then {A = List X × List ℕ} {B = List X × List ℕ} r (λ p. Some (lay es (x ∷ p.0), p.1))
  read_joined es x None = refl
  read_joined es x (Some p) = refl

  -- a line was read: its value is held
  pub one_read : (a b : Ahead E X K) (bytes after : List ℕ) (x : X) → a.held ≡ None → a.lines ≡ suc b.lines → b.changes ≡ a.changes
      → b.last ≡ Some (key x) → b.held ≡ Some x → next_at item a.last bytes ≡ Some (x, after)
      → KeepsAhead (λ bs. values_ahead lay key item a bs) (λ bs. values_ahead lay key item b bs) bytes after
  one_read a b bytes after x none lines changes last held e =
      let p = next_parts item a.last bytes after x e in
      let lacks : Lacks 10 p.0 = cut_lacks 10 bytes p.0 after p.1 in
      record {
        passed = p.0 ++ 10 ∷ [];
        parts = cut_takes 10 bytes p.0 after p.1 ∙ sym (append_assoc p.0 (10 ∷ []) after);
        same = λ tail.
            rw (append_assoc p.0 (10 ∷ []) tail, none, lines, changes, last, held, cut_again 10 p.0 tail lacks, p.2)
            (read_joined a.changes x (items_at key item b.lines (Some (key x)) tail));
      }

  -- if the next line can't be read, nothing is ahead
  pub none_read : (a : Ahead E X K) (lines : ℕ) (bytes : List ℕ) → a.lines ≡ suc lines → next_at item a.last bytes ≡ None
      → values_ahead lay key item a bytes ≡ None
  unfolding next_at
  none_read a lines bytes is e = rw is (by_cut (cut_at 10 bytes) e)
    where
      whole : Option (List X × List ℕ) → Option (List X × List ℕ)
      whole o = and_then {A = List X × List ℕ} {B = List X × List ℕ} o (λ r. Some (lay a.changes (held_before a.held r.0), r.1))

      by_item : (after : List ℕ) (o : Option X) → and_then {A = X} {B = X × List ℕ} o (λ y. Some (y, after)) ≡ None
          → whole (and_then {A = X} {B = List X × List ℕ} o (λ x. and_then {A = List X × List ℕ} {B = List X × List ℕ}
          (items_at key item lines (Some (key x)) after) (λ r. Some (x ∷ r.0, r.1)))) ≡ None
      by_item after None none = refl
      by_item after (Some y) none = absurd cc

      by_cut : (o : Option (List ℕ × List ℕ)) → and_then {A = List ℕ × List ℕ} {B = X × List ℕ} o
          (λ l. and_then {A = X} {B = X × List ℕ} (item a.last l.0) (λ y. Some (y, l.1))) ≡ None
          → whole (and_then {A = List ℕ × List ℕ} {B = List X × List ℕ} o (λ l. and_then {A = X} {B = List X × List ℕ} (item a.last l.0)
          (λ x. and_then {A = List X × List ℕ} {B = List X × List ℕ} (items_at key item lines (Some (key x)) l.1) (λ r. Some (x ∷ r.0, r.1))))) ≡ None
      by_cut None none = refl
      by_cut (Some l) none = by_item l.1 (item a.last l.0) none

  -- ---- without a line

  -- where no line is left, no value is read
  none_left : (a : Ahead E X K) (bytes : List ℕ) (r : List X × List ℕ) → items_at key item a.lines a.last bytes ≡ Some r → a.lines ≡ 0 → r.0 ≡ []
  none_left a bytes r e zero =
      let e0 : items_at key item 0 a.last bytes ≡ Some r = rw zero at e in
      let both : ◌≡◌ {A = List X × List ℕ} ([], bytes) r = same_Some ([], bytes) r e0 in
      sym (ap (λ (p : List X × List ℕ). p.0) both)

  -- the first value is given
  pub first_given : (a b : Ahead E X K) (x : X) (bytes : List ℕ) → b.lines ≡ a.lines → b.last ≡ a.last
      → ((xs : List X) → (a.lines ≡ 0 → xs ≡ []) → lay a.changes (held_before a.held xs) ≡ x ∷ lay b.changes (held_before b.held xs))
      → values_ahead lay key item a bytes ≡ with_first x (values_ahead lay key item b bytes)
  first_given a b x bytes lines last step = rw (lines, last) (by_items (items_at key item a.lines a.last bytes) refl)
    where
      by_items : (o : Option (List X × List ℕ)) → items_at key item a.lines a.last bytes ≡ o
          → and_then {A = List X × List ℕ} {B = List X × List ℕ} o (λ r. Some (lay a.changes (held_before a.held r.0), r.1))
          ≡ with_first x (and_then {A = List X × List ℕ} {B = List X × List ℕ} o (λ r. Some (lay b.changes (held_before b.held r.0), r.1)))
      by_items None e = refl
      by_items (Some r) e = ap (λ (l : List X). Some (l, r.1)) (step r.0 (none_left a bytes r e))

  -- a change that leaves nothing is passed
  pub none_given : (a b : Ahead E X K) (bytes : List ℕ) → b.lines ≡ a.lines → b.last ≡ a.last
      → ((xs : List X) → (a.lines ≡ 0 → xs ≡ []) → lay a.changes (held_before a.held xs) ≡ lay b.changes (held_before b.held xs))
      → values_ahead lay key item a bytes ≡ values_ahead lay key item b bytes
  none_given a b bytes lines last step = rw (lines, last) (by_items (items_at key item a.lines a.last bytes) refl)
    where
      by_items : (o : Option (List X × List ℕ)) → items_at key item a.lines a.last bytes ≡ o
          → and_then {A = List X × List ℕ} {B = List X × List ℕ} o (λ r. Some (lay a.changes (held_before a.held r.0), r.1))
          ≡ and_then {A = List X × List ℕ} {B = List X × List ℕ} o (λ r. Some (lay b.changes (held_before b.held r.0), r.1))
      by_items None e = refl
      by_items (Some r) e = ap (λ (l : List X). Some (l, r.1)) (step r.0 (none_left a bytes r e))

  -- at the end
  pub none_ahead : (a : Ahead E X K) (bytes : List ℕ) → a.lines ≡ 0 → a.held ≡ None → lay a.changes [] ≡ []
      → values_ahead lay key item a bytes ≡ Some ([], bytes)
  none_ahead a bytes lines held nothing = rw (lines, held, nothing) refl
