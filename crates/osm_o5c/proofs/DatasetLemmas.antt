-- Datasets that are read are spelled, and vice versa; each step of the reader is one more dataset.
use Rattle.std.proofs.Common.{◌≡◌, ℕ, ◌<◌, ◌≤◌, true, false, cond, eqb, ltb, List, [], ◌∷◌, ◌++◌, length, Option, Some, None, refl, sym, ap, subst, ◌∙◌, arith}
use Rattle.std.proofs.lemmas.Bool.Decides.{nat_tests}
use Rattle.std.proofs.lemmas.Option.{same_Some}
use Rattle.osm_model.specs.Change.{ChangeValue}
use Rattle.osm_model.specs.declared.kind.Kind.{Kind}
use Rattle.osm_model.specs.declared.kind.Kind.TheVariants.{Node, Way, Relation}
use Rattle.osm_o5c.specs.Context.{Context, fresh}
use Rattle.osm_o5c.specs.NumberReading.{wrapped_of, part_at}
use Rattle.osm_o5c.specs.File.{kind_byte, Dataset, object, skipped, lone, reset, changes_with}
use Rattle.osm_o5c.specs.ObjectReading.{object_at}
use Rattle.osm_o5c.specs.Datasets.{new_reader, kind_of_byte, object_dataset_at, other_dataset_at, dataset_of}
use Rattle.osm_o5c.specs.Datasets.{dataset_at, Position, position, with_found, step}
use Rattle.osm_reading.specs.Answers.{and_then}
use Rattle.osm_o5c.specs.declared.reader.Reader.{Reader}
use Rattle.osm_reading.proofs.StepLemmas.{some_then, chosen}
use Rattle.osm_o5c.proofs.NumberLemmas.{part_takes, part_again}
use Rattle.osm_o5c.proofs.FieldLemmas.{reader_of}
use Rattle.osm_o5c.proofs.ObjectLemmas.{object_takes, object_again}

-- ---- the type byte

kind_of_byte_is : (t : ℕ) (k : Kind) → kind_of_byte t ≡ Some k → t ≡ kind_byte k
kind_of_byte_is t k e =
    chosen (eqb t 16) (Some Node) (cond (eqb t 17) (Some Way) (cond (eqb t 18) (Some Relation) None)) (Some k) e (t ≡ kind_byte k)
    (λ y is. subst (λ (q : Kind). t ≡ kind_byte q) (same_Some Node k is) (grind (arith, nat_tests)))
    (λ n is. chosen (eqb t 17) (Some Way) (cond (eqb t 18) (Some Relation) None) (Some k) is (t ≡ kind_byte k)
    (λ y is. subst (λ (q : Kind). t ≡ kind_byte q) (same_Some Way k is) (grind (arith, nat_tests)))
    (λ n is. chosen (eqb t 18) (Some Relation) None (Some k) is (t ≡ kind_byte k)
    (λ y is. subst (λ (q : Kind). t ≡ kind_byte q) (same_Some Relation k is) (grind (arith, nat_tests)))
    (λ n is. absurd cc)))

pub kind_of_kind_byte : (k : Kind) → kind_of_byte (kind_byte k) ≡ Some k
kind_of_kind_byte Node = refl
kind_of_kind_byte Way = refl
kind_of_kind_byte Relation = refl

none_or_some : {A : Type 0} (o : Option A) → ((x : A) → o ≡ Some x → ⊥) → o ≡ None
none_or_some None h = refl
none_or_some (Some x) h = absurd (h x refl)

no_kind : (t : ℕ) → ((k : Kind) → t ≡ kind_byte k → ⊥) → kind_of_byte t ≡ None
no_kind t h = none_or_some (kind_of_byte t) (λ k e. h k (kind_of_byte_is t k e))

is_no_kind : (t : ℕ) → kind_of_byte t ≡ None → (k : Kind) → t ≡ kind_byte k → ⊥
is_no_kind t none k e = let some : kind_of_byte t ≡ Some k = ap kind_of_byte e ∙ kind_of_kind_byte k in cc

big_no_kind : (t : ℕ) (k : Kind) → 0xf0 ≤ t → t ≡ kind_byte k → ⊥
big_no_kind t Node h e = omega arith
big_no_kind t Way h e = omega arith
big_no_kind t Relation h e = omega arith

-- the reader after a reset is that of the empty context
pub fresh_reader : new_reader ≡ reader_of fresh
unfolding wrapped_of
fresh_reader = refl

-- ---- one dataset

pub record TakesDataset (C : Context) (bytes : List ℕ) (found : Option ChangeValue) (s : Reader) (rest : List ℕ) : Type 0 where
  pub prefix : List ℕ
  pub after : Context
  pub parts : bytes ≡ prefix ++ rest
  pub spelled : Dataset C prefix found after
  pub same : s ≡ reader_of after

behind_type : (t : ℕ) (bytes length_bytes part prefix rest : List ℕ) → bytes ≡ prefix ++ rest → prefix ≡ length_bytes
    ++ part → t ∷ bytes ≡ (t ∷ length_bytes ++ part) ++ rest
behind_type t bytes length_bytes part prefix rest p q = ap (λ (l : List ℕ). t ∷ l) (p ∙ ap (λ (l : List ℕ). l ++ rest) q)

object_data_takes : (k : Kind) (C : Context) (bytes : List ℕ) (x : Option ChangeValue × Reader × List ℕ)
    → object_dataset_at k (reader_of C) bytes ≡ Some x → TakesDataset C (kind_byte k ∷ bytes) x.0 x.1 x.2
unfolding object_dataset_at
object_data_takes k C bytes x e =
    let p = some_then (part_at bytes) (λ p. and_then (object_at k (reader_of C) p.0) (λ o. Some (Some o.0, o.1, p.1))) x e in
    let o = some_then (object_at k (reader_of C) p.0.0) (λ o. Some (Some o.0, o.1, p.0.1)) x p.2 in
    let part = part_takes bytes p.0 p.1 in
    let t = object_takes k C p.0.0 o.0 o.1 in
    let spelled : Dataset C (kind_byte k ∷ part.spelled.length_bytes ++ p.0.0) (Some o.0.0) t.after =
    subst (λ (q : Kind). Dataset C (kind_byte q ∷ part.spelled.length_bytes ++ p.0.0) (Some o.0.0) t.after)
    t.kind_is (object C part.spelled.length_bytes p.0.0 o.0.0 t.after part.spelled.spells t.spells) in
    subst (λ (q : Option ChangeValue × Reader × List ℕ). TakesDataset C (kind_byte k ∷ bytes) q.0 q.1 q.2) (same_Some (Some o.0.0, o.0.1, p.0.1) x o.2)
    (record {
      prefix = kind_byte k ∷ part.spelled.length_bytes ++ p.0.0;
      after = t.after;
      parts = behind_type (kind_byte k) bytes part.spelled.length_bytes p.0.0 part.prefix p.0.1 part.parts part.spelled.whole;
      spelled = spelled;
      same = t.same;
    })

other_data_takes : (t : ℕ) (C : Context) (bytes : List ℕ) (x : Option ChangeValue × Reader × List ℕ)
    → ((k : Kind) → t ≡ kind_byte k → ⊥) → other_dataset_at t (reader_of C) bytes ≡ Some x
    → TakesDataset C (t ∷ bytes) x.0 x.1 x.2
unfolding other_dataset_at
other_data_takes t C bytes x other e =
    chosen (ltb t 240) (and_then (part_at bytes) (λ p. Some (None, reader_of C, p.1)))
    (cond (ltb t 254) (Some (None, reader_of C, bytes)) (cond (eqb t 255) (Some (None, new_reader, bytes)) None))
    (Some x) e (TakesDataset C (t ∷ bytes) x.0 x.1 x.2)
    (λ low is.
    let small : t < 240 = grind (arith, nat_tests) in
    let p = some_then (part_at bytes) (λ p. Some (None, reader_of C, p.1)) x is in
    let part = part_takes bytes p.0 p.1 in
    subst (λ (q : Option ChangeValue × Reader × List ℕ). TakesDataset C (t ∷ bytes) q.0 q.1 q.2) (same_Some (None, reader_of C, p.0.1) x p.2)
    (record {
      prefix = t ∷ part.spelled.length_bytes ++ p.0.0;
      after = C;
      parts = behind_type t bytes part.spelled.length_bytes p.0.0 part.prefix p.0.1 part.parts part.spelled.whole;
      spelled = skipped C t part.spelled.length_bytes p.0.0 small other part.spelled.spells;
      same = refl;
    }))
    (λ high is.
    let big : 240 ≤ t = grind (arith, nat_tests) in
    chosen (ltb t 254) (Some (None, reader_of C, bytes)) (cond (eqb t 255) (Some (None, new_reader, bytes)) None)
    (Some x) is (TakesDataset C (t ∷ bytes) x.0 x.1 x.2)
    (λ low is.
    let small : t < 254 = grind (arith, nat_tests) in
    subst (λ (q : Option ChangeValue × Reader × List ℕ). TakesDataset C (t ∷ bytes) q.0 q.1 q.2) (same_Some (None, reader_of C, bytes) x is)
    (record { prefix = t ∷ []; after = C; parts = refl; spelled = lone C t big small; same = refl }))
    (λ end is.
    chosen (eqb t 255) (Some (None, new_reader, bytes)) None (Some x) is (TakesDataset C (t ∷ bytes) x.0 x.1 x.2)
    (λ yes_reset is.
    let z : t ≡ 255 = grind (arith, nat_tests) in
    subst (λ (q : Option ChangeValue × Reader × List ℕ). TakesDataset C (t ∷ bytes) q.0 q.1 q.2) (same_Some (None, new_reader, bytes) x is)
    (record { prefix = 255 ∷ []; after = fresh; parts = ap (λ (i : ℕ). i ∷ bytes) z; spelled = reset C; same = fresh_reader }))
    (λ no_reset is. absurd cc)))

of_takes : (o : Option Kind) (t : ℕ) (C : Context) (bytes : List ℕ) (x : Option ChangeValue × Reader × List ℕ)
    → kind_of_byte t ≡ o → dataset_of o t (reader_of C) bytes ≡ Some x → TakesDataset C (t ∷ bytes) x.0 x.1 x.2
of_takes (Some k) t C bytes x is e = subst (λ (i : ℕ). TakesDataset C (i ∷ bytes) x.0 x.1 x.2) (sym (kind_of_byte_is t k is)) (object_data_takes k C bytes x e)
of_takes None t C bytes x is e = other_data_takes t C bytes x (is_no_kind t is) e

pub dataset_takes : (C : Context) (bytes : List ℕ) (x : Option ChangeValue × Reader × List ℕ)
    → dataset_at (reader_of C) bytes ≡ Some x → TakesDataset C bytes x.0 x.1 x.2
unfolding dataset_at
dataset_takes C [] x e = absurd cc
dataset_takes C (t ∷ bytes) x e = of_takes (kind_of_byte t) t C bytes x refl e

object_data_again : (C : Context) (length_bytes content : List ℕ) (c : ChangeValue) (after : Context) (rest : List ℕ)
    → part_at (length_bytes ++ content ++ rest) ≡ Some (content, rest) → object_at c.key.kind (reader_of C) content ≡
    Some (c, reader_of after) → object_dataset_at c.key.kind (reader_of C) (length_bytes ++ content ++ rest) ≡
    Some (Some c, reader_of after, rest)
unfolding object_dataset_at
object_data_again C length_bytes content c after rest p o = rw (p, o) refl

skipped_again : (C : Context) (t : ℕ) (length_bytes content rest : List ℕ) → t < 240
    → part_at (length_bytes ++ content ++ rest) ≡ Some (content, rest)
    → other_dataset_at t (reader_of C) (length_bytes ++ content ++ rest) ≡ Some (None, reader_of C, rest)
unfolding other_dataset_at
skipped_again C t length_bytes content rest low p = let l : ltb t 240 ≡ true = grind (arith, nat_tests) in rw (l, p) refl

lone_again : (C : Context) (t : ℕ) (rest : List ℕ) → 240 ≤ t → t < 254 → other_dataset_at t (reader_of C) rest ≡ Some (None, reader_of C, rest)
unfolding other_dataset_at
lone_again C t rest big small =
    let a : ltb t 240 ≡ false = grind (arith, nat_tests) in
    let b : ltb t 254 ≡ true = grind (arith, nat_tests) in
    rw (a, b) refl

reset_again : (C : Context) (rest : List ℕ) → other_dataset_at 255 (reader_of C) rest ≡ Some (None, new_reader, rest)
unfolding other_dataset_at
reset_again C rest = refl

of_none : (t : ℕ) (s : Reader) (rest : List ℕ) → kind_of_byte t ≡ None → dataset_at s (t ∷ rest) ≡ other_dataset_at t s rest
unfolding dataset_at
of_none t s rest e = rw e refl

of_kind : (k : Kind) (s : Reader) (rest : List ℕ) → dataset_at s (kind_byte k ∷ rest) ≡ object_dataset_at k s rest
unfolding dataset_at
of_kind k s rest = rw (kind_of_kind_byte k) refl

pub dataset_again : (C : Context) (dataset : List ℕ) (found : Option ChangeValue) (after : Context) (rest : List ℕ)
    → Dataset C dataset found after → dataset_at (reader_of C) (dataset ++ rest) ≡ Some (found, reader_of after, rest)
dataset_again _ _ _ _ rest (object C length_bytes content c after n s) =
    of_kind c.key.kind (reader_of C) (length_bytes ++ content ++ rest)
    ∙ object_data_again C length_bytes content c after rest (part_again length_bytes content rest n)
    (object_again C content c after s)
dataset_again _ _ _ _ rest (skipped C t length_bytes content low other n) =
    of_none t (reader_of C) (length_bytes ++ content ++ rest) (no_kind t other)
    ∙ skipped_again C t length_bytes content rest low (part_again length_bytes content rest n)
dataset_again _ _ _ _ rest (lone C t big small) =
    of_none t (reader_of C) rest (no_kind t (λ k e. big_no_kind t k big e)) ∙ lone_again C t rest big small
dataset_again _ _ _ _ rest (reset C) =
    of_none 255 (reader_of C) rest refl ∙ reset_again C rest ∙ ap (λ (r : Reader). Some (None, r, rest)) fresh_reader

pub dataset_some : (C : Context) (dataset : List ℕ) (found : Option ChangeValue) (after : Context) → Dataset C dataset found after → 0 < length dataset
dataset_some _ _ _ _ (object C length_bytes content c after n s) = omega arith
dataset_some _ _ _ _ (skipped C t length_bytes content low other n) = omega arith
dataset_some _ _ _ _ (lone C t big small) = omega arith
dataset_some _ _ _ _ (reset C) = omega arith

-- ---- one step

pub record TakesStep (C : Context) (p q : Position) : Type 0 where
  pub prefix : List ℕ
  pub found : Option ChangeValue
  pub after : Context
  pub parts : p.rest ≡ prefix ++ q.rest
  pub spelled : Dataset C prefix found after
  pub changes : q.changes ≡ changes_with p.changes found
  pub same : q.reader ≡ reader_of after

pub step_takes : (C : Context) (xs : List ChangeValue) (rest : List ℕ) (q : Position)
    → step (position (reader_of C) xs rest) ≡ Some q → TakesStep C (position (reader_of C) xs rest) q
unfolding step
step_takes C xs rest q e =
    let x = some_then (dataset_at (reader_of C) rest) (with_found xs) q e in
    let t = dataset_takes C rest x.0 x.1 in
    subst (λ (q : Position). TakesStep C (position (reader_of C) xs rest) q)
    (same_Some (position x.0.1 (changes_with xs x.0.0) x.0.2) q x.2)
    (record { prefix = t.prefix; found = x.0.0; after = t.after; parts = t.parts; spelled = t.spelled; changes = refl; same = t.same })

pub step_again : (C : Context) (xs : List ChangeValue) (dataset : List ℕ) (found : Option ChangeValue) (after : Context)
    (more : List ℕ) → Dataset C dataset found after → step (position (reader_of C) xs (dataset ++ more)) ≡
    Some (position (reader_of after) (changes_with xs found) more)
unfolding step
step_again C xs dataset found after more s = rw (dataset_again C dataset found after more s) refl
