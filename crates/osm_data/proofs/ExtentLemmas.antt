-- A dataset that is whole in bytes is read alike with more bytes after them.
use Rattle.std.proofs.Common.{◌≡◌, ℕ, ◌<◌, ◌≤◌, Bool, true, false, cond, eqb, ltb, leb, List, [], ◌∷◌, ◌++◌}
use Rattle.std.proofs.Common.{length, get_or, take, drop, Option, Some, None, refl, sym, ap, subst, ◌∙◌, append_assoc, arith, inl, inr, ◌⊎◌}
use Rattle.std.specs.Prelude.{◌≢◌}
use Rattle.std.proofs.lemmas.Bool.Decides.{nat_tests}
use Rattle.std.proofs.lemmas.Option.{same_Some}
use Rattle.std.proofs.lemmas.List.{drop-append-le, length-append, take-append-drop, take-append-le, take_at}
use Rattle.osm_model.specs.Change.{ChangeValue}
use Rattle.osm_model.specs.declared.kind.Kind.{Kind}
use Rattle.osm_reading.specs.Answers.{and_then}
use Rattle.osm_reading.proofs.StepLemmas.{chosen, some_then}
use Rattle.osm_o5c.specs.File.{changes_with}
use Rattle.osm_o5c.specs.Number.{SpellsNumber}
use Rattle.osm_o5c.specs.Datasets.{Position, dataset_at, dataset_of, kind_of_byte, new_reader, object_dataset_at}
use Rattle.osm_o5c.specs.Datasets.{other_dataset_at, position, step, with_found}
use Rattle.osm_o5c.specs.NumberReading.{part_at, unsigned_at}
use Rattle.osm_o5c.specs.ObjectReading.{object_at}
use Rattle.osm_o5c.specs.declared.reader.Reader.{Reader}
use Rattle.osm_o5c.proofs.NumberLemmas.{part_takes, unsigned_again, unsigned_takes}
use Rattle.osm_data.specs.declared.extents.Extent.{Extent}
use Rattle.osm_data.specs.declared.extents.Extent.TheVariants.{Whole, Cut, Long, Trailing}
use Rattle.osm_data.specs.Steps.Extents.{end_at, extent_at, size_at, sized_at}

-- what a dataset gives
abbrev pub Given : Type 0
Given = Option ChangeValue × Reader × List ℕ

-- ---- what the extents are

picked : (b : Bool) (x y z : Extent) → cond b x y ≡ z → (P : Type 0) → (b ≡ true → x ≡ z → P) → (b ≡ false → y ≡ z → P) → P
picked true x y z e P t f = t refl e
picked false x y z e P t f = f refl e

-- a type without a length
pub record IsLone (t : ℕ) : Type 0 where
  pub high : 240 ≤ t
  pub other : t ≢ 254

whole_is : (t : ℕ) (bytes : List ℕ) → extent_at (t ∷ bytes) ≡ Whole → (sized_at bytes ≡ Whole) × (t < 240) ⊎ IsLone t
unfolding extent_at
whole_is t bytes e =
    picked (ltb t 240) (sized_at bytes) (cond (eqb t 254) (end_at bytes) Whole) Whole e ((sized_at bytes ≡ Whole) × (t < 240) ⊎ IsLone t)
    (λ low is. inl (is, grind (arith, nat_tests)))
    (λ high is. picked (eqb t 254) (end_at bytes) Whole Whole is ((sized_at bytes ≡ Whole) × (t < 240) ⊎ IsLone t)
    (λ end is. absurd (never bytes is))
    (λ other is. inr (record { high = grind (arith, nat_tests); other = grind (arith, nat_tests) })))
  where
    never : (bytes : List ℕ) → end_at bytes ≡ Whole → ⊥
    never [] e = absurd cc
    never (b ∷ bytes) e = absurd cc

cut_is : (t : ℕ) (bytes : List ℕ) → extent_at (t ∷ bytes) ≡ Cut → (sized_at bytes ≡ Cut) × (t < 240) ⊎ ((t ≡ 254) × (bytes ≡ []))
unfolding extent_at
cut_is t bytes e =
    picked (ltb t 240) (sized_at bytes) (cond (eqb t 254) (end_at bytes) Whole) Cut e ((sized_at bytes ≡ Cut) × (t < 240) ⊎ ((t ≡ 254) × (bytes ≡ [])))
    (λ low is. inl (is, grind (arith, nat_tests)))
    (λ high is. picked (eqb t 254) (end_at bytes) Whole Cut is ((sized_at bytes ≡ Cut) × (t < 240) ⊎ ((t ≡ 254) × (bytes ≡ [])))
    (λ end is. inr (grind (arith, nat_tests), nothing bytes is))
    (λ other is. absurd cc))
  where
    nothing : (bytes : List ℕ) → end_at bytes ≡ Cut → bytes ≡ []
    nothing [] e = refl
    nothing (b ∷ bytes) e = absurd cc

trailing_is : (t : ℕ) (bytes : List ℕ) → extent_at (t ∷ bytes) ≡ Trailing → (t ≡ 254) × (0 < length bytes)
unfolding extent_at sized_at
trailing_is t bytes e =
    picked (ltb t 240) (sized_at bytes) (cond (eqb t 254) (end_at bytes) Whole) Trailing e ((t ≡ 254) × (0 < length bytes))
    (λ low is. absurd (never (length bytes) (unsigned_at bytes) is))
    (λ high is. picked (eqb t 254) (end_at bytes) Whole Trailing is ((t ≡ 254) × (0 < length bytes))
    (λ end is. (grind (arith, nat_tests), some bytes is))
    (λ other is. absurd cc))
  where
    some : (bytes : List ℕ) → end_at bytes ≡ Trailing → 0 < length bytes
    some [] e = absurd cc
    some (b ∷ bytes) e = omega arith

    never : (count : ℕ) (o : Option (ℕ × List ℕ)) → size_at count o ≡ Trailing → ⊥
    never count None e = picked (ltb count 10) Cut Whole Trailing e ⊥ (λ a is. cc) (λ b is. cc)
    never count (Some x) e = picked (ltb 67108864 x.0) Long (cond (ltb (length x.1) x.0) Cut Whole) Trailing e ⊥ (λ a is. cc)
        (λ b is. picked (ltb (length x.1) x.0) Cut Whole Trailing is ⊥ (λ a is. cc) (λ b is. cc))

-- the first byte isn't the end byte
pub whole_first : (bytes more : List ℕ) → extent_at bytes ≡ Whole → get_or (bytes ++ more) 0 0 ≢ 254
unfolding extent_at
whole_first [] more e = absurd cc
whole_first (t ∷ bytes) more e = elim (whole_is t bytes e) [
  | inl sized ↦ (λ is. let low : t < 240 = sized.1 in omega (arith, low, is))
  | inr lone ↦ lone.other
]

-- the end byte, and more bytes
pub record IsTrailing (bytes : List ℕ) : Type 0 where
  pub first : get_or bytes 0 0 ≡ 254
  pub long : 1 < length bytes

pub trailing : (bytes : List ℕ) → extent_at bytes ≡ Trailing → IsTrailing bytes
unfolding extent_at
trailing [] e = absurd cc
trailing (t ∷ bytes) e = let is = trailing_is t bytes e in record { first = is.0; long = omega (arith, is.1) }

-- a cut dataset that begins with the end byte is that byte alone
pub cut_end : (bytes : List ℕ) → extent_at bytes ≡ Cut → get_or bytes 0 0 ≡ 254 → length bytes ≡ 1
unfolding extent_at
cut_end [] e first = absurd (let f : ◌≡◌ {A = ℕ} 0 254 = first in omega (arith, f))
cut_end (t ∷ bytes) e first = elim (cut_is t bytes e) [
  | inl sized ↦ (let low : t < 240 = sized.1 in absurd (omega (arith, low, first)))
  | inr end ↦ (let none : length bytes ≡ 0 = ap length end.1 in omega (arith, none))
]

-- a long dataset: its type, its length, and what follows
pub record IsLongHere (bytes : List ℕ) : Type 0 where
  pub kind : ℕ
  pub length_bytes : List ℕ
  pub size : ℕ
  pub after : List ℕ
  pub low : kind < 240
  pub spells : SpellsNumber length_bytes size
  pub long : 67108864 < size
  pub parts : bytes ≡ kind ∷ length_bytes ++ after

pub long : (bytes : List ℕ) → extent_at bytes ≡ Long → IsLongHere bytes
unfolding extent_at sized_at
long [] e = absurd cc
long (t ∷ bytes) e =
    picked (ltb t 240) (sized_at bytes) (cond (eqb t 254) (end_at bytes) Whole) Long e (IsLongHere (t ∷ bytes))
    (λ low is. by_number (unsigned_at bytes) refl (grind (arith, nat_tests)) is)
    (λ high is. absurd (picked (eqb t 254) (end_at bytes) Whole Long is ⊥ (λ end is. never bytes is) (λ other is. cc)))
  where
    never : (bytes : List ℕ) → end_at bytes ≡ Long → ⊥
    never [] e = absurd cc
    never (b ∷ bytes) e = absurd cc

    by_number : (o : Option (ℕ × List ℕ)) → unsigned_at bytes ≡ o → t < 240 → size_at (length bytes) o ≡ Long → IsLongHere (t ∷ bytes)
    by_number None e low is = absurd (picked (ltb (length bytes) 10) Cut Whole Long is ⊥ (λ a is. cc) (λ b is. cc))
    by_number (Some x) e low is =
        picked (ltb 67108864 x.0) Long (cond (ltb (length x.1) x.0) Cut Whole) Long is (IsLongHere (t ∷ bytes))
        (λ big is.
        let n = unsigned_takes bytes x e in
        record {
          kind = t;
          length_bytes = n.prefix;
          size = x.0;
          after = x.1;
          low = low;
          spells = n.spelled;
          long = grind (arith, nat_tests);
          parts = ap (λ (l : List ℕ). t ∷ l) n.parts;
        })
        (λ small is. absurd (picked (ltb (length x.1) x.0) Cut Whole Long is ⊥ (λ a is. cc) (λ b is. cc)))

-- ---- a length and its bytes

-- the same with more bytes after it
abbrev pub longer : {A : Type 0} → List ℕ → Option (A × List ℕ) → Option (A × List ℕ)
longer more o = and_then o (λ x. Some (x.0, x.1 ++ more))

pub no_unsigned : (bytes more : List ℕ) (o : Option (ℕ × List ℕ)) → 10 ≤ length bytes → unsigned_at bytes ≡ None
    → unsigned_at (bytes ++ more) ≡ o → o ≡ None
no_unsigned bytes more None long none e = refl
no_unsigned bytes more (Some x) long none e =
    let t = unsigned_takes (bytes ++ more) x e in
    let short : length t.prefix ≤ length bytes = omega (arith, t.spelled.short, long) in
    let parts : bytes ≡ t.prefix ++ drop (length t.prefix) bytes = sym (take-append-drop (length t.prefix) bytes)
    ∙ ap (λ (l : List ℕ). l ++ drop (length t.prefix) bytes)
    (sym (take-append-le (length t.prefix) bytes more short) ∙ ap (take (length t.prefix)) t.parts ∙ take_at t.prefix x.1 (length t.prefix) refl) in
    let some : unsigned_at bytes ≡ Some (x.0, drop (length t.prefix) bytes) = ap unsigned_at parts
    ∙ unsigned_again t.prefix x.0 (drop (length t.prefix) bytes) t.spelled in
    absurd cc

pub unsigned_more : (bytes more : List ℕ) (x : ℕ × List ℕ) → unsigned_at bytes ≡ Some x → unsigned_at (bytes ++ more) ≡ Some (x.0, x.1 ++ more)
unsigned_more bytes more x e =
    let t = unsigned_takes bytes x e in
    ap (λ (l : List ℕ). unsigned_at (l ++ more)) t.parts ∙ ap unsigned_at (append_assoc t.prefix x.1 more)
    ∙ unsigned_again t.prefix x.0 (x.1 ++ more) t.spelled

part_more : (bytes more : List ℕ) → sized_at bytes ≡ Whole → part_at (bytes ++ more) ≡ longer more (part_at bytes)
unfolding sized_at part_at
part_more bytes more h = by_number (unsigned_at bytes) refl h
  where
    by_number : (o : Option (ℕ × List ℕ)) → unsigned_at bytes ≡ o → size_at (length bytes) o ≡ Whole
        → part_at (bytes ++ more) ≡ longer more (part_at bytes)
    by_number None e is =
        picked (ltb (length bytes) 10) Cut Whole Whole is (part_at (bytes ++ more) ≡ longer more (part_at bytes))
        (λ few is. absurd cc)
        (λ many is.
        let none : unsigned_at (bytes ++ more) ≡ None = no_unsigned bytes more (unsigned_at (bytes ++ more)) (grind (arith, nat_tests)) e refl in
        rw (e, none) refl)
    by_number (Some x) e is =
        picked (ltb 67108864 x.0) Long (cond (ltb (length x.1) x.0) Cut Whole) Whole is (part_at (bytes ++ more) ≡ longer more (part_at bytes))
        (λ big is. absurd cc)
        (λ small is. picked (ltb (length x.1) x.0) Cut Whole Whole is (part_at (bytes ++ more) ≡ longer more (part_at bytes))
        (λ few is. absurd cc)
        (λ enough is.
        let fits : x.0 ≤ length x.1 = grind (arith, nat_tests) in
        let here : leb x.0 (length x.1) ≡ true = grind (arith, nat_tests) in
        let still : x.0 ≤ length (x.1 ++ more) = omega (arith, fits, length-append x.1 more) in
        let there : leb x.0 (length (x.1 ++ more)) ≡ true = grind (arith, nat_tests) in
        rw (unsigned_more bytes more x e, e, here, there, take-append-le x.0 x.1 more fits, drop-append-le x.0 x.1 more fits) refl))

no_part : (bytes : List ℕ) → sized_at bytes ≡ Cut → part_at bytes ≡ None
unfolding sized_at part_at
no_part bytes h = by_number (unsigned_at bytes) refl h
  where
    by_number : (o : Option (ℕ × List ℕ)) → unsigned_at bytes ≡ o → size_at (length bytes) o ≡ Cut → part_at bytes ≡ None
    by_number None e is = rw e refl
    by_number (Some x) e is =
        picked (ltb 67108864 x.0) Long (cond (ltb (length x.1) x.0) Cut Whole) Cut is (part_at bytes ≡ None)
        (λ big is. absurd cc)
        (λ small is. picked (ltb (length x.1) x.0) Cut Whole Cut is (part_at bytes ≡ None)
        (λ few is.
        let over : leb x.0 (length x.1) ≡ false = (let o : length x.1 < x.0 = grind (arith, nat_tests) in grind (arith, nat_tests)) in
        rw (e, over) refl)
        (λ enough is. absurd cc))

-- ---- a dataset

abbrev pub wider : List ℕ → Option Given → Option Given
wider more o = and_then o (λ x. Some (x.0, x.1, x.2 ++ more))

object_more : (kind : Kind) (s : Reader) (bytes more : List ℕ) → sized_at bytes ≡ Whole
    → object_dataset_at kind s (bytes ++ more) ≡ wider more (object_dataset_at kind s bytes)
unfolding object_dataset_at
object_more kind s bytes more h = rw (part_more bytes more h) (by_part (part_at bytes))
  where
    by_object : (o : Option (ChangeValue × Reader)) (rest : List ℕ)
        → and_then o (λ x. Some (Some x.0, x.1, rest ++ more)) ≡ wider more (and_then o (λ x. Some (Some x.0, x.1, rest)))
    by_object None rest = refl
    by_object (Some x) rest = refl

    by_part : (o : Option (List ℕ × List ℕ))
        → and_then (longer more o) (λ p. and_then (object_at kind s p.0) (λ x. Some (Some x.0, x.1, p.1)))
        ≡ wider more (and_then o (λ p. and_then (object_at kind s p.0) (λ x. Some (Some x.0, x.1, p.1))))
    by_part None = refl
    by_part (Some p) = by_object (object_at kind s p.0) p.1

abbrev lone_given : Reader → List ℕ → Option Given
lone_given s bytes = Some (None, s, bytes)

skipped_more : (t : ℕ) (s : Reader) (bytes more : List ℕ) → t < 240 → sized_at bytes ≡ Whole
    → other_dataset_at t s (bytes ++ more) ≡ wider more (other_dataset_at t s bytes)
unfolding other_dataset_at
skipped_more t s bytes more low h =
    let small : ltb t 240 ≡ true = grind (arith, nat_tests) in
    rw (small, part_more bytes more h) (by_part (part_at bytes))
  where
    by_part : (o : Option (List ℕ × List ℕ))
        → and_then (longer more o) (λ p. lone_given s p.1) ≡ wider more (and_then o (λ p. lone_given s p.1))
    by_part None = refl
    by_part (Some p) = refl

lone_more : (t : ℕ) (s : Reader) (bytes more : List ℕ) → 240 ≤ t
    → other_dataset_at t s (bytes ++ more) ≡ wider more (other_dataset_at t s bytes)
unfolding other_dataset_at
lone_more t s bytes more high =
    let big : ltb t 240 ≡ false = grind (arith, nat_tests) in
    rw big (by_type (ltb t 254) (eqb t 255))
  where
    by_type : (a b : Bool) → cond a (lone_given s (bytes ++ more)) (cond b (lone_given new_reader (bytes ++ more)) None)
        ≡ wider more (cond a (lone_given s bytes) (cond b (lone_given new_reader bytes) None))
    by_type true b = refl
    by_type false true = refl
    by_type false false = refl

pub no_object : (t : ℕ) → 240 ≤ t → kind_of_byte t ≡ None
no_object t high =
    let a : eqb t 16 ≡ false = grind (arith, nat_tests) in
    let b : eqb t 17 ≡ false = grind (arith, nat_tests) in
    let d : eqb t 18 ≡ false = grind (arith, nat_tests) in
    rw (a, b, d) refl

sized_more : (o : Option Kind) (t : ℕ) (s : Reader) (bytes more : List ℕ) → t < 240 → sized_at bytes ≡ Whole
    → dataset_of o t s (bytes ++ more) ≡ wider more (dataset_of o t s bytes)
sized_more None t s bytes more low h = skipped_more t s bytes more low h
sized_more (Some kind) t s bytes more low h = object_more kind s bytes more h

pub dataset_more : (s : Reader) (bytes more : List ℕ) → extent_at bytes ≡ Whole
    → dataset_at s (bytes ++ more) ≡ wider more (dataset_at s bytes)
unfolding dataset_at extent_at
dataset_more s [] more h = absurd cc
dataset_more s (t ∷ bytes) more h = elim (whole_is t bytes h) [
  | inl sized ↦ sized_more (kind_of_byte t) t s bytes more sized.1 sized.0
  | inr lone ↦ rw (no_object t lone.high) (lone_more t s bytes more lone.high)
]

-- no dataset is read where one is cut
cut_dataset : (o : Option Kind) (t : ℕ) (s : Reader) (bytes : List ℕ) → t < 240 → part_at bytes ≡ None → dataset_of o t s bytes ≡ None
unfolding object_dataset_at other_dataset_at
cut_dataset None t s bytes low none = let small : ltb t 240 ≡ true = grind (arith, nat_tests) in rw (small, none) refl
cut_dataset (Some kind) t s bytes low none = rw none refl

pub no_dataset_cut : (s : Reader) (bytes : List ℕ) → extent_at bytes ≡ Cut → dataset_at s bytes ≡ None
unfolding dataset_at extent_at other_dataset_at
no_dataset_cut s [] h = refl
no_dataset_cut s (t ∷ bytes) h = elim (cut_is t bytes h) [
  | inl sized ↦ cut_dataset (kind_of_byte t) t s bytes sized.1 (no_part bytes sized.0)
  | inr end ↦ rw end.0 refl
]

-- ---- what a dataset leaves

-- the bytes end with those
pub record EndsWith (bytes rest : List ℕ) : Type 0 where
  pub prefix : List ℕ
  pub parts : bytes ≡ prefix ++ rest

part_ends : (bytes : List ℕ) (x : List ℕ × List ℕ) → part_at bytes ≡ Some x → EndsWith bytes x.1
part_ends bytes x e = let t = part_takes bytes x e in record { prefix = t.prefix; parts = t.parts }

object_ends : (k : Kind) (s : Reader) (bytes : List ℕ) (x : Given) → object_dataset_at k s bytes ≡ Some x → EndsWith bytes x.2
unfolding object_dataset_at
object_ends k s bytes x e =
    let p = some_then (part_at bytes) (λ p. and_then (object_at k s p.0) (λ o. Some (Some o.0, o.1, p.1))) x e in
    let o = some_then (object_at k s p.0.0) (λ o. Some (Some o.0, o.1, p.0.1)) x p.2 in
    subst (λ (q : Given). EndsWith bytes q.2) (same_Some (Some o.0.0, o.0.1, p.0.1) x o.2) (part_ends bytes p.0 p.1)

other_ends : (t : ℕ) (s : Reader) (bytes : List ℕ) (x : Given) → other_dataset_at t s bytes ≡ Some x → EndsWith bytes x.2
unfolding other_dataset_at
other_ends t s bytes x e =
    chosen (ltb t 240) (and_then (part_at bytes) (λ p. Some (None, s, p.1))) (cond (ltb t 254) (Some (None, s, bytes))
    (cond (eqb t 255) (Some (None, new_reader, bytes)) None)) (Some x) e (EndsWith bytes x.2)
    (λ low is.
    let p = some_then (part_at bytes) (λ p. Some (None, s, p.1)) x is in
    subst (λ (q : Given). EndsWith bytes q.2) (same_Some (None, s, p.0.1) x p.2) (part_ends bytes p.0 p.1))
    (λ high is.
    chosen (ltb t 254) (Some (None, s, bytes)) (cond (eqb t 255) (Some (None, new_reader, bytes)) None) (Some x) is (EndsWith bytes x.2)
    (λ low is. subst (λ (q : Given). EndsWith bytes q.2) (same_Some (None, s, bytes) x is) (record { prefix = []; parts = refl }))
    (λ end is.
    chosen (eqb t 255) (Some (None, new_reader, bytes)) None (Some x) is (EndsWith bytes x.2)
    (λ yes_reset is. subst (λ (q : Given). EndsWith bytes q.2) (same_Some (None, new_reader, bytes) x is) (record { prefix = []; parts = refl }))
    (λ no_reset is. absurd cc)))

of_ends : (o : Option Kind) (t : ℕ) (s : Reader) (bytes : List ℕ) (x : Given) → dataset_of o t s bytes ≡ Some x → EndsWith bytes x.2
of_ends (Some k) t s bytes x e = object_ends k s bytes x e
of_ends None t s bytes x e = other_ends t s bytes x e

-- at least one byte less
pub record Passes (bytes rest : List ℕ) : Type 0 where
  pub ends : EndsWith bytes rest
  pub fewer : length rest < length bytes

dataset_passes : (s : Reader) (bytes : List ℕ) (x : Given) → dataset_at s bytes ≡ Some x → Passes bytes x.2
unfolding dataset_at
dataset_passes s [] x e = absurd cc
dataset_passes s (t ∷ bytes) x e =
    let l : EndsWith bytes x.2 = of_ends (kind_of_byte t) t s bytes x e in
    record {
      ends = record { prefix = t ∷ l.prefix; parts = ap (λ (m : List ℕ). t ∷ m) l.parts };
      fewer = omega (arith, ap length l.parts, length-append l.prefix x.2);
    }

pub step_passes : (p q : Position) → step p ≡ Some q → Passes p.rest q.rest
unfolding step
step_passes p q e =
    let x = some_then (dataset_at p.reader p.rest) (with_found p.changes) q e in
    subst (λ (q : Position). Passes p.rest q.rest) (same_Some (position x.0.1 (changes_with p.changes x.0.0) x.0.2) q x.2)
    (dataset_passes p.reader p.rest x.0 x.1)

-- ---- a step in the middle of a file

-- the same position with changes before it and bytes after it
abbrev pub in_file : List ChangeValue → List ℕ → Position → Position
in_file done more q = position q.reader (done ++ q.changes) (q.rest ++ more)

found_after : (done xs : List ChangeValue) (found : Option ChangeValue) → changes_with (done ++ xs) found ≡ done ++ changes_with xs found
found_after done xs None = refl
found_after done xs (Some c) = append_assoc done xs (c ∷ [])

pub step_more : (r : Reader) (done xs : List ChangeValue) (bytes more : List ℕ) → extent_at bytes ≡ Whole
    → step (position r (done ++ xs) (bytes ++ more)) ≡ and_then (step (position r xs bytes)) (λ q. Some (in_file done more q))
unfolding step
step_more r done xs bytes more h = rw (dataset_more r bytes more h) (by_dataset (dataset_at r bytes))
  where
    by_dataset : (o : Option Given) → and_then (wider more o) (with_found (done ++ xs))
        ≡ and_then (and_then o (with_found xs)) (λ q. Some (in_file done more q))
    by_dataset None = refl
    by_dataset (Some x) = ap (λ (l : List ChangeValue). Some (position x.1 l (x.2 ++ more))) (found_after done xs x.0)

pub step_on : (r : Reader) (done xs : List ChangeValue) (bytes more : List ℕ) (q : Position) → extent_at bytes ≡ Whole
    → step (position r xs bytes) ≡ Some q → step (position r (done ++ xs) (bytes ++ more)) ≡ Some (in_file done more q)
step_on r done xs bytes more q h e = step_more r done xs bytes more h ∙ ap (λ (o : Option Position). and_then o (λ q. Some (in_file done more q))) e

-- the step that one in the file comes from
pub record Comes (r : Reader) (done xs : List ChangeValue) (bytes more : List ℕ) (q : Position) : Type 0 where
  pub here : Position
  pub is : step (position r xs bytes) ≡ Some here
  pub same : in_file done more here ≡ q

pub step_back : (r : Reader) (done xs : List ChangeValue) (bytes more : List ℕ) (q : Position) → extent_at bytes ≡ Whole
    → step (position r (done ++ xs) (bytes ++ more)) ≡ Some q → Comes r done xs bytes more q
step_back r done xs bytes more q h e =
    let both : and_then (step (position r xs bytes)) (λ q. Some (in_file done more q)) ≡ Some q = sym (step_more r done xs bytes more h) ∙ e in
    let x = some_then (step (position r xs bytes)) (λ q. Some (in_file done more q)) q both in
    record { here = x.0; is = x.1; same = same_Some (in_file done more x.0) q x.2 }

-- no step where a dataset is cut
pub step_cut : (r : Reader) (xs : List ChangeValue) (bytes : List ℕ) → extent_at bytes ≡ Cut → step (position r xs bytes) ≡ None
unfolding step
step_cut r xs bytes h = rw (no_dataset_cut r bytes h) refl
