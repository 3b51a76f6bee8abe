-- Bytes go wrong at one place, and only if they spell nothing.
use Rattle.std.proofs.Common.{◌≡◌, ℕ, zero, suc, ◌+◌, ◌-◌, ◌<◌, ◌≤◌, Bool, true, false, cond, eqb, List, [], ◌∷◌}
use Rattle.std.proofs.Common.{◌++◌, length, get_or, take, drop, Option, Some, None, refl, sym, ap, subst, ◌∙◌, arith}
use Rattle.std.proofs.Common.{append_assoc, inl, inr, ◌⊎◌}
use Rattle.std.specs.Prelude.{◌≢◌, IsSome}
use Rattle.std.proofs.lemmas.Bool.{cases_lt, cases_eq}
use Rattle.std.proofs.lemmas.Bool.Decides.{nat_tests}
use Rattle.std.proofs.lemmas.Option.{same_Some}
use Rattle.std.specs.Str.{bytes_eq}
use Rattle.std.proofs.lemmas.Slice.Eq.{bytes_eq-Decides}
use Rattle.std.proofs.lemmas.List.{length-append, length-drop, take-append-drop, take_at}
use Rattle.osm_model.specs.Batch.{IsBatch}
use Rattle.osm_model.specs.Change.{ChangeValue}
use Rattle.osm_model.specs.ChangeForm.{ReadStops, SpellsNothing}
use Rattle.osm_model.specs.Data.{IsData}
use Rattle.osm_model.specs.Limits.{max_file}
use Rattle.osm_model.specs.declared.form.FormError.TheVariants.{WantOfMemory}
use Rattle.osm_model.specs.declared.kind.Kind.{Kind}
use Rattle.osm_o5c.specs.Context.{Context}
use Rattle.osm_o5c.specs.File.{Dataset, object, skipped, lone, reset, changes_with, Front, SpellsFile, Longest}
use Rattle.osm_o5c.specs.File.{FaultIn, no_beginning, after_end, no_dataset, beginning, data_beginning, SpellsO5c, SpellsData}
use Rattle.osm_o5c.specs.Datasets.{new_reader, Position, position, step, dataset_at, object_dataset_at}
use Rattle.osm_o5c.specs.Datasets.{other_dataset_at, dataset_of, with_found, kind_of_byte, BeginsObject, Stops}
use Rattle.osm_model.specs.Files.{AreLimits}
use Rattle.osm_o5c.specs.NumberReading.{part_at}
use Rattle.osm_o5c.specs.ObjectReading.{object_at}
use Rattle.osm_reading.specs.Answers.{and_then}
use Rattle.osm_o5c.specs.declared.reader.Reader.{Reader}
use Rattle.osm_reading.proofs.StepLemmas.{some_then}
use Rattle.osm_o5c.proofs.DatasetLemmas.{TakesStep}
use Rattle.osm_o5c.proofs.FieldLemmas.{reader_of}
use Rattle.osm_model.proofs.FileLimitLemmas.{AreSettled}
use Rattle.osm_o5c.proofs.FrontLemmas.{IsReached, reached_first, reached_more, reached_longest, step_from, step_shorter, walk}
use Rattle.osm_o5c.proofs.FrontLemmas.{Ends, EndsAt, Passed, one_end_at, same_behind, longest_ends, passes, step_of}
use Rattle.osm_o5c.proofs.FrontLemmas.{front_right, spelled_ends, front_walks}

-- how far after the longest valid prefix the place of the fault is, given the bytes after the prefix
abbrev offset : List ℕ → Option ℕ
offset [] = Some 0
offset (b ∷ []) = cond (eqb b 254) None (Some 0)
offset (b ∷ c ∷ r) = cond (eqb b 254) (Some 1) (Some 0)

record FaultParts (start : List ℕ) (Limits : List ChangeValue → Type 0) (bytes : List ℕ) (p : ℕ) : Type 0 where
  at_end : Position
  ends : EndsAt start Limits bytes at_end
  more : ℕ
  behind : offset at_end.rest ≡ Some more
  sum : p + length at_end.rest ≡ length bytes + more

no_offset : (rest : List ℕ) → ((more : List ℕ) → rest ≡ 254 ∷ more → ⊥) → offset rest ≡ Some 0
no_offset [] h = refl
no_offset (b ∷ []) h = let n : eqb b 254 ≡ false = let o : b ≡ 254 → ⊥ = λ z. h [] (ap (λ (i : ℕ). i ∷ []) z) in grind (arith, nat_tests) in rw n refl
no_offset (b ∷ c ∷ r) h = let n : eqb b 254 ≡ false = let o : b ≡ 254 → ⊥ =
    λ z. h (c ∷ r) (ap (λ (i : ℕ). i ∷ c ∷ r) z) in grind (arith, nat_tests) in rw n refl

-- the bytes don't have the beginning
pub record Unbegun (start bytes : List ℕ) : Type 0 where
  pub never : (more : List ℕ) → bytes ≡ start ++ more → ⊥

fault_parts : (start : List ℕ) (Limits : List ChangeValue → Type 0) → AreLimits Limits → (bytes : List ℕ) (p : ℕ)
    → FaultIn start Limits bytes p → (Unbegun start bytes × (p ≡ 0)) ⊎ FaultParts start Limits bytes p
fault_parts start Limits are _ _ (no_beginning bytes h) = inl (record { never = h }, refl)
fault_parts start Limits are _ _ (after_end bytes prefix b more l) = inr (record {
  at_end = position (reader_of l.context) l.changes (254 ∷ b ∷ more);
  ends = longest_ends start Limits are bytes prefix (254 ∷ b ∷ more) l;
  more = 1;
  behind = refl;
  sum = omega (arith, ap length l.whole, length-append prefix (254 ∷ b ∷ more));
})
fault_parts start Limits are _ _ (no_dataset bytes prefix rest l h) = inr (record {
  at_end = position (reader_of l.context) l.changes rest;
  ends = longest_ends start Limits are bytes prefix rest l;
  more = 0;
  behind = no_offset rest h;
  sum = omega (arith, ap length l.whole, length-append prefix rest);
})

-- if the bytes have a valid prefix, they have the beginning
front_begins : (start : List ℕ) (Limits : List ChangeValue → Type 0) (bytes prefix rest : List ℕ) (C : Context)
    (xs : List ChangeValue) → Front start Limits prefix C xs → bytes ≡ prefix ++ rest → Unbegun start bytes → ⊥
front_begins start Limits bytes prefix rest C xs f whole u =
    let w = front_walks start Limits prefix C xs rest f in
    u.never (w.behind ++ rest) (whole ∙ ap (λ (l : List ℕ). l ++ rest) w.begins ∙ append_assoc start w.behind rest)

begun : (start : List ℕ) (Limits : List ChangeValue → Type 0) (bytes : List ℕ) (p : ℕ) → Unbegun start bytes
    → FaultIn start Limits bytes p → p ≡ 0
begun start Limits _ _ u (no_beginning bytes h) = refl
begun start Limits _ _ u (after_end bytes prefix b more l) =
    absurd (front_begins start Limits bytes prefix (254 ∷ b ∷ more) l.context l.changes l.is_front l.whole u)
begun start Limits _ _ u (no_dataset bytes prefix rest l h) =
    absurd (front_begins start Limits bytes prefix rest l.context l.changes l.is_front l.whole u)

same_parts : (start : List ℕ) (Limits : List ChangeValue → Type 0) → AreLimits Limits → (bytes : List ℕ) (p q : ℕ)
    → FaultParts start Limits bytes p → FaultParts start Limits bytes q → p ≡ q
same_parts start Limits are bytes p q a b =
    let same : a.at_end ≡ b.at_end = one_end_at start Limits are bytes a.at_end b.at_end a.ends b.ends in
    let rest : a.at_end.rest ≡ b.at_end.rest = ap (λ (e : Position). e.rest) same in
    let more : a.more ≡ b.more = same_Some a.more b.more (sym a.behind ∙ ap offset rest ∙ b.behind) in
    let s : p + length a.at_end.rest ≡ length bytes + a.more = a.sum in
    let t : q + length b.at_end.rest ≡ length bytes + b.more = b.sum in
    omega (arith, ap length rest)

-- bytes go wrong at one place at most
pub one_place : (start : List ℕ) (Limits : List ChangeValue → Type 0) → AreLimits Limits → (bytes : List ℕ) (p q : ℕ)
    → FaultIn start Limits bytes p → FaultIn start Limits bytes q → p ≡ q
one_place start Limits are bytes p q a b =
    elim (fault_parts start Limits are bytes p a) [
      | inl x ↦ x.1 ∙ sym (begun start Limits bytes q x.0 b)
      | inr x ↦ elim (fault_parts start Limits are bytes q b) [
        | inl y ↦ begun start Limits bytes p y.0 a ∙ sym y.1
        | inr y ↦ same_parts start Limits are bytes p q x y
      ]
    ]

none_some : (o : Option ℕ) (n : ℕ) → o ≡ None → o ≡ Some n → ⊥
none_some o n a b = cc

-- bytes that spell changes go wrong nowhere
pub spelled_or_wrong : (start : List ℕ) (Limits : List ChangeValue → Type 0) → AreLimits Limits → (bytes : List ℕ)
    (changes : List ChangeValue) (p : ℕ) → SpellsFile start Limits bytes changes → FaultIn start Limits bytes p → ⊥
spelled_or_wrong start Limits are bytes changes p s f =
    elim (fault_parts start Limits are bytes p f) [
      | inl x ↦ front_begins start Limits bytes s.prefix (254 ∷ []) s.context changes s.is_front s.whole x.0
      | inr x ↦
          let same : position (reader_of s.context) changes (254 ∷ []) ≡ x.at_end =
          one_end_at start Limits are bytes (position (reader_of s.context) changes (254 ∷ [])) x.at_end
          (spelled_ends start Limits are bytes changes s) x.ends in
          none_some (offset x.at_end.rest) x.more (ap (λ (e : Position). offset e.rest) (sym same)) x.behind
    ]

-- bytes that go wrong are refused there
pub faulty : (start : List ℕ) (Limits : List ChangeValue → Type 0) → AreLimits Limits → (bytes : List ℕ) (place : ℕ)
    → length bytes ≤ max_file → FaultIn start Limits bytes place
    → (length bytes ≤ max_file) × SpellsNothing (SpellsFile start Limits) bytes × FaultIn start Limits bytes place
faulty start Limits are bytes place small f = (small, (λ changes s. spelled_or_wrong start Limits are bytes changes place s f), f)

-- ---- what a reader finds

reached_wrong : (start : List ℕ) (Limits : List ChangeValue → Type 0) (bytes : List ℕ) (p : Position) (n : ℕ)
    → IsReached start Limits bytes p → Stops Limits (step p) → ((more : List ℕ) → p.rest ≡ 254 ∷ more → ⊥)
    → n + length p.rest ≡ length bytes → FaultIn start Limits bytes n
reached_wrong start Limits bytes p n s stuck other at =
    let l : Longest start Limits bytes s.prefix p.rest = reached_longest start Limits bytes p s stuck in
    let w : length s.prefix ≡ n = omega (arith, ap length s.whole, length-append s.prefix p.rest) in
    subst (λ (m : ℕ). FaultIn start Limits bytes m) w (no_dataset bytes s.prefix p.rest l other)

first_is : (rest : List ℕ) (b : ℕ) → 0 < length rest → get_or rest 0 0 ≡ b → rest ≡ b ∷ drop 1 rest
first_is [] b h e = absurd (omega arith)
first_is (c ∷ r) b h e = ap (λ (i : ℕ). i ∷ r) e

nothing_left : (rest : List ℕ) → length rest ≡ 0 → rest ≡ []
nothing_left [] e = refl
nothing_left (b ∷ r) e = absurd (omega arith)

step_end : (p : Position) (more : List ℕ) → p.rest ≡ 254 ∷ more → step p ≡ None
unfolding step dataset_at other_dataset_at
step_end p more e = rw e refl

step_empty : (p : Position) → p.rest ≡ [] → step p ≡ None
unfolding step dataset_at
step_empty p e = rw e refl

some_never : {A : Type 0} (o : Option A) (x : A) → o ≡ None → o ≡ Some x → ⊥
some_never o x a b = cc

none_stops : (Limits : List ChangeValue → Type 0) (next : Option Position) → next ≡ None → Stops Limits next
none_stops Limits next none = λ q e right. some_never next q none e

-- no dataset follows
pub exit_bad : (start : List ℕ) (Limits : List ChangeValue → Type 0) (bytes : List ℕ) (p : Position)
    → IsReached start Limits bytes p → Stops Limits (step p) → get_or p.rest 0 0 ≢ 254
    → FaultIn start Limits bytes (length bytes - length p.rest)
exit_bad start Limits bytes p s stuck other =
    reached_wrong start Limits bytes p (length bytes - length p.rest) s stuck
    (λ more is. other (ap (λ (l : List ℕ). get_or l 0 0) is)) (omega (arith, ap length s.whole, length-append s.prefix p.rest))

-- the bytes end without the end byte
pub exit_empty : (start : List ℕ) (Limits : List ChangeValue → Type 0) (bytes : List ℕ) (p : Position)
    → IsReached start Limits bytes p → length p.rest ≡ 0 → FaultIn start Limits bytes (length bytes)
exit_empty start Limits bytes p s none =
    let is : p.rest ≡ [] = nothing_left p.rest none in
    reached_wrong start Limits bytes p (length bytes) s (none_stops Limits (step p) (step_empty p is))
    (λ more e. omega (arith, ap length e)) (omega arith)

-- bytes follow the end byte
pub exit_more : (start : List ℕ) (Limits : List ChangeValue → Type 0) (bytes : List ℕ) (p : Position)
    → IsReached start Limits bytes p → 1 < length p.rest → get_or p.rest 0 0 ≡ 254
    → FaultIn start Limits bytes (length bytes - length p.rest + 1)
exit_more start Limits bytes p s long e =
    let is : p.rest ≡ 254 ∷ drop 1 p.rest = first_is p.rest 254 (omega arith) e in
    let more : drop 1 p.rest ≡ get_or (drop 1 p.rest) 0 0 ∷ drop 1 (drop 1 p.rest) =
    first_is (drop 1 p.rest) (get_or (drop 1 p.rest) 0 0) (omega (arith, length-drop 1 p.rest)) refl in
    let whole : p.rest ≡ 254 ∷ get_or (drop 1 p.rest) 0 0 ∷ drop 1 (drop 1 p.rest) = is ∙ ap (λ (l : List ℕ). 254 ∷ l) more in
    let l : Longest start Limits bytes s.prefix p.rest = reached_longest start Limits bytes p s
    (none_stops Limits (step p) (step_end p (drop 1 p.rest) is)) in
    let w : length s.prefix + 1 ≡ length bytes - length p.rest + 1 = omega (arith, ap length s.whole, length-append s.prefix p.rest) in
    subst (λ (m : ℕ). FaultIn start Limits bytes m) w (after_end bytes s.prefix (get_or (drop 1 p.rest) 0 0)
    (drop 1 (drop 1 p.rest)) (subst (λ (r : List ℕ). Longest start Limits bytes s.prefix r) whole l))

-- the end byte is the last
pub exit_ok : (start : List ℕ) (Limits : List ChangeValue → Type 0) (bytes : List ℕ) (p : Position)
    → IsReached start Limits bytes p → length p.rest ≡ 1 → get_or p.rest 0 0 ≡ 254 → SpellsFile start Limits bytes p.changes
exit_ok start Limits bytes p s one e =
    let is : p.rest ≡ 254 ∷ drop 1 p.rest = first_is p.rest 254 (omega arith) e in
    let none : drop 1 p.rest ≡ [] = nothing_left (drop 1 p.rest) (omega (arith, length-drop 1 p.rest)) in
    record {
      prefix = s.prefix;
      context = s.context;
      is_front = s.is_front;
      whole =
          s.whole ∙ ap (λ (l : List ℕ). s.prefix ++ l) (is ∙ ap (λ (l : List ℕ). 254 ∷ l) none);
    }

-- ---- one of the two

data Answer (start : List ℕ) (Limits : List ChangeValue → Type 0) (bytes : List ℕ) : Type 0 where
  spelled : (changes : List ChangeValue) → SpellsFile start Limits bytes changes → Answer start Limits bytes
  wrong : (p : ℕ) → FaultIn start Limits bytes p → Answer start Limits bytes

stopped : (start : List ℕ) (Limits : List ChangeValue → Type 0) (bytes : List ℕ) (p : Position)
    → IsReached start Limits bytes p → Stops Limits (step p) → Answer start Limits bytes
stopped start Limits bytes p s stuck =
    elim (cases_eq (get_or p.rest 0 0) 254) [
      | inr other ↦ wrong (length bytes - length p.rest) (exit_bad start Limits bytes p s stuck other)
      | inl end ↦ elim (cases_lt 1 (length p.rest)) [
        | inl more ↦ wrong (length bytes - length p.rest + 1) (exit_more start Limits bytes p s more end)
        | inr few ↦ elim (cases_eq (length p.rest) 0) [
          | inl none ↦ wrong (length bytes) (exit_empty start Limits bytes p s none)
          | inr some ↦ spelled p.changes (exit_ok start Limits bytes p s (omega arith) end)
        ]
      ]
    ]

-- a position that no step follows, or one that a step follows
which : {A : Type 0} (o : Option A) → (o ≡ None) ⊎ ((x : A) × (o ≡ Some x))
which None = inl refl
which (Some x) = inr (x, refl)

-- whether the changes of a dataset are within the limits
found_settled : (Limits : List ChangeValue → Type 0) → AreSettled Limits → (C : Context) (d : List ℕ)
    (found : Option ChangeValue) (after : Context) (xs : List ChangeValue) → Dataset C d found after → Limits xs
    → Limits (changes_with xs found) ⊎ (Limits (changes_with xs found) → ⊥)
found_settled Limits settled _ _ _ _ xs (object C length_bytes content c after n s) right = settled xs c right s.limits
found_settled Limits settled _ _ _ _ xs (skipped C t length_bytes content low other n) right = inl right
found_settled Limits settled _ _ _ _ xs (lone C t big small) right = inl right
found_settled Limits settled _ _ _ _ xs (reset C) right = inl right

-- a step leads on within the limits, or none does
next_settled : (start : List ℕ) (Limits : List ChangeValue → Type 0) → AreLimits Limits → AreSettled Limits
    → (bytes : List ℕ) (p : Position) → IsReached start Limits bytes p
    → ((q : Position) × (step p ≡ Some q) × Limits q.changes) ⊎ Stops Limits (step p)
next_settled start Limits are settled bytes p s =
    elim (which (step p)) [
      | inl none ↦ inr (none_stops Limits (step p) none)
      | inr more ↦
          let t : TakesStep s.context p more.0 = step_from s.context p more.0 s.same more.1 in
          elim (found_settled Limits settled s.context t.prefix t.found t.after p.changes t.spelled
          (front_right start Limits are s.prefix s.context p.changes s.is_front)) [
            | inl right ↦ inl (more.0, more.1, subst (λ xs. Limits xs) (sym t.changes) right)
            | inr other ↦ inr (λ q e right.
                let same : q ≡ more.0 = same_Some q more.0 (sym e ∙ more.1) in
                other (subst (λ xs. Limits xs) (ap (λ (r : Position). r.changes) same ∙ t.changes) right))
          ]
    ]

judged : (start : List ℕ) (Limits : List ChangeValue → Type 0) → AreLimits Limits → AreSettled Limits → (n : ℕ)
    (bytes : List ℕ) (p : Position) → length p.rest ≤ n → IsReached start Limits bytes p → Answer start Limits bytes
judged start Limits are settled zero bytes p fits s = wrong (length bytes) (exit_empty start Limits bytes p s (omega arith))
judged start Limits are settled (suc n) bytes p fits s =
    elim (next_settled start Limits are settled bytes p s) [
      | inr stuck ↦ stopped start Limits bytes p s stuck
      | inl more ↦ judged start Limits are settled n bytes more.0
          (omega (arith, step_shorter start Limits bytes p more.0 s more.1))
          (reached_more start Limits bytes p more.0 s more.1 more.2)
    ]

true_or_false : (b : Bool) → (b ≡ true) ⊎ (b ≡ false)
true_or_false true = inl refl
true_or_false false = inr refl

none_true : (b : Bool) → b ≡ false → b ≡ true → ⊥
none_true b f t = cc

begins_then : (start bytes : List ℕ) → bytes_eq (take (length start) bytes) start ≡ true
    → bytes ≡ start ++ drop (length start) bytes
begins_then start bytes is = sym (take-append-drop (length start) bytes)
    ∙ ap (λ (l : List ℕ). l ++ drop (length start) bytes) ((bytes_eq-Decides (take (length start) bytes) start).0 is)

never_begins : (start bytes more : List ℕ) → bytes_eq (take (length start) bytes) start ≡ false → bytes ≡ start ++ more → ⊥
never_begins start bytes more not_so e = none_true (bytes_eq (take (length start) bytes) start) not_so
    ((bytes_eq-Decides (take (length start) bytes) start).1
    (ap (take (length start)) e ∙ take_at start more (length start) refl))

-- the bytes have the beginning, or they don't
begin_or_not : (start bytes : List ℕ) → (bytes ≡ start ++ drop (length start) bytes) ⊎ Unbegun start bytes
begin_or_not start bytes =
    elim (true_or_false (bytes_eq (take (length start) bytes) start)) [
      | inl is ↦ inl (begins_then start bytes is)
      | inr not_so ↦ inr (record { never = λ more e. never_begins start bytes more not_so e })
    ]

answered : (start : List ℕ) (Limits : List ChangeValue → Type 0) → AreLimits Limits → AreSettled Limits → (bytes : List ℕ)
    → Answer start Limits bytes
answered start Limits are settled bytes =
    elim (begin_or_not start bytes) [
      | inl is ↦ judged start Limits are settled (length (drop (length start) bytes)) bytes
          (position new_reader [] (drop (length start) bytes)) (omega arith)
          (reached_first start Limits bytes (drop (length start) bytes) is)
      | inr u ↦ wrong 0 (no_beginning bytes u.never)
    ]

-- bytes that spell nothing go wrong somewhere
pub fault_of : (start : List ℕ) (Limits : List ChangeValue → Type 0) → AreLimits Limits → AreSettled Limits → (bytes : List ℕ)
    → SpellsNothing (SpellsFile start Limits) bytes → (p : ℕ) × FaultIn start Limits bytes p
fault_of start Limits are settled bytes never = elim (answered start Limits are settled bytes) [
  | spelled changes s ↦ absurd (never changes s)
  | wrong p f ↦ (p, f)
]

-- ---- out of memory

object_found : (k : Kind) (s : Reader) (bytes : List ℕ) (x : Option ChangeValue × Reader × List ℕ)
    → object_dataset_at k s bytes ≡ Some x → (c : ChangeValue) × (x.0 ≡ Some c)
unfolding object_dataset_at
object_found k s bytes x e =
    let p = some_then (part_at bytes) (λ p. and_then (object_at k s p.0) (λ o. Some (Some o.0, o.1, p.1))) x e in
    let o = some_then (object_at k s p.0.0) (λ o. Some (Some o.0, o.1, p.0.1)) x p.2 in
    (o.0.0, ap (λ (q : Option ChangeValue × Reader × List ℕ). q.0) (sym (same_Some (Some o.0.0, o.0.1, p.0.1) x o.2)))

no_some : ◌≡◌ {A = Bool} false true → ⊥
no_some e = cc

of_found : (o : Option Kind) (t : ℕ) (s : Reader) (bytes : List ℕ) (x : Option ChangeValue × Reader × List ℕ) → IsSome o
    → dataset_of o t s bytes ≡ Some x → (c : ChangeValue) × (x.0 ≡ Some c)
of_found (Some k) t s bytes x some e = object_found k s bytes x e
of_found None t s bytes x some e = absurd (no_some some)

begins_found : (s : Reader) (bytes : List ℕ) (x : Option ChangeValue × Reader × List ℕ) → BeginsObject bytes
    → dataset_at s bytes ≡ Some x → (c : ChangeValue) × (x.0 ≡ Some c)
unfolding dataset_at
begins_found s [] x h e = absurd h
begins_found s (t ∷ bytes) x h e = of_found (kind_of_byte t) t s bytes x h e

step_adds : (p q : Position) → BeginsObject p.rest → step p ≡ Some q → 0 < length q.changes
unfolding step
step_adds p q h e =
    let x = some_then (dataset_at p.reader p.rest) (with_found p.changes) q e in
    let c = begins_found p.reader p.rest x.0 h x.1 in
    let is : position x.0.1 (changes_with p.changes x.0.0) x.0.2 ≡ q = same_Some (position x.0.1 (changes_with p.changes x.0.0) x.0.2) q x.2 in
    let changes : changes_with p.changes x.0.0 ≡ q.changes = ap (λ (r : Position). r.changes) is in
    let pushed : p.changes ++ c.0 ∷ [] ≡ q.changes = ap (changes_with p.changes) (sym c.1) ∙ changes in
    omega (arith, ap (λ (l : List ChangeValue). length l) pushed, length-append p.changes (c.0 ∷ []))

-- a number of steps leads to the position of a reader
reached_walked : (start : List ℕ) (Limits : List ChangeValue → Type 0) (bytes : List ℕ) (p : Position)
    → IsReached start Limits bytes p → (behind : List ℕ) × (bytes ≡ start ++ behind) × ((k : ℕ) × (walk k behind ≡ Some p))
reached_walked start Limits bytes p s =
    let w = front_walks start Limits s.prefix s.context p.changes p.rest s.is_front in (
      w.behind ++ p.rest,
      s.whole ∙ ap (λ (l : List ℕ). l ++ p.rest) w.begins ∙ append_assoc start w.behind p.rest,
      (w.count, w.leads ∙ ap (λ (r : Reader). Some (position r p.changes p.rest)) (sym s.same)),
    )

-- steps that end with no changes pass no object
empty_later : (Limits : List ChangeValue → Type 0) (bytes : List ℕ) (k : ℕ) (p q : Position) → walk k bytes ≡ Some p
    → BeginsObject p.rest → q.changes ≡ [] → q.rest ≡ 254 ∷ [] → Ends Limits bytes q → ⊥
empty_later Limits bytes k p q here begins none end ends =
    elim (cases_lt k ends.count) [
      | inl less ↦
          let passed : Passed bytes (suc k) q = passes bytes (suc k) ends.count q (omega arith) ends.leads in
          let adds : 0 < length passed.at.changes = step_adds p passed.at begins (step_of bytes k p passed.at here passed.leads) in
          let whole : [] ≡ passed.at.changes ++ passed.on.more = sym none ∙ passed.on.whole in
          omega (arith, ap (λ (l : List ChangeValue). length l) whole, length-append passed.at.changes passed.on.more)
      | inr most ↦ elim (cases_lt ends.count k) [
        | inl less ↦
            let passed : Passed bytes (suc ends.count) p = passes bytes (suc ends.count) k p (omega arith) here in
            some_never (step q) passed.at (step_end q [] end) (step_of bytes ends.count q passed.at ends.leads passed.leads)
        | inr same ↦
            let equal : q ≡ p = same_Some q p (sym ends.leads ∙ subst (λ (i : ℕ). walk i bytes ≡ Some p) (let e : k ≡ ends.count = omega arith in e) here) in
            no_some (subst (λ (l : List ℕ). BeginsObject l) (ap (λ (r : Position). r.rest) (sym equal) ∙ end) begins)
      ]
    ]

-- if an object begins after what was read, the bytes don't spell the empty list
pub wanted_at_object : (start : List ℕ) (Limits : List ChangeValue → Type 0) → AreLimits Limits → (bytes : List ℕ)
    (p : Position) → length bytes ≤ max_file → IsReached start Limits bytes p → BeginsObject p.rest
    → ReadStops (SpellsFile start Limits) (FaultIn start Limits) bytes WantOfMemory
wanted_at_object start Limits are bytes p small s begins = (
  small,
  λ empty.
      let here = reached_walked start Limits bytes p s in
      let ends : EndsAt start Limits bytes (position (reader_of empty.context) [] (254 ∷ [])) = spelled_ends start Limits are bytes [] empty in
      let same : ends.behind ≡ here.0 = same_behind start ends.behind here.0 (sym ends.begins ∙ here.1) in
      empty_later Limits here.0 here.2.0 p (position (reader_of empty.context) [] (254 ∷ [])) here.2.1 begins refl refl
      (subst (λ (l : List ℕ). Ends Limits l (position (reader_of empty.context) [] (254 ∷ []))) same ends.ends),
)

-- ---- what the code knows of the beginning

pub unbegun_place : (start : List ℕ) (Limits : List ChangeValue → Type 0) (bytes : List ℕ)
    → bytes_eq (take (length start) bytes) start ≡ false → FaultIn start Limits bytes 0
unbegun_place start Limits bytes not_so = no_beginning bytes (λ more e. never_begins start bytes more not_so e)

pub begun_reached : (start : List ℕ) (Limits : List ChangeValue → Type 0) (bytes rest : List ℕ) (r : Reader)
    (xs : List ChangeValue) → bytes_eq (take (length start) bytes) start ≡ true → rest ≡ drop (length start) bytes
    → r ≡ new_reader → xs ≡ [] → IsReached start Limits bytes (position r xs rest)
begun_reached start Limits bytes rest r xs so is same none =
    rw (is, same, none) (reached_first start Limits bytes (drop (length start) bytes) (begins_then start bytes so))

-- ---- change files and data files

get_at_5 : (a b : List ℕ) → beginning ++ a ≡ data_beginning ++ b → ⊥
get_at_5 a b e = let byte : ◌≡◌ {A = ℕ} 0x63 0x6d = ap (λ (l : List ℕ). get_or l 5 0) e in omega arith

-- no bytes are both
pub other_beginnings : (bytes : List ℕ) (batch objects : List ChangeValue) → SpellsO5c bytes batch → SpellsData bytes objects → ⊥
other_beginnings bytes batch objects s t =
    let first = front_walks beginning IsBatch s.prefix s.context batch (254 ∷ []) s.is_front in
    let second = front_walks data_beginning IsData t.prefix t.context objects (254 ∷ []) t.is_front in
    let one : bytes ≡ beginning ++ (first.behind ++ 254 ∷ []) =
    s.whole ∙ ap (λ (l : List ℕ). l ++ 254 ∷ []) first.begins ∙ append_assoc beginning first.behind (254 ∷ []) in
    let other : bytes ≡ data_beginning ++ (second.behind ++ 254 ∷ []) =
    t.whole ∙ ap (λ (l : List ℕ). l ++ 254 ∷ []) second.begins ∙ append_assoc data_beginning second.behind (254 ∷ []) in
    get_at_5 (first.behind ++ 254 ∷ []) (second.behind ++ 254 ∷ []) (sym one ∙ other)
