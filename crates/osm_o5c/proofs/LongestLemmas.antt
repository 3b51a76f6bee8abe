-- A valid prefix that no dataset extends is the longest of all; no spelling of a number is a prefix of another.
use Rattle.std.proofs.Common.{◌≡◌, ℕ, zero, suc, ◌+◌, ◌-◌, ◌≤◌, cond, eqb, ltb, List, [], ◌∷◌, ◌++◌, length, Option}
use Rattle.std.proofs.Common.{Some, None, sym, ap, subst, ◌∙◌, append_assoc, arith, inl, inr}
use Rattle.std.proofs.lemmas.Bool.{cases_lt}
use Rattle.std.proofs.lemmas.Option.{same_Some, some_pair_parts}
use Rattle.std.proofs.lemmas.List.{length-append}
use Rattle.osm_model.specs.Change.{ChangeValue}
use Rattle.osm_model.specs.declared.kind.Kind.{Kind}
use Rattle.osm_o5c.specs.Context.{Context}
use Rattle.osm_o5c.specs.File.{changes_with, Front, Longest}
use Rattle.osm_o5c.specs.Datasets.{new_reader, Position, position, step, dataset_at, dataset_of}
use Rattle.osm_o5c.specs.Datasets.{object_dataset_at, other_dataset_at, with_found, kind_of_byte}
use Rattle.osm_o5c.proofs.FieldLemmas.{reader_of}
use Rattle.osm_model.specs.Files.{AreLimits}
use Rattle.osm_o5c.proofs.FrontLemmas.{walk, Ends, front_right, front_walks, longest_ends, not_after, same_behind, same_front}
use Rattle.osm_o5c.proofs.NumberLemmas.{part_takes, unsigned_again}
use Rattle.osm_reading.proofs.StepLemmas.{chosen, some_then}
use Rattle.osm_o5c.specs.Number.{SpellsNumber}
use Rattle.osm_o5c.specs.NumberReading.{part_at, unsigned_at}
use Rattle.osm_o5c.specs.ObjectReading.{object_at}
use Rattle.osm_reading.specs.Answers.{and_then}
use Rattle.osm_o5c.specs.declared.reader.Reader.{Reader}

part_shrinks : (bytes : List ℕ) (x : List ℕ × List ℕ) → part_at bytes ≡ Some x → length x.1 ≤ length bytes
part_shrinks bytes x e = let t = part_takes bytes x e in omega (arith, ap length t.parts, length-append t.prefix x.1)

object_shrinks : (k : Kind) (s : Reader) (bytes : List ℕ) (x : Option ChangeValue × Reader × List ℕ)
    → object_dataset_at k s bytes ≡ Some x → length x.2 ≤ length bytes
unfolding object_dataset_at
object_shrinks k s bytes x e =
    let p = some_then (part_at bytes) (λ p. and_then (object_at k s p.0) (λ o. Some (Some o.0, o.1, p.1))) x e in
    let o = some_then (object_at k s p.0.0) (λ o. Some (Some o.0, o.1, p.0.1)) x p.2 in
    subst (λ (q : Option ChangeValue × Reader × List ℕ). length q.2 ≤ length bytes) (same_Some (Some o.0.0, o.0.1, p.0.1) x o.2) (part_shrinks bytes p.0 p.1)

other_shrinks : (t : ℕ) (s : Reader) (bytes : List ℕ) (x : Option ChangeValue × Reader × List ℕ)
    → other_dataset_at t s bytes ≡ Some x → length x.2 ≤ length bytes
unfolding other_dataset_at
other_shrinks t s bytes x e =
    chosen (ltb t 240) (and_then (part_at bytes) (λ p. Some (None, s, p.1))) (cond (ltb t 254) (Some (None, s, bytes))
    (cond (eqb t 255) (Some (None, new_reader, bytes)) None)) (Some x) e (length x.2 ≤ length bytes)
    (λ low is.
    let p = some_then (part_at bytes) (λ p. Some (None, s, p.1)) x is in
    subst (λ (q : Option ChangeValue × Reader × List ℕ). length q.2 ≤ length bytes) (same_Some (None, s, p.0.1) x p.2) (part_shrinks bytes p.0 p.1))
    (λ high is.
    chosen (ltb t 254) (Some (None, s, bytes)) (cond (eqb t 255) (Some (None, new_reader, bytes)) None) (Some x) is (length x.2 ≤ length bytes)
    (λ low is. subst (λ (q : Option ChangeValue × Reader × List ℕ). length q.2 ≤ length bytes) (same_Some (None, s, bytes) x is) (omega arith))
    (λ end is.
    chosen (eqb t 255) (Some (None, new_reader, bytes)) None (Some x) is (length x.2 ≤ length bytes)
    (λ yes_reset is. subst (λ (q : Option ChangeValue × Reader × List ℕ). length q.2 ≤ length bytes) (same_Some (None, new_reader, bytes) x is) (omega arith))
    (λ no_reset is. absurd cc)))

of_shrinks : (o : Option Kind) (t : ℕ) (s : Reader) (bytes : List ℕ) (x : Option ChangeValue × Reader × List ℕ)
    → dataset_of o t s bytes ≡ Some x → length x.2 ≤ length bytes
of_shrinks (Some k) t s bytes x e = object_shrinks k s bytes x e
of_shrinks None t s bytes x e = other_shrinks t s bytes x e

dataset_shrinks : (s : Reader) (bytes : List ℕ) (x : Option ChangeValue × Reader × List ℕ) → dataset_at s bytes ≡ Some x → length x.2 ≤ length bytes
unfolding dataset_at
dataset_shrinks s [] x e = absurd cc
dataset_shrinks s (t ∷ bytes) x e = omega (arith, of_shrinks (kind_of_byte t) t s bytes x e)

step_shrinks : (p q : Position) → step p ≡ Some q → length q.rest ≤ length p.rest
unfolding step
step_shrinks p q e =
    let x = some_then (dataset_at p.reader p.rest) (with_found p.changes) q e in
    subst (λ (q : Position). length q.rest ≤ length p.rest)
    (same_Some (position x.0.1 (changes_with p.changes x.0.0) x.0.2) q x.2) (dataset_shrinks p.reader p.rest x.0 x.1)

walk_shrinks : (bytes : List ℕ) (k j : ℕ) (p q : Position) → walk k bytes ≡ Some p → walk (k + j) bytes ≡ Some q → length q.rest ≤ length p.rest
walk_shrinks bytes k zero p q a b =
    let same : p ≡ q = same_Some p q (sym a ∙ subst (λ (i : ℕ). walk i bytes ≡ Some q) (let z : k + 0 ≡ k = omega arith in z) b) in
    omega (arith, ap (λ (r : Position). length r.rest) same)
walk_shrinks bytes k (suc j) p q a b =
    let last : walk (suc (k + j)) bytes ≡ Some q = subst (λ (i : ℕ). walk i bytes ≡ Some q) (let z : k + suc j ≡ suc (k + j) = omega arith in z) b in
    let r = some_then (walk (k + j) bytes) step q last in
    omega (arith, walk_shrinks bytes k j p r.0 a r.1, step_shrinks r.0 q r.2)

walked_back : (Limits : List ChangeValue → Type 0) → AreLimits Limits → (bytes : List ℕ) (k : ℕ) (p q : Position)
    → walk k bytes ≡ Some p → Limits p.changes → Ends Limits bytes q → length q.rest ≤ length p.rest
walked_back Limits are bytes k p q here right ends =
    elim (cases_lt ends.count k) [
      | inl less ↦ absurd (not_after Limits are bytes ends.count k q p ends.leads ends.stuck here right less)
      | inr most ↦ walk_shrinks bytes k (ends.count - k) p q here (subst (λ (i : ℕ). walk i bytes ≡ Some q)
          (let z : ends.count ≡ k + (ends.count - k) = omega arith in z) ends.leads)
    ]

-- every valid prefix of the bytes is at most as long
pub longest_of_all : (start : List ℕ) (Limits : List ChangeValue → Type 0) → AreLimits Limits
    → (bytes prefix rest other more : List ℕ) (C : Context) (xs : List ChangeValue)
    → Longest start Limits bytes prefix rest → Front start Limits other C xs → bytes ≡ other ++ more → length other ≤ length prefix
longest_of_all start Limits are bytes prefix rest other more C xs l f whole =
    let w = front_walks start Limits other C xs more f in
    let end = longest_ends start Limits are bytes prefix rest l in
    let begins : bytes ≡ start ++ (w.behind ++ more) =
    whole ∙ ap (λ (b : List ℕ). b ++ more) w.begins ∙ append_assoc start w.behind more in
    let same : end.behind ≡ w.behind ++ more = same_behind start end.behind (w.behind ++ more) (sym end.begins ∙ begins) in
    let back : length rest ≤ length more = walked_back Limits are (w.behind ++ more) w.count (position (reader_of C) xs more)
    (position (reader_of l.context) l.changes rest) w.leads (front_right start Limits are other C xs f)
    (subst (λ (b : List ℕ). Ends Limits b (position (reader_of l.context) l.changes rest)) same end.ends) in
    omega (arith, ap length whole, ap length l.whole, length-append prefix rest, length-append other more)

-- two spellings at the start of the same bytes are the same, of the same number
pub one_number : (prefix rest other more : List ℕ) (n m : ℕ) → SpellsNumber prefix n → SpellsNumber other m
    → prefix ++ rest ≡ other ++ more → (n ≡ m) × (prefix ≡ other)
one_number prefix rest other more n m a b e =
    let first : unsigned_at (prefix ++ rest) ≡ Some (n, rest) = unsigned_again prefix n rest a in
    let second : unsigned_at (prefix ++ rest) ≡ Some (m, more) = rw e (unsigned_again other m more b) in
    let parts = some_pair_parts n m rest more (sym first ∙ second) in
    (parts.0, same_front prefix rest other more parts.1 e)
