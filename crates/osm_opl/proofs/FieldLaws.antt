-- A field is read exactly if it comes first and has its letter; the same holds for the field of the kind
-- and the id.
use Rattle.std.proofs.Common.{◌≡◌, ℕ, true, List, [], ◌∷◌, Some, None, refl, ap, subst, ◌∙◌, arith}
use Rattle.std.specs.Prelude.{◌==◌, ℤ}
use Rattle.std.proofs.lemmas.Bool.Decides.{nat_tests}
use Rattle.std.proofs.lemmas.Option.{same_Some}
use Rattle.osm_model.specs.Limits.{IsId}
use Rattle.osm_model.specs.declared.kind.Key.{Key}
use Rattle.osm_model.specs.declared.kind.Kind.{Kind}
use Rattle.osm_opl.specs.Lists.{letter_of}
use Rattle.osm_opl.specs.Number.{SpellsId}
use Rattle.osm_opl.specs.Reading.{alone, field_at, id_at, key_at, kind_at, last_field_at}
use Rattle.osm_reading.specs.Pieces.{pieces}
use Rattle.osm_reading.specs.Answers.{and_then}
use Rattle.osm_reading.proofs.PieceLemmas.{pieces_some}
use Rattle.osm_reading.proofs.StepLemmas.{some_then, guard_some}
use Rattle.osm_opl.proofs.NumberLaws.{TakesId, id_takes, id_again}
use Rattle.osm_opl.proofs.ListLaws.{kind_taken, kind_again}

-- ---- fields

pub field_takes : (letter : ℕ) (fields : List (List ℕ)) (content : List ℕ) (more : List (List ℕ))
    → field_at letter fields ≡ Some (content, more) → fields ≡ (letter ∷ content) ∷ more
unfolding field_at
field_takes letter [] content more e = absurd cc
field_takes letter ([] ∷ ps) content more e = absurd cc
field_takes letter ((b ∷ bs) ∷ ps) content more e =
    let g = guard_some (b == letter) (Some (bs, ps)) (content, more) e in
    let t : (b == letter) ≡ true = g.0 in
    let same : b ≡ letter = grind (arith, nat_tests) in
    let pair = same_Some (bs, ps) (content, more) g.1 in
    let first : bs ≡ content = ap (λ (p : List ℕ × List (List ℕ)). p.0) pair in
    let second : ps ≡ more = ap (λ (p : List ℕ × List (List ℕ)). p.1) pair in
    rw (same, first, second) refl

pub field_again : (letter : ℕ) (content : List ℕ) (more : List (List ℕ)) → field_at letter ((letter ∷ content) ∷ more) ≡ Some (content, more)
unfolding field_at
field_again letter content more = let t : (letter == letter) ≡ true = grind (arith, nat_tests) in rw t refl

pub last_field_takes : (letter : ℕ) (fields : List (List ℕ)) (content : List ℕ) → last_field_at letter fields ≡ Some content → fields ≡ (letter ∷ content) ∷ []
unfolding last_field_at
last_field_takes letter fields content e =
    let x = some_then (field_at letter fields) alone content e in
    let parts : fields ≡ (letter ∷ x.0.0) ∷ x.0.1 = field_takes letter fields x.0.0 x.0.1 x.1 in
    parts ∙ ap (λ (p : List ℕ × List (List ℕ)). (letter ∷ p.0) ∷ p.1) (by_end x.0.0 x.0.1 content x.2)
  where
    by_end : (a : List ℕ) (ps : List (List ℕ)) (content : List ℕ) → alone (a, ps) ≡ Some content → ◌≡◌ {A = List ℕ × List (List ℕ)} (a, ps) (content, [])
    by_end a [] content e = ap (λ (l : List ℕ). (l, [])) (same_Some a content e)
    by_end a (p ∷ ps) content e = absurd cc

pub last_field_again : (letter : ℕ) (content : List ℕ) → last_field_at letter ((letter ∷ content) ∷ []) ≡ Some content
unfolding last_field_at
last_field_again letter content = rw (field_again letter content []) refl

-- so a field that is followed by another isn't the last
pub not_alone : (s : ℕ) (content rest : List ℕ) → alone (content, pieces s rest) ≡ None
not_alone s content rest = let r = pieces_some s rest in rw r.2 refl

-- ---- the kind and the id

pub record TakesKey (fields : List (List ℕ)) (key : Key) (more : List (List ℕ)) : Type 0 where
  pub text : List ℕ
  pub parts : fields ≡ (letter_of key.kind ∷ text) ∷ more
  pub spells : SpellsId text key.id
  pub limits : IsId key.id

pub key_takes : (fields : List (List ℕ)) (k : Key × List (List ℕ)) → key_at fields ≡ Some k → TakesKey fields k.0 k.1
unfolding key_at
key_takes [] k e = absurd cc
key_takes ([] ∷ more) k e = absurd cc
key_takes ((b ∷ bs) ∷ more) k e =
    let a = some_then (kind_at b) (λ (kind : Kind). and_then {A = ℤ} {B = Key × List (List ℕ)} (id_at bs)
    (λ id. Some (record { kind = kind; id = id }, more))) k e in
    let i = some_then (id_at bs) (λ (id : ℤ). Some (let x : Key × List (List ℕ) = (record { kind = a.0; id = id }, more) in x)) k a.2 in
    let made : Key × List (List ℕ) = (record { kind = a.0; id = i.0 }, more) in
    let t : TakesId bs i.0 = id_takes bs i.0 i.1 in
    let letter : b ≡ letter_of a.0 = kind_taken b a.0 a.1 in
    let P : Key × List (List ℕ) → Type 0 = λ x. TakesKey ((b ∷ bs) ∷ more) x.0 x.1 in
    subst P (same_Some made k i.2) (record { text = bs; parts = ap (λ (x : ℕ). (x ∷ bs) ∷ more) letter; spells = t.spells; limits = t.limits })

pub key_again : (kind : Kind) (id : ℤ) (text : List ℕ) (more : List (List ℕ)) → SpellsId text id → IsId id
    → key_at ((letter_of kind ∷ text) ∷ more) ≡ Some (record { kind = kind; id = id }, more)
unfolding key_at
key_again kind id text more h limits = rw (kind_again kind, id_again text id h limits) refl
