-- The loops over tags, references and members end: each part that is read leaves fewer bytes.
use Rattle.std.proofs.Common.{◌≡◌, ℕ, ◌<◌, eqb, List, [], ◌∷◌, length, Some, ap, subst, arith}
use Rattle.std.specs.Prelude.{ℤ, ◌+ℤ◌}
use Rattle.std.proofs.lemmas.Option.{same_Some}
use Rattle.std.proofs.lemmas.List.{length-append}
use Rattle.osm_model.specs.declared.lists.Member.{Member}
use Rattle.osm_model.specs.declared.lists.Tag.{Tag}
use Rattle.osm_o5c.specs.Written.{member_counter}
use Rattle.osm_o5c.specs.NumberReading.{unsigned_at, signed_at, id_at, is_id}
use Rattle.osm_o5c.specs.StringReading.{until_nul_at, latest, entered, pair_of, single_of, pair_at, single_at, text_of, tag_at}
use Rattle.osm_o5c.specs.ObjectReading.{ref_at, role_of, member_at}
use Rattle.osm_reading.specs.Answers.{and_then, when}
use Rattle.osm_o5c.specs.declared.reader.Reader.{Reader}
use Rattle.osm_o5c.specs.declared.strings.Entry.{Entry}
use Rattle.osm_o5c.specs.declared.strings.Entry.TheVariants.{Pair, Single}
use Rattle.osm_reading.proofs.StepLemmas.{some_then, some_when, chosen}
use Rattle.osm_o5c.proofs.NumberLemmas.{unsigned_takes, signed_takes, number_some}
use Rattle.osm_o5c.proofs.StringLemmas.{Before, until_takes}
use Rattle.osm_o5c.proofs.FieldLemmas.{made_member}

unsigned_shorter : (bytes : List ℕ) (x : ℕ × List ℕ) → unsigned_at bytes ≡ Some x → length x.1 < length bytes
unsigned_shorter bytes x e =
    let t = unsigned_takes bytes x e in
    omega (arith, number_some t.prefix x.0 t.spelled, ap length t.parts, length-append t.prefix x.1)

signed_shorter : (bytes : List ℕ) (x : ℤ × List ℕ) → signed_at bytes ≡ Some x → length x.1 < length bytes
signed_shorter bytes x e =
    let t = signed_takes bytes x e in
    omega (arith, number_some t.prefix _ t.spelled.unsigned, ap length t.parts, length-append t.prefix x.1)

until_shorter : (bytes : List ℕ) (x : List ℕ × List ℕ) → until_nul_at bytes ≡ Some x → length x.1 < length bytes
until_shorter bytes x e =
    let t : Before x.0 bytes x.1 = until_takes bytes x e in
    omega (arith, ap length t.parts, length-append x.0 (0 ∷ x.1))

pair_shorter : (table : List Entry) (bytes : List ℕ) (x : (List ℕ × List ℕ) × List Entry × List ℕ) → pair_at table bytes ≡ Some x → length x.2 < length bytes
unfolding pair_at
pair_shorter table [] x e = absurd cc
pair_shorter table (b ∷ bs) x e =
    chosen (eqb b 0)
    (and_then (until_nul_at bs)
    (λ f. and_then (until_nul_at f.1) (λ s. Some ((f.0, s.0), entered table (Pair f.0 s.0), s.1))))
    (and_then (unsigned_at (b ∷ bs)) (λ k. and_then (pair_of (latest table k.0)) (λ p. Some (p, table, k.1))))
    (Some x) e
    (length x.2 < length (b ∷ bs))
    (λ nul is.
    let f = some_then (until_nul_at bs) (λ f. and_then (until_nul_at f.1) (λ s. Some ((f.0, s.0), entered table (Pair f.0 s.0), s.1))) x is in
    let s = some_then (until_nul_at f.0.1) (λ s. Some ((f.0.0, s.0), entered table (Pair f.0.0 s.0), s.1)) x f.2 in
    subst (λ (q : (List ℕ × List ℕ) × List Entry × List ℕ). length q.2 < length (b ∷ bs))
    (same_Some ((f.0.0, s.0.0), entered table (Pair f.0.0 s.0.0), s.0.1) x s.2)
    (omega (arith, until_shorter bs f.0 f.1, until_shorter f.0.1 s.0 s.1)))
    (λ other is.
    let k = some_then (unsigned_at (b ∷ bs)) (λ k. and_then (pair_of (latest table k.0)) (λ p. Some (p, table, k.1))) x is in
    let p = some_then (pair_of (latest table k.0.0)) (λ p. Some (p, table, k.0.1)) x k.2 in
    subst (λ (q : (List ℕ × List ℕ) × List Entry × List ℕ). length q.2 < length (b ∷ bs)) (same_Some (p.0, table, k.0.1) x p.2)
    (unsigned_shorter (b ∷ bs) k.0 k.1))

single_shorter : (table : List Entry) (bytes : List ℕ) (x : List ℕ × List Entry × List ℕ) → single_at table bytes ≡ Some x → length x.2 < length bytes
unfolding single_at
single_shorter table [] x e = absurd cc
single_shorter table (b ∷ bs) x e =
    chosen (eqb b 0) (and_then (until_nul_at bs) (λ t. Some (t.0, entered table (Single t.0), t.1)))
    (and_then (unsigned_at (b ∷ bs)) (λ k. and_then (single_of (latest table k.0)) (λ t. Some (t, table, k.1))))
    (Some x) e
    (length x.2 < length (b ∷ bs))
    (λ nul is.
    let f = some_then (until_nul_at bs) (λ t. Some (t.0, entered table (Single t.0), t.1)) x is in
    subst (λ (q : List ℕ × List Entry × List ℕ). length q.2 < length (b ∷ bs)) (same_Some (f.0.0, entered table (Single f.0.0), f.0.1) x f.2)
    (omega (arith, until_shorter bs f.0 f.1)))
    (λ other is.
    let k = some_then (unsigned_at (b ∷ bs)) (λ k. and_then (single_of (latest table k.0)) (λ t. Some (t, table, k.1))) x is in
    let p = some_then (single_of (latest table k.0.0)) (λ t. Some (t, table, k.0.1)) x k.2 in
    subst (λ (q : List ℕ × List Entry × List ℕ). length q.2 < length (b ∷ bs)) (same_Some (p.0, table, k.0.1) x p.2)
    (unsigned_shorter (b ∷ bs) k.0 k.1))

pub tag_shorter : (table : List Entry) (bytes : List ℕ) (t : Tag) (after : List Entry) (rest : List ℕ)
    → tag_at table bytes ≡ Some (t, after, rest) → length rest < length bytes
unfolding tag_at
tag_shorter table bytes t after rest e =
    let p = some_then (pair_at table bytes)
    (λ p. and_then (text_of p.0.0)
    (λ key. and_then (text_of p.0.1) (λ value. Some (record { key = key; value = value }, p.1, p.2))))
    (t, after, rest) e in
    let k = some_then (text_of p.0.0.0)
    (λ key. and_then (text_of p.0.0.1) (λ value. Some (record { key = key; value = value }, p.0.1, p.0.2)))
    (t, after, rest) p.2 in
    let v = some_then (text_of p.0.0.1) (λ value. Some (record { key = k.0; value = value }, p.0.1, p.0.2)) (t, after, rest) k.2 in
    subst (λ (q : Tag × List Entry × List ℕ). length q.2 < length bytes) (same_Some (record { key = k.0; value = v.0 }, p.0.1, p.0.2) (t, after, rest) v.2)
    (pair_shorter table bytes p.0 p.1)

pub ref_shorter : (before : ℤ) (bytes : List ℕ) (id after : ℤ) (rest : List ℕ) → ref_at before bytes ≡ Some (id, after, rest) → length rest < length bytes
unfolding ref_at id_at
ref_shorter before bytes id after rest e =
    let r = some_then (id_at before bytes) (λ r. Some (r.0, r.0, r.1)) (id, after, rest) e in
    let d = some_then (signed_at bytes) (λ d. when (is_id (before +ℤ d.0)) (Some (before +ℤ d.0, d.1))) r.0 r.1 in
    let g = some_when (is_id (before +ℤ d.0.0)) (Some (before +ℤ d.0.0, d.0.1)) r.0 d.2 in
    let inner : length r.0.1 < length bytes = subst (λ (q : ℤ × List ℕ). length q.1 < length bytes)
    (same_Some (before +ℤ d.0.0, d.0.1) r.0 g.1) (signed_shorter bytes d.0 d.1) in
    subst (λ (q : ℤ × ℤ × List ℕ). length q.2 < length bytes) (same_Some (r.0.0, r.0.0, r.0.1) (id, after, rest) r.2) inner

pub member_shorter : (s : Reader) (bytes : List ℕ) (m : Member) (after : Reader) (rest : List ℕ)
    → member_at s bytes ≡ Some (m, after, rest) → length rest < length bytes
unfolding member_at
member_shorter s bytes m after rest e =
    let d = some_then (signed_at bytes) (λ d. and_then (single_at s.strings d.1)
    (λ t. and_then (role_of t.0) (λ r. when (is_id (member_counter r.0 s.counters +ℤ d.0))
    (Some (made_member s d.0 t r))))) (m, after, rest) e in
    let t = some_then (single_at s.strings d.0.1)
    (λ t. and_then (role_of t.0) (λ r. when (is_id (member_counter r.0 s.counters +ℤ d.0.0))
    (Some (made_member s d.0.0 t r)))) (m, after, rest) d.2 in
    let r = some_then (role_of t.0.0) (λ r. when (is_id (member_counter r.0 s.counters +ℤ d.0.0)) (Some (made_member s d.0.0 t.0 r))) (m, after, rest) t.2 in
    let g = some_when (is_id (member_counter r.0.0 s.counters +ℤ d.0.0)) (Some (made_member s d.0.0 t.0 r.0)) (m, after, rest) r.2 in
    subst (λ (q : Member × Reader × List ℕ). length q.2 < length bytes) (same_Some (made_member s d.0.0 t.0 r.0) (m, after, rest) g.1)
    (omega (arith, signed_shorter bytes d.0 d.1, single_shorter s.strings d.0.1 t.0 t.1))
