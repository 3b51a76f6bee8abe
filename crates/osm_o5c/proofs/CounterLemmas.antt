-- A difference that is read brings its counter to the sum that is spelled, and vice versa.
use Rattle.std.proofs.Common.{◌≡◌, ℕ, ◌<◌, true, List, [], ◌∷◌, ◌++◌, length, Some, refl, sym, ap, subst, ◌∙◌, arith}
use Rattle.std.specs.Prelude.{ℤ, pos, negsuc, ◌+ℤ◌}
use Rattle.std.proofs.lemmas.Int.{ints}
use Rattle.std.proofs.lemmas.Option.{same_Some}
use Rattle.osm_model.specs.Limits.{IsId, IsLongitude, IsLatitude, IsPositive}
use Rattle.osm_o5c.specs.Number.{SpellsSigned}
use Rattle.osm_o5c.specs.Context.{total, SpellsSum, SpellsWrapped}
use Rattle.osm_o5c.specs.NumberReading.{wrapped_of, signed_at, id_at, positive_sum_at, longitude_at, latitude_at}
use Rattle.osm_o5c.specs.NumberReading.{is_id, is_positive, is_longitude, is_latitude, natural}
use Rattle.osm_reading.specs.Answers.{when}
use Rattle.osm_reading.proofs.StepLemmas.{some_then, some_when}
use Rattle.osm_o5c.proofs.TakenLemmas.{TakenTo}
use Rattle.osm_o5c.proofs.NumberLemmas.{signed_takes, signed_again, is_positive_is, is_positive_again, number_some}
use Rattle.osm_o5c.proofs.WrapLemmas.{wrapped_is, wrapped_same, wrapped_more}

pub total-push : (ds : List ℤ) (d : ℤ) → total (ds ++ d ∷ []) ≡ total ds +ℤ d
total-push [] d = omega (arith, ints)
total-push (x ∷ xs) d = let inner : total (xs ++ d ∷ []) ≡ total xs +ℤ d = total-push xs d in omega (arith, ints)

-- ---- tests

pub is_id_is : (z : ℤ) → is_id z ≡ true → IsId z
is_id_is z e = record { low = grind (arith, ints); high = grind (arith, ints) }

pub is_id_again : (z : ℤ) → IsId z → is_id z ≡ true
is_id_again z h = let low = h.low in let high = h.high in grind (arith, ints)

pub is_longitude_is : (z : ℤ) → is_longitude z ≡ true → IsLongitude z
is_longitude_is z e = record { low = grind (arith, ints); high = grind (arith, ints) }

is_longitude_again : (z : ℤ) → IsLongitude z → is_longitude z ≡ true
is_longitude_again z h = let low = h.low in let high = h.high in grind (arith, ints)

pub is_latitude_is : (z : ℤ) → is_latitude z ≡ true → IsLatitude z
is_latitude_is z e = record { low = grind (arith, ints); high = grind (arith, ints) }

is_latitude_again : (z : ℤ) → IsLatitude z → is_latitude z ≡ true
is_latitude_again z h = let low = h.low in let high = h.high in grind (arith, ints)

natural_is : (z : ℤ) → is_positive (natural z) ≡ true → pos (natural z) ≡ z
natural_is (pos n) e = refl
natural_is (negsuc n) e = absurd cc

-- ---- ids and references

-- the prefix spells an id within the limits
pub record IdSpelled (before : List ℤ) (id : ℤ) (prefix : List ℕ) (after : List ℤ) : Type 0 where
  pub spells : SpellsSum before prefix id after
  pub limits : IsId id

pub id_takes : (before : List ℤ) (bytes : List ℕ) (x : ℤ × List ℕ) → id_at (total before) bytes ≡ Some x → TakenTo total (IdSpelled before x.0) bytes x.0 x.1
unfolding id_at
id_takes before bytes x e =
    let d = some_then (signed_at bytes) (λ d. when (is_id (total before +ℤ d.0)) (Some (total before +ℤ d.0, d.1))) x e in
    let g = some_when (is_id (total before +ℤ d.0.0)) (Some (total before +ℤ d.0.0, d.0.1)) x d.2 in
    let t = signed_takes bytes d.0 d.1 in
    subst (λ (p : ℤ × List ℕ). TakenTo total (IdSpelled before p.0) bytes p.0 p.1) (same_Some (total before +ℤ d.0.0, d.0.1) x g.1)
    (record {
      prefix = t.prefix;
      after = before ++ d.0.0 ∷ [];
      parts = t.parts;
      spelled = record {
        spells = record { difference = d.0.0; signed = t.spelled; added = refl; sum_is = sym (total-push before d.0.0) };
        limits = is_id_is (total before +ℤ d.0.0) g.0;
      };
      same = sym (total-push before d.0.0);
    })

-- the sum to which the difference of a spelling leads
pub sum_of : (before : List ℤ) (prefix : List ℕ) (sum : ℤ) (after : List ℤ) (s : SpellsSum before prefix sum after) → total before +ℤ s.difference ≡ sum
sum_of before prefix sum after s = sym (total-push before s.difference) ∙ ap total (sym s.added) ∙ sym s.sum_is

pub id_again : (before : List ℤ) (prefix : List ℕ) (id : ℤ) (after : List ℤ) (rest : List ℕ)
    → SpellsSum before prefix id after → IsId id → id_at (total before) (prefix ++ rest) ≡ Some (id, rest)
unfolding id_at
id_again before prefix id after rest s limits =
    let read : signed_at (prefix ++ rest) ≡ Some (s.difference, rest) = signed_again prefix s.difference rest s.signed in
    rw (read, sum_of before prefix id after s, is_id_again id limits) refl

pub sum_some : (before : List ℤ) (prefix : List ℕ) (sum : ℤ) (after : List ℤ) → SpellsSum before prefix sum after → 0 < length prefix
sum_some before prefix sum after s = number_some prefix _ s.signed.unsigned

-- ---- times and changesets

pub record CountSpelled (before : List ℤ) (n : ℕ) (prefix : List ℕ) (after : List ℤ) : Type 0 where
  pub spells : SpellsSum before prefix (pos n) after
  pub limits : IsPositive n

pub positive_sum_takes : (before : List ℤ) (bytes : List ℕ) (x : ℕ × List ℕ) → positive_sum_at (total before) bytes ≡
    Some x → TakenTo total (CountSpelled before x.0) bytes (pos x.0) x.1
unfolding positive_sum_at
positive_sum_takes before bytes x e =
    let d = some_then (signed_at bytes) (λ d. when (is_positive (natural (total before +ℤ d.0))) (Some (natural (total before +ℤ d.0), d.1))) x e in
    let g = some_when (is_positive (natural (total before +ℤ d.0.0))) (Some (natural (total before +ℤ d.0.0), d.0.1)) x d.2 in
    let t = signed_takes bytes d.0 d.1 in
    let value : pos (natural (total before +ℤ d.0.0)) ≡ total (before ++ d.0.0 ∷ []) = natural_is (total before +ℤ d.0.0) g.0 ∙ sym (total-push before d.0.0) in
    subst (λ (p : ℕ × List ℕ). TakenTo total (CountSpelled before p.0) bytes (pos p.0) p.1) (same_Some (natural (total before +ℤ d.0.0), d.0.1) x g.1)
    (record {
      prefix = t.prefix;
      after = before ++ d.0.0 ∷ [];
      parts = t.parts;
      spelled = record {
        spells = record { difference = d.0.0; signed = t.spelled; added = refl; sum_is = value };
        limits = is_positive_is (natural (total before +ℤ d.0.0)) g.0;
      };
      same = value;
    })

pub positive_sum_again : (before : List ℤ) (prefix : List ℕ) (n : ℕ) (after : List ℤ) (rest : List ℕ)
    → SpellsSum before prefix (pos n) after → IsPositive n → positive_sum_at (total before) (prefix ++ rest) ≡
    Some (n, rest)
unfolding positive_sum_at
positive_sum_again before prefix n after rest s limits =
    let read : signed_at (prefix ++ rest) ≡ Some (s.difference, rest) = signed_again prefix s.difference rest s.signed in
    rw (read, sum_of before prefix (pos n) after s, is_positive_again n limits) refl

-- ---- locations

-- the counter in 32 bits
abbrev pub wrapped_total : List ℤ → ℤ
wrapped_total ds = wrapped_of (total ds)

wrapped-push : (before : List ℤ) (d : ℤ) → wrapped_of (wrapped_total before +ℤ d) ≡ wrapped_total (before ++ d ∷ [])
wrapped-push before d = wrapped_more (total before) d ∙ ap wrapped_of (sym (total-push before d))

-- the number to which the difference of a spelling leads
wrapped_value : (before : List ℤ) (prefix : List ℕ) (v : ℤ) (after : List ℤ) (s : SpellsWrapped before prefix v after)
    → wrapped_of (wrapped_total before +ℤ s.difference) ≡ v
wrapped_value before prefix v after s = wrapped-push before s.difference ∙ ap wrapped_total (sym s.added) ∙ wrapped_same v (total after) s.wrapped

pub wrapped_state : (before : List ℤ) (prefix : List ℕ) (v : ℤ) (after : List ℤ) → SpellsWrapped before prefix v after → wrapped_total after ≡ v
wrapped_state before prefix v after s = wrapped_same v (total after) s.wrapped

spelled_wrapped : (before : List ℤ) (prefix : List ℕ) (d : ℤ) → SpellsSigned prefix d
    → SpellsWrapped before prefix (wrapped_of (wrapped_total before +ℤ d)) (before ++ d ∷ [])
spelled_wrapped before prefix d s = record {
  difference = d;
  signed = s;
  added = refl;
  wrapped = rw (wrapped-push before d) (wrapped_is (total (before ++ d ∷ [])));
}

pub record LongitudeSpelled (before : List ℤ) (lon : ℤ) (prefix : List ℕ) (after : List ℤ) : Type 0 where
  pub spells : SpellsWrapped before prefix lon after
  pub limits : IsLongitude lon

pub longitude_takes : (before : List ℤ) (bytes : List ℕ) (x : ℤ × List ℕ) → longitude_at (wrapped_total before) bytes ≡
    Some x → TakenTo wrapped_total (LongitudeSpelled before x.0) bytes x.0 x.1
unfolding longitude_at
longitude_takes before bytes x e =
    let d = some_then (signed_at bytes) (λ d. when (is_longitude (wrapped_of (wrapped_total before +ℤ d.0)))
    (Some (wrapped_of (wrapped_total before +ℤ d.0), d.1))) x e in
    let g = some_when (is_longitude (wrapped_of (wrapped_total before +ℤ d.0.0))) (Some (wrapped_of (wrapped_total before +ℤ d.0.0), d.0.1)) x d.2 in
    let t = signed_takes bytes d.0 d.1 in
    subst (λ (p : ℤ × List ℕ). TakenTo wrapped_total (LongitudeSpelled before p.0) bytes p.0 p.1)
    (same_Some (wrapped_of (wrapped_total before +ℤ d.0.0), d.0.1) x g.1)
    (record {
      prefix = t.prefix;
      after = before ++ d.0.0 ∷ [];
      parts = t.parts;
      spelled = record { spells = spelled_wrapped before t.prefix d.0.0 t.spelled; limits = is_longitude_is (wrapped_of (wrapped_total before +ℤ d.0.0)) g.0 };
      same = wrapped-push before d.0.0;
    })

pub longitude_again : (before : List ℤ) (prefix : List ℕ) (v : ℤ) (after : List ℤ) (rest : List ℕ)
    → SpellsWrapped before prefix v after → IsLongitude v → longitude_at (wrapped_total before) (prefix ++ rest) ≡
    Some (v, rest)
unfolding longitude_at
longitude_again before prefix v after rest s limits =
    let read : signed_at (prefix ++ rest) ≡ Some (s.difference, rest) = signed_again prefix s.difference rest s.signed in
    rw (read, wrapped_value before prefix v after s, is_longitude_again v limits) refl

pub record LatitudeSpelled (before : List ℤ) (lat : ℤ) (prefix : List ℕ) (after : List ℤ) : Type 0 where
  pub spells : SpellsWrapped before prefix lat after
  pub limits : IsLatitude lat

pub latitude_takes : (before : List ℤ) (bytes : List ℕ) (x : ℤ × List ℕ) → latitude_at (wrapped_total before) bytes ≡
    Some x → TakenTo wrapped_total (LatitudeSpelled before x.0) bytes x.0 x.1
unfolding latitude_at
latitude_takes before bytes x e =
    let d = some_then (signed_at bytes) (λ d. when (is_latitude (wrapped_of (wrapped_total before +ℤ d.0)))
    (Some (wrapped_of (wrapped_total before +ℤ d.0), d.1))) x e in
    let g = some_when (is_latitude (wrapped_of (wrapped_total before +ℤ d.0.0))) (Some (wrapped_of (wrapped_total before +ℤ d.0.0), d.0.1)) x d.2 in
    let t = signed_takes bytes d.0 d.1 in
    subst (λ (p : ℤ × List ℕ). TakenTo wrapped_total (LatitudeSpelled before p.0) bytes p.0 p.1)
    (same_Some (wrapped_of (wrapped_total before +ℤ d.0.0), d.0.1) x g.1)
    (record {
      prefix = t.prefix;
      after = before ++ d.0.0 ∷ [];
      parts = t.parts;
      spelled = record { spells = spelled_wrapped before t.prefix d.0.0 t.spelled; limits = is_latitude_is (wrapped_of (wrapped_total before +ℤ d.0.0)) g.0 };
      same = wrapped-push before d.0.0;
    })

pub latitude_again : (before : List ℤ) (prefix : List ℕ) (v : ℤ) (after : List ℤ) (rest : List ℕ)
    → SpellsWrapped before prefix v after → IsLatitude v → latitude_at (wrapped_total before) (prefix ++ rest) ≡
    Some (v, rest)
unfolding latitude_at
latitude_again before prefix v after rest s limits =
    let read : signed_at (prefix ++ rest) ≡ Some (s.difference, rest) = signed_again prefix s.difference rest s.signed in
    rw (read, wrapped_value before prefix v after s, is_latitude_again v limits) refl
