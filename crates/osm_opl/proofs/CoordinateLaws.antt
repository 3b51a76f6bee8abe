-- A coordinate within its limits, or nothing: what is read is spelled, and what is spelled is read.
use Rattle.std.proofs.Common.{◌≡◌, ℕ, List, [], ◌∷◌, Option, Some, None, refl, subst, arith}
use Rattle.std.specs.Prelude.{ℤ, pos, neg_ℤ, ◌≤ℤ◌}
use Rattle.std.proofs.lemmas.Option.{same_Some}
use Rattle.osm_model.specs.Limits.{IsLongitude, IsLatitude}
use Rattle.osm_opl.specs.Coordinate.{SpellsCoordinate, SpellsUnits}
use Rattle.osm_opl.specs.Line.{MayBeCoordinate, absent, given}
use Rattle.osm_opl.specs.Reading.{coordinate_at, maybe_coordinate_at}
use Rattle.osm_reading.proofs.StepLemmas.{some_then}
use Rattle.osm_reading.specs.Pieces.{Lacks}
use Rattle.osm_opl.proofs.NumberLaws.{TakesSigned, coordinate_takes, coordinate_again, coordinate_lacks}
use Rattle.osm_opl.proofs.ListLaws.{IsBlank}

pub record CoordinateTaken (most : ℕ) (bytes : List ℕ) (units : ℤ) : Type 0 where
  pub spells : SpellsCoordinate bytes units
  pub low : neg_ℤ (pos most) ≤ℤ units
  pub high : units ≤ℤ pos most

abbrev pub IsCoordinateText : ℕ → List ℕ → Option ℤ → Type 0
IsCoordinateText most bytes None = bytes ≡ []
IsCoordinateText most bytes (Some units) = CoordinateTaken most bytes units

pub maybe_coordinate_takes : (most : ℕ) (bytes : List ℕ) (r : Option ℤ) → maybe_coordinate_at most bytes ≡ Some r → IsCoordinateText most bytes r
unfolding maybe_coordinate_at
maybe_coordinate_takes most [] r e = let same : None ≡ r = same_Some None r e in rw (← same) refl
maybe_coordinate_takes most (b ∷ bs) r e =
    let z = some_then (coordinate_at most (b ∷ bs)) (λ (z : ℤ). Some (let o : Option ℤ = Some z in o)) r e in
    let t : TakesSigned SpellsUnits most (b ∷ bs) z.0 = coordinate_takes most (b ∷ bs) z.0 z.1 in
    let made : Option ℤ = Some z.0 in
    let P : Option ℤ → Type 0 = λ o. IsCoordinateText most (b ∷ bs) o in
    subst P (same_Some made r z.2) (record { spells = t.spells; low = t.low; high = t.high })

pub maybe_coordinate_again : (most : ℕ) (bytes : List ℕ) (units : ℤ) → CoordinateTaken most bytes units → maybe_coordinate_at most bytes ≡ Some (Some units)
unfolding maybe_coordinate_at
maybe_coordinate_again most [] units h = let e : coordinate_at most [] ≡ Some units =
    coordinate_again most [] units h.spells h.low h.high in absurd (no_coordinate most units e)
  where
    no_coordinate : (most : ℕ) (units : ℤ) → coordinate_at most [] ≡ Some units → ⊥
    no_coordinate most units e = unfold coordinate_at in cc
maybe_coordinate_again most (b ∷ bs) units h = rw (coordinate_again most (b ∷ bs) units h.spells h.low h.high) refl

pub longitude_text : (bytes : List ℕ) (r : Option ℤ) → IsCoordinateText 1800000000 bytes r → MayBeCoordinate IsLongitude bytes
longitude_text bytes None h = rw h absent
longitude_text bytes (Some z) h = given bytes z h.spells (record { low = h.low; high = h.high })

pub latitude_text : (bytes : List ℕ) (r : Option ℤ) → IsCoordinateText 900000000 bytes r → MayBeCoordinate IsLatitude bytes
latitude_text bytes None h = rw h absent
latitude_text bytes (Some z) h = given bytes z h.spells (record { low = h.low; high = h.high })

pub record CoordinateRead (most : ℕ) (bytes : List ℕ) : Type 0 where
  pub units : Option ℤ
  pub read : maybe_coordinate_at most bytes ≡ Some units
  pub lacks : (s : ℕ) → IsBlank s → Lacks s bytes

nothing_read : (most : ℕ) → maybe_coordinate_at most [] ≡ Some None
unfolding maybe_coordinate_at
nothing_read most = refl

pub maybe_coordinate_lacks : (s : ℕ) (b : IsBlank s) (bytes : List ℕ) (z : ℤ) → SpellsCoordinate bytes z → Lacks s bytes
maybe_coordinate_lacks s b bytes z h = coordinate_lacks s bytes z (omega (arith, b.far)) (λ e. omega (arith, e, b.low)) (λ e. omega (arith, e, b.low)) h

maybe_coordinate_read : (most : ℕ) (Limits : ℤ → Type 0) → ((z : ℤ) → Limits z → neg_ℤ (pos most) ≤ℤ z)
    → ((z : ℤ) → Limits z → z ≤ℤ pos most) → (bytes : List ℕ) → MayBeCoordinate Limits bytes → CoordinateRead most bytes
maybe_coordinate_read most Limits low high _ absent = record { units = None; read = nothing_read most; lacks = λ s b. tt }
maybe_coordinate_read most Limits low high _ (given bytes z h limits) =
    record {
      units = Some z;
      read = maybe_coordinate_again most bytes z (record {
        spells = h;
        low = low z limits;
        high =
            high z limits;
      });
      lacks = λ s b. maybe_coordinate_lacks s b bytes z h;
    }

pub longitude_read : (bytes : List ℕ) → MayBeCoordinate IsLongitude bytes → CoordinateRead 1800000000 bytes
longitude_read bytes h = maybe_coordinate_read 1800000000 IsLongitude (λ z l. l.low) (λ z l. l.high) bytes h

pub latitude_read : (bytes : List ℕ) → MayBeCoordinate IsLatitude bytes → CoordinateRead 900000000 bytes
latitude_read bytes h = maybe_coordinate_read 900000000 IsLatitude (λ z l. l.low) (λ z l. l.high) bytes h
