-- Why a range of a folder isn't read.
use Rattle.std.proofs.Common.{◌≡◌, ℕ, ◌≤◌, List, subst, arith, inl, inr}
use Rattle.osm_store.specs.Files.{Files}
use Rattle.osm_runs.specs.declared.fault.RunFault.{RunFault}
use Rattle.osm_runs.specs.declared.fault.RunFault.TheVariants as faults
use Rattle.osm_range.specs.Ranges.{RangeStops, StopsInside}
use Rattle.osm_range.specs.declared.range.Range.{Range}

-- a number isn't taken: that is so in a wider range too
pub inside_stops : (known : Type 0) (files : Files) (dir : List ℕ) (range : Range) (from to : ℕ) (fault : RunFault) → from ≡ range.from
    → to ≤ range.to → StopsInside known files dir from to fault → RangeStops known files dir range fault
inside_stops known files dir range from to fault first last s = by_fault fault stops
  where
    stops : StopsInside known files dir range.from range.to fault
    stops = subst (λ (n : ℕ). StopsInside known files dir n range.to fault) first (record {
      number = s.number;
      above = s.above;
      until = (let until = s.until in omega (arith, until, last));
      each = s.each;
      plain = s.plain;
      before = s.before;
      stops = s.stops;
    })

    by_fault : (x : RunFault) → StopsInside known files dir range.from range.to x → RangeStops known files dir range x
    by_fault faults.BadRange t = absurd t.stops
    by_fault x t = inr (inl t)
