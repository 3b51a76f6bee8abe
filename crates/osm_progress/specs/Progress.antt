-- How far a run is.
use Rattle.std.specs.Prelude.{◌≡◌, ℕ, ◌-◌, ◌*◌, ◌/◌}
use Rattle.osm_progress.specs.declared.progress.Progress.{Progress}
use Rattle.osm_progress.specs.declared.progress.Unit.{Unit}

-- the milliseconds before which nothing is said of a run
abbrev pub least_time : ℕ
least_time = 500

-- that many of the units were done in that many milliseconds: so many a second, and the seconds
-- that the others take at that rate, both rounded down
pub record IsProgressOf (unit : Unit) (done all millis : ℕ) (p : Progress) : Type 0 where
  pub unit_is : p.unit ≡ unit
  pub done_is : p.done ≡ done
  pub all_are : p.all ≡ all
  pub rate_is : p.rate ≡ done * 1000 / millis
  pub left_is : p.left ≡ (all - done) * millis / (done * 1000)
