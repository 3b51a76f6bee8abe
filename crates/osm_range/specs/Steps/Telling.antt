-- What is said of changes before they are written.
use Rattle.std.specs.Prelude.{◌≡◌, ℕ, ◌⊎◌, nat_lt, List, Option, Some, None, if◌then◌else◌}
use Rattle.osm_model.specs.Change.{ChangeValue}
use Rattle.osm_runs.specs.declared.fault.RunFault.{RunFault}
use Rattle.osm_runs.specs.declared.fault.RunFault.TheVariants.{WantOfMemory}
use Rattle.osm_range.specs.declared.range.Ending.{Ending}
use Rattle.osm_range.specs.declared.range.Ending.TheVariants.{Faulty}
use Rattle.osm_range.specs.declared.range.Range.{Range}
use Rattle.osm_range.specs.Handing.{changed_of}
use Rattle.osm_range.specs.declared.report.Changed.{Changed}

-- what is said of the changes up to that number; none if it comes before the range
abbrev pub changed_at : Range → ℕ → List ChangeValue → Option Changed
changed_at range number latest =
    if nat_lt number range.from then None else Some (changed_of range number latest)

-- why nothing is told: for want of memory, or at once for the fault of a number if none was read
abbrev pub TellingStops : Option Changed → Ending → RunFault → Type 0
TellingStops changed ending fault =
    (fault ≡ WantOfMemory) ⊎ ((changed ≡ None) × (ending ≡ Faulty fault))
