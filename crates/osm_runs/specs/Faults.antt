-- The exit status of a fault.
use Rattle.std.specs.Prelude.{ℕ}
use Rattle.osm_runs.specs.declared.fault.RunFault.{RunFault}
use Rattle.osm_runs.specs.declared.fault.RunFault.TheVariants.{UnknownForm, BadNow}
use Rattle.osm_runs.specs.declared.fault.RunFault.TheVariants.{BadSequence, BadFilter, BadLimit}
use Rattle.osm_runs.specs.declared.fault.RunFault.TheVariants.{BadColumns, BadId, BadObject}
use Rattle.osm_runs.specs.declared.fault.RunFault.TheVariants.{BadRange}

-- 2 if a word of the command line is wrong, 3 for any other fault
abbrev pub status_of : RunFault → ℕ
status_of UnknownForm = 2
status_of BadNow = 2
status_of BadSequence = 2
status_of BadFilter = 2
status_of BadLimit = 2
status_of BadRange = 2
status_of BadObject = 2
status_of BadColumns = 2
status_of BadId = 2
status_of fault = 3
