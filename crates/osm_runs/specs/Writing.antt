-- A text that isn't written whole to the standard output, and a file that isn't written.
use Rattle.std.specs.Prelude.{◌≡◌, ℕ, List, Option}
use Rattle.osm_reading.specs.Writing.{AppendsPart}
use Rattle.osm_runs.specs.declared.fault.FileName.{FileName}
use Rattle.osm_runs.specs.declared.fault.FileName.TheVariants.{Output}
use Rattle.osm_runs.specs.declared.fault.RunFault.{RunFault}
use Rattle.osm_runs.specs.declared.fault.RunFault.TheVariants.{WantOfMemory, WriteFault}

-- writing failed, and a prefix of the text was written
abbrev pub WritingFault : Option (List ℕ) → Option (List ℕ) → List ℕ → RunFault → Type 0
WritingFault old new text (WriteFault file) = (file ≡ Output) × AppendsPart old new text
WritingFault old new text fault = ⊥

-- why a file isn't written
abbrev pub PutStops : FileName → RunFault → Type 0
PutStops file WantOfMemory = Unit {0}
PutStops file (WriteFault named) = named ≡ file
PutStops file fault = ⊥
