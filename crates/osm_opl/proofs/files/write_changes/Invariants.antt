use Rattle.osm_opl.proofs.WrittenLemmas.{FileWritten}
use Rattle.osm_opl.proofs.files.write_changes.Given as goal

abbrev pub invariant-loop-change : goal.invariant-loop-change
invariant-loop-change l = FileWritten l.text.items l.changes l.change-index
