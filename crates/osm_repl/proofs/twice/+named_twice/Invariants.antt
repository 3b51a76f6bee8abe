use Rattle.std.proofs.Common.{length}
use Rattle.osm_repl.proofs.twice.+named_twice.Given as goal

abbrev pub decreases-named_twice : goal.decreases-named_twice
decreases-named_twice l = length l.written.now
