use Rattle.std.proofs.Common.{◌≤◌, ◌+◌, length}
use Rattle.osm_o5c.proofs.tags.count_tags.Given as goal

abbrev pub invariant-loop-count : goal.invariant-loop-count
invariant-loop-count l = l.count + length l.rest ≤ length l.bytes
