use Rattle.std.proofs.Common.{◌≤◌, vec_capacity}
use Rattle.osm_opl.proofs.WrittenLemmas.{HexWritten}
use Rattle.osm_opl.proofs.escapes.write_hex.Given as goal

abbrev pub invariant-loop-left : goal.invariant-loop-left
invariant-loop-left l = (HexWritten l.initial.out.items l.out.items l.code l.count l.left) × (vec_capacity l.initial.out ≤ vec_capacity l.out)

abbrev pub decreases-loop-left : goal.decreases-loop-left
decreases-loop-left l = l.left
