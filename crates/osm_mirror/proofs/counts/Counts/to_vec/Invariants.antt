use Rattle.std.proofs.Common.{◌≡◌, map}
use Rattle.osm_mirror.proofs.counts.Counts.to_vec.Given as goal

abbrev pub invariant-loop-number : goal.invariant-loop-number
invariant-loop-number l = l.copies.items ≡ map (λ e. (e.0.now, e.1.now)) l.yielded
