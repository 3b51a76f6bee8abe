use Rattle.std.proofs.Common.{◌≡◌, map}
use Rattle.osm_mirror.proofs.objects.Objects.to_vec.Given as goal

abbrev pub invariant-loop-change : goal.invariant-loop-change
invariant-loop-change l = l.copies.items ≡ map (λ c. c.now) l.yielded
