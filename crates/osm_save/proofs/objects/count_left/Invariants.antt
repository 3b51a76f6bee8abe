use Rattle.std.proofs.Common.{◌≡◌, length, take}
use Rattle.osm_save.specs.Left.{left_in}
use Rattle.osm_save.proofs.objects.count_left.Given as goal

abbrev pub invariant-loop-key : goal.invariant-loop-key
invariant-loop-key l = l.count ≡ length (left_in (take l._key-index l.entries))
