use Rattle.std.proofs.Common.{◌≡◌, ◌++◌, map, take}
use Rattle.osm_opl.specs.Written.{line_text}
use Rattle.osm_save.specs.Left.{left_in}
use Rattle.osm_save.specs.Lines.{ended}
use Rattle.osm_save.proofs.objects.write_left.Given as goal

abbrev pub invariant-loop-key : goal.invariant-loop-key
invariant-loop-key l = l.out.items ≡ l.initial.out.items ++ ended (map line_text (left_in (take l._key-index l.entries)))
