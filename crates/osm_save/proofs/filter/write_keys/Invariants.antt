use Rattle.std.proofs.Common.{◌≡◌, ◌++◌, map, take}
use Rattle.osm_opl.specs.Written.{escaped_text}
use Rattle.osm_save.specs.Lines.{ended}
use Rattle.osm_save.proofs.filter.write_keys.Given as goal

abbrev pub invariant-loop-key : goal.invariant-loop-key
invariant-loop-key l = l.out.items ≡ l.initial.out.items ++ ended (map escaped_text (take l.key-index l.keys))
