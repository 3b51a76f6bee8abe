use Rattle.std.proofs.Common.{◌≡◌, ◌++◌, take}
use Rattle.std.specs.List.{flat_map}
use Rattle.osm_save.specs.Shown.{object_line}
use Rattle.osm_save.proofs.shown.write_object_lines.Given as goal

abbrev pub invariant-loop-object : goal.invariant-loop-object
invariant-loop-object l = l.text.items ≡ l.initial.text.items ++ flat_map object_line (take l.object-index l.objects)
