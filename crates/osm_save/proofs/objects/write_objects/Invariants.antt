use Rattle.std.proofs.Common.{◌≡◌, ◌++◌, map}
use Rattle.osm_opl.specs.Written.{line_text}
use Rattle.osm_save.specs.Lines.{ended}
use Rattle.osm_save.proofs.objects.write_objects.Given as goal

abbrev pub invariant-loop-change : goal.invariant-loop-change
invariant-loop-change l = l.out.items ≡ l.initial.out.items ++ ended (map line_text (map (λ c. c.now) l.yielded))
