use Rattle.std.proofs.Common.{◌≡◌, ◌++◌, map}
use Rattle.osm_save.specs.Lines.{ended}
use Rattle.osm_save.specs.Save.{count_text}
use Rattle.osm_save.proofs.counts.write_counts.Given as goal

abbrev pub invariant-loop-number : goal.invariant-loop-number
invariant-loop-number l = l.out.items ≡ l.initial.out.items ++ ended (map count_text (map (λ e. (e.0.now, e.1.now)) l.yielded))
