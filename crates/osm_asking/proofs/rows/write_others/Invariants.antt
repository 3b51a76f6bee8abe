use Rattle.std.proofs.Common.{◌≡◌, ◌++◌, take}
use Rattle.osm_asking.specs.Counts.{more_objects}
use Rattle.osm_asking.proofs.rows.write_others.Given as goal

abbrev pub invariant-loop-id : goal.invariant-loop-id
invariant-loop-id l = l.text.items ≡ l.initial.text.items ++ more_objects (take l.id-index l.counts)
