use Rattle.std.proofs.Common.{drop}
use Rattle.osm_net.specs.Steps.Recent.{Collects, no_edits}
use Rattle.osm_net.proofs.recent.add_entries.Given as goal

abbrev pub invariant-loop-number : goal.invariant-loop-number
invariant-loop-number l = Collects l.initial.counts l.fn.entries l.counts (drop l.number-index l.fn.entries) no_edits 0
