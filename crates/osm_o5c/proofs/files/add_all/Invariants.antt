use Rattle.std.proofs.Common.{length}
use Rattle.osm_o5c.specs.Datasets.{position}
use Rattle.osm_o5c.proofs.FrontLemmas.{IsReached}
use Rattle.osm_o5c.proofs.files.add_all.Given as goal

abbrev pub invariant-datasets : goal.invariant-datasets
invariant-datasets g l = record {
  reached : IsReached l.start g.F.FileLimits.limits l.bytes (position l.reader l.changes.items l.rest);
  right : g.F.FileLimits.limits l.changes.items;
}

abbrev pub decreases-datasets : goal.decreases-datasets
decreases-datasets g l = length l.rest
