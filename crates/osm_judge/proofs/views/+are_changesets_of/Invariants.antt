use Rattle.std.proofs.Common.{length}
use Rattle.osm_judge.proofs.views.+are_changesets_of.Given as goal

abbrev pub decreases-are_changesets_of : goal.decreases-are_changesets_of
decreases-are_changesets_of l = length l.list.now
