use Rattle.std.proofs.Common.{length}
use Rattle.osm_judge.proofs.views.+are_changesets_listed.Given as goal

abbrev pub decreases-are_changesets_listed : goal.decreases-are_changesets_listed
decreases-are_changesets_listed l = length l.list.now
