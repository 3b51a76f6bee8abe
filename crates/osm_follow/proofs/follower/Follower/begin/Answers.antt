use Rattle.osm_follow.proofs.BeginLemmas.{begins_all}
use Rattle.osm_follow.proofs.follower.Follower.begin.Goals as goal

pub returns-clause-all : goal.returns-clause-all
returns-clause-all c = begins_all c.args.state.now c.args.objects.items c.begin_with.result (rw c.all.ensures at c.begin_with.ensures)
