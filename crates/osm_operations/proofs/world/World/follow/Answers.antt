use Rattle.std.proofs.Common.{refl}
use Rattle.osm_store.specs.Stores.{files_of}
use Rattle.osm_operations.proofs.WorldLemmas.{follow_left, follow_to}
use Rattle.osm_operations.proofs.world.World.follow.Goals as goal

pub returns-clause-step : goal.returns-clause-step
returns-clause-step c =
    let s = c.args.setup.now in
    rw c.progress_reply.ensures (follow_to c.args.filter.now s.dir.now s.save.now c.follow-answer.result
    c.args.self.now (record c.args.self.now { store = c.follow-answer.new.store }) c.follow-answer.ensures.step refl refl)

pub returns-clause-left : goal.returns-clause-left
returns-clause-left c =
    let s = c.args.setup.now in
    rw c.progress_reply.ensures (follow_left c.args.filter.now s.dir.now s.save.now c.args.calls c.follow-answer.result
    (files_of c.args.self.now.store) c.follow-answer.ensures.left c.follow-answer.ensures.lacks)
