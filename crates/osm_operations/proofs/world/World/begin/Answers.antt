use Rattle.std.proofs.Common.{refl}
use Rattle.osm_store.specs.Stores.{files_of}
use Rattle.osm_operations.proofs.WorldLemmas.{begin_left, begin_to}
use Rattle.osm_operations.proofs.world.World.begin.Goals as goal

pub returns-clause-step : goal.returns-clause-step
returns-clause-step c =
    let s = c.args.setup.now in
    rw c.begun_reply.ensures (begin_to c.args.filter.now s.dir.now s.save.now s.extract.now c.begin-answer.result
    c.args.self.now (record c.args.self.now { store = c.begin-answer.new.store }) c.begin-answer.ensures.step refl refl)

pub returns-clause-left : goal.returns-clause-left
returns-clause-left c =
    rw c.begun_reply.ensures (begin_left c.args.setup.now.extract.now c.args.calls c.begin-answer.result (files_of c.args.self.now.store)
    c.begin-answer.ensures.left c.begin-answer.ensures.lacks)
