use Rattle.std.proofs.Common.{refl}
use Rattle.std.specs.Prelude.{string_bytes}
use Rattle.osm_operations.proofs.RunLemmas.{answer_to}
use Rattle.osm_operations.proofs.world.World.publish_as.Goals as goal

pub returns-clause-step : goal.returns-clause-step
returns-clause-step c =
    let s = c.args.setup.now in
    answer_to c.args.calls s.dir.now s.changes.now c.args.batch.now c.args.time c.args.number c.publish_as-answer.result c.settle.result
    c.args.self.now (record c.args.self.now { store = c.publish_as-answer.new.store }) c.settle.new.self
    (string_bytes c.in-Ok.names.o5c) (string_bytes c.in-Ok.names.opl) c.in-Ok.ensures.o5c c.in-Ok.ensures.opl
    c.publish_as-answer.ensures.step refl refl c.settle.ensures.store c.settle.ensures.step
