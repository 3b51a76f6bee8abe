use Rattle.std.proofs.Common.{refl}
use Rattle.osm_store.specs.Stores.{files_of}
use Rattle.osm_operations.proofs.WorldLemmas.{export_to, exported_left}
use Rattle.osm_operations.proofs.world.World.export.Goals as goal

pub returns-clause-step : goal.returns-clause-step
returns-clause-step c =
    rw c.export_reply.ensures.reply (export_to c.args.save.now c.args.extract.now c.export-answer.result c.in-Ok.number
    (files_of c.kept_number.new.store) (files_of c.export-answer.new.store) c.args.self.now
    (record c.args.self.now { store = c.export-answer.new.store }) c.export_reply.new.self c.export-answer.ensures.step c.in-Ok.ensures.same refl
    refl refl c.export_reply.ensures.others c.export_reply.ensures.number c.in-Ok.ensures.number)

pub returns-clause-left : goal.returns-clause-left
returns-clause-left c =
    rw c.export_reply.ensures.reply (exported_left c.args.save.now (files_of c.args.self.now.store) (files_of c.kept_number.new.store) c.args.calls
    c.export-answer.result c.in-Ok.ensures.same c.export-answer.ensures.left c.export-answer.ensures.lacks)
