use Rattle.std.specs.Vec.Iter.{into_iter_items}
use Rattle.std.specs.Vec.{vec_capacity}
use Rattle.std.proofs.Common.{◌≤◌, ◌++◌, ◌≡◌, length}
use Rattle.osm_store.specs.Stores.{files_of}
use Rattle.osm_operations.specs.Correct.{AreApart, IsNew, IsRun}
use Rattle.osm_operations.specs.History.{history_of}
use Rattle.osm_operations.specs.Stepping.{Leads, LeadsFrom}
use Rattle.osm_operations.proofs.StepLemmas.{Holds}
use Rattle.osm_operations.proofs.world.run_with.Given as goal

abbrev pub invariant-loop-operation : goal.invariant-loop-operation
invariant-loop-operation l = record {
  room : length l.fn.operations.items ≤ vec_capacity l.replies;
  rest : l.yielded ++ into_iter_items l.operation-iterator ≡ l.fn.operations.items;
  many : length l.replies.items ≡ length l.yielded;
  leads : LeadsFrom l.fn.filter l.yielded l.replies.items l.fn.setup.dir.now l.fn.setup.save.now l.fn.setup.changes.now l.fn.setup.extract.now
      (files_of l.fn.store) l.world;
  steps : Leads l.fn.filter l.yielded l.replies.items l.fn.setup.dir.now l.fn.setup.save.now l.fn.setup.changes.now l.fn.setup.extract.now
      (files_of l.fn.store) (files_of l.world.store);
  holds : AreApart l.fn.setup.dir.now l.fn.setup.save.now l.fn.setup.changes.now l.fn.setup.extract.now
      → IsNew l.fn.setup.dir.now l.fn.setup.save.now (files_of l.fn.store)
      → Holds (history_of l.yielded l.replies.items) l.fn.filter l.fn.setup.dir.now l.fn.setup.save.now l.fn.setup.changes.now l.fn.setup.extract.now
      (files_of l.fn.store) l.world;
  run : AreApart l.fn.setup.dir.now l.fn.setup.save.now l.fn.setup.changes.now l.fn.setup.extract.now
      → IsNew l.fn.setup.dir.now l.fn.setup.save.now (files_of l.fn.store)
      → IsRun l.fn.filter l.yielded l.replies.items l.fn.setup.dir.now l.fn.setup.save.now l.fn.setup.changes.now l.fn.setup.extract.now
      (files_of l.fn.store) (files_of l.world.store);
}
