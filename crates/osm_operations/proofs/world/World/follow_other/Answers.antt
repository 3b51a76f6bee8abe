use Rattle.std.proofs.Common.{Some, refl, rules}
use Rattle.osm_store.specs.Stores.{files_of}
use Rattle.osm_operations.proofs.RunLemmas.{whole_lacks}
use Rattle.osm_operations.proofs.WorldLemmas.{other_to}
use Rattle.osm_operations.proofs.world.World.follow_other.Goals as goal

pub returns-clause-step : goal.returns-clause-step
returns-clause-step c =
    let s = c.args.setup.now in
    rw c.progress_reply.ensures (other_to c.args.filter.now c.args.other s.dir.now s.save.now (Some c.follow-answer.result)
    c.args.self.now (record c.args.self.now { store = c.follow-answer.new.store }) (record {
      there = search rules;
      differs = search rules;
      answer = c.follow-answer.ensures.answer;
      device = whole_lacks c.args.other s.dir.now s.save.now (files_of c.args.self.now.store) c.follow-answer.result c.follow-answer.ensures.lacks;
    }) refl refl)
