use Rattle.std.proofs.lemmas.Result.{on_ok_weaker}
use Rattle.osm_script.proofs.ReplayLemmas.{answered_more}
use Rattle.osm_script.proofs.replay.AnsweringEventSink.take.Goals as goal

-- the run is one step longer, and so is its text
pub returns : goal.returns
returns c = record {
  taken = λ events a. on_ok_weaker c.write_reply.result
      (answered_more c.laws_of_runs.ensures.next events c.args.self.now.world c.args.self.now.text.items c.args.event
      c.step-reply.result c.step-reply.new.self c.write_reply.new.text.items a c.step-reply.ensures)
      c.write_reply.ensures;
}
