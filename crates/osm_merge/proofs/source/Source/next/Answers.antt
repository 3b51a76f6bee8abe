use Rattle.osm_merge.proofs.CallLemmas.{blames_device}
use Rattle.osm_merge.proofs.source.Source.next.Goals as goal
use Rattle.osm_merge.proofs.source.Source.next.Goals.{in-Ok-Some, in-Ok-None, in-Err}

pub returns-clause-calls : goal.returns-clause-calls
returns-clause-calls g c = λ file has.
    elim c.match-find_line.branch [
      | in-Ok-Some w ↦
          let calls = rw w.in-Ok-Some.field-0-is at ((w.in-Ok-Some.ensures.calls file has).spent) in
          rw (w.result-is, ← c.self.view_is) (record { spent = calls; lacks = tt })
      | in-Ok-None w ↦ rw w.result-is (record { spent = tt; lacks = λ bad. absurd bad })
      | in-Err w ↦
          let calls = (w.in-Err.ensures.calls file has).lacks in
          rw (w.result-is, ← c.self.view_is) (record { spent = tt; lacks = λ blame. calls (blames_device w.in-Err.fault w.from.result w.from.ensures blame) })
    ]
