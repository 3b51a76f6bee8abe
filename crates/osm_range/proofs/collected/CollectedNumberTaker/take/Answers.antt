use Rattle.osm_range.proofs.LatestLemmas.{holds_more}
use Rattle.osm_range.proofs.collected.CollectedNumberTaker.take.Goals as goal
use Rattle.osm_runs.proofs.ResultLemmas.{on_ok_map}

pub returns-clause-taken : goal.returns-clause-taken
returns-clause-taken c = on_ok_map c.take.result c.take.ensures (λ taken before held.
    holds_more c.args.self.now.filter c.args.self.now.latest c.take.new.self before
    (record { number = c.args._number; changes = c.args.changes.items; time = c.args._time }) taken held)
