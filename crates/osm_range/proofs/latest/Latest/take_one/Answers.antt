use Rattle.std.specs.Map.{values_of}
use Rattle.osm_range.proofs.LatestLemmas.{takes_one}
use Rattle.osm_range.proofs.latest.Latest.take_one.Goals as goal
use Rattle.osm_runs.proofs.ResultLemmas.{on_ok_map}

pub returns : goal.returns
returns c =
    rw (← c.self.view_is) (on_ok_map c.enter.result c.enter.ensures.entered (λ put.
    takes_one c.args.filter.now (values_of c.self.inside.changes.entries) (values_of c.enter.new.changes.entries) c.args.change
    c.in_ok-change.change c.in_ok-change.ensures put))
