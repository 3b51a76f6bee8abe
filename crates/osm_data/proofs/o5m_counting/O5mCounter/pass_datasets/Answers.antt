use Rattle.osm_data.specs.declared.o5m_counting.O5mCounter.{O5mCounter}
use Rattle.osm_data.proofs.O5mCountLemmas.{passing_fewer, passing_first, passing_next}
use Rattle.osm_data.proofs.o5m_counting.O5mCounter.pass_datasets.Goals as goal

pub datasets-init : goal.datasets-init
datasets-init c =
    passing_first c.args.filter.now c.args.self.now c.skip_in-rest.new.self c.args.bytes.now c.skip_in-rest.result.now c.skip_in-rest.ensures.rest
    c.skip_in-rest.ensures.skip c.skip_in-rest.ensures.count

pub datasets-smaller : goal.datasets-smaller
datasets-smaller c =
    passing_fewer c.datasets.rest.now c.in-Some.kind c.in-Some.size c.in-Some.size c.in-Some.after.now c.skip_in-rest-in-datasets.result.now c.in-Some.ensures
    c.skip_in-rest-in-datasets.ensures.rest

pub datasets-preserved : goal.datasets-preserved
datasets-preserved c =
    let mid : O5mCounter = record { count = c.count_one-self.result; skip = c.in-Some.size } in
    let h = c.in-Some.ensures in
    passing_next c.args.filter.now c.args.self.now c.datasets.self mid c.skip_in-rest-in-datasets.new.self c.args.bytes.now c.datasets.rest.now
    c.in-Some.kind c.in-Some.size c.in-Some.after.now c.skip_in-rest-in-datasets.result.now c.datasets.invariant h
    c.count_one-self.ensures Rattle.std.proofs.Common.refl c.skip_in-rest-in-datasets.ensures.rest c.skip_in-rest-in-datasets.ensures.skip
    c.skip_in-rest-in-datasets.ensures.count
