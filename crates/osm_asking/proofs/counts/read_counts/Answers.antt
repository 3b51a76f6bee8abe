use Rattle.osm_merge.proofs.FrameLemmas.{has_still}
use Rattle.std.specs.Prelude.{Ok}
use Rattle.osm_merge.specs.Faults.{IsDeviceFault}
use Rattle.osm_store.proofs.FrameLemmas.{at_most_done}
use Rattle.osm_asking.specs.Steps.Counting.{most_at_end}
use Rattle.osm_asking.proofs.PlainLemmas.{calls_off, unfound_at_end}
use Rattle.osm_asking.proofs.counts.read_counts.Goals as goal

pub returns-in-Ok-counts_in_all-clause-counted : goal.returns-in-Ok-counts_in_all-clause-counted
returns-in-Ok-counts_in_all-clause-counted g c = λ known file saved there spells.
    let a = g.S.Store.state c.args.store.now in
    let b = g.S.Store.state c.counts_at_end.new.store in
    let has_b = has_still a b c.in-Ok.found c.args.save.now file c.in-Ok.ensures.frame (record { known = known; there = there }) in
    c.in-Ok-counts_in_all.ensures.counted has_b.known file saved has_b.there spells

pub returns-in-Err-clause-calls : goal.returns-in-Err-clause-calls
returns-in-Err-clause-calls g c = λ file v plain.
    calls_off (most_at_end v) (g.S.Store.state c.args.store.now) (g.S.Store.state c.counts_at_end.new.store) c.in-Err.fault
    (c.in-Err.ensures.calls file v plain)

pub returns-in-Some-clause-calls : goal.returns-in-Some-clause-calls
returns-in-Some-clause-calls g c = λ file v plain.
    at_most_done IsDeviceFault (most_at_end v) (g.S.Store.state c.args.store.now) (g.S.Store.state c.counts_at_end.new.store) c.in-Ok.found
    (Ok c.in-Some.counts) tt (c.in-Ok.ensures.calls file v plain)

-- the counts of a plain save are found at its end
pub returns-in-Ok-counts_in_all-clause-calls : goal.returns-in-Ok-counts_in_all-clause-calls
returns-in-Ok-counts_in_all-clause-calls g c = λ file v plain.
    absurd (unfound_at_end c.in-Ok.found c.in-None.is (c.in-Ok.ensures.there file v plain))

pub returns-in-Err-counts_in_all-clause-calls : goal.returns-in-Err-counts_in_all-clause-calls
returns-in-Err-counts_in_all-clause-calls g c = λ file v plain.
    absurd (unfound_at_end c.in-Ok.found c.in-None.is (c.in-Ok.ensures.there file v plain))
