use Rattle.std.proofs.Common.{subst, sym}
use Rattle.osm_store.specs.Frames.{IsKnown}
use Rattle.osm_net.specs.Net.{NetValue}
use Rattle.osm_merge.specs.Lists.{AreFew}
use Rattle.osm_merge.specs.Merging.{MergeStops as MergeStopsAt}
use Rattle.osm_round.proofs.PutLemmas.{write_stops}
use Rattle.osm_round.proofs.put.merge.Goals as goal

pub merge_save-requires : goal.merge_save-requires
merge_save-requires g c = subst AreFew (sym c.in_ok-lists.ensures.lists) c.requires

pub returns-clause-stops : goal.returns-clause-stops
returns-clause-stops g c =
    let told = (g.S.Store.state c.args.store.now).files c.args.save.now in
    rw c.write_fault.ensures (write_stops (IsKnown (g.S.Store.state c.args.store.now)) told c.args.net c.in-Err.fault
    (λ yes. subst (λ (m : NetValue). MergeStopsAt told m c.in-Err.fault) c.in_ok-lists.ensures.lists (c.in-Err.ensures.refused yes)))
