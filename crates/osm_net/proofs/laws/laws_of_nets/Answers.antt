use Rattle.osm_net.proofs.NetLemmas.{applied_is_laid, counts_are_few, have_room, nets_apply, none_changes_nothing, nothing_is_none, one_is_applied}
use Rattle.osm_net.proofs.NetLemmas.{stays_kept_by, stays_mirror, stays_orderly}
use Rattle.osm_net.proofs.JoinedLemmas.{have_room_for_all, joined_applies, joined_is_laid, nets_join}
use Rattle.osm_net.proofs.laws.laws_of_nets.Goals as goal

pub returns-clause-laid : goal.returns-clause-laid
returns-clause-laid c = nets_apply

pub returns-clause-same : goal.returns-clause-same
returns-clause-same c = one_is_applied

pub returns-clause-applied : goal.returns-clause-applied
returns-clause-applied c = applied_is_laid

pub returns-clause-none : goal.returns-clause-none
returns-clause-none c = nothing_is_none

pub returns-clause-unchanged : goal.returns-clause-unchanged
returns-clause-unchanged c = none_changes_nothing

pub returns-clause-orderly : goal.returns-clause-orderly
returns-clause-orderly c = stays_orderly

pub returns-clause-mirror : goal.returns-clause-mirror
returns-clause-mirror c = stays_mirror

pub returns-clause-kept : goal.returns-clause-kept
returns-clause-kept c = stays_kept_by

pub returns-clause-few : goal.returns-clause-few
returns-clause-few c = counts_are_few

pub returns-clause-room : goal.returns-clause-room
returns-clause-room c = have_room

pub returns-clause-joined : goal.returns-clause-joined
returns-clause-joined c = nets_join

pub returns-clause-laid_after : goal.returns-clause-laid_after
returns-clause-laid_after c = joined_is_laid

pub returns-clause-applied_after : goal.returns-clause-applied_after
returns-clause-applied_after c = joined_applies

pub returns-clause-room_for_all : goal.returns-clause-room_for_all
returns-clause-room_for_all c = have_room_for_all
