use Rattle.std.proofs.Common.{◌<◌, arith, length, subst}
use Rattle.std.proofs.lemmas.Grind.{common_steps}
use Rattle.osm_kept.specs.Steps.Taking.{IsOfOlder, IsOwn, ReachStops, ReachesHead}
use Rattle.osm_kept.proofs.EndLemmas.{ends_older, ends_own, own_reach}
use Rattle.osm_kept.proofs.OtherLemmas.{reach_stops}
use Rattle.osm_kept.proofs.ends.ends_beside.Goals as goal

pub returns-in-Ok-Some-clause-found : goal.returns-in-Ok-Some-clause-found
returns-in-Ok-Some-clause-found c = λ told journal holds.
    let some : 0 < length c.args.bytes.items = grind (arith, common_steps) in
    let own : IsOwn c.args.start c.args.bytes.items c.in-Ok-Some.head =
    subst (λ o. ReachesHead c.args.start c.args.bytes.items o) c.in-Ok-Some.field-0-is (rw c.as_slice.ensures.value at c.in-Ok-Some.ensures.reached) in
    ends_own told journal c.args.start c.args.bytes c.in-Ok-Some.head some holds own

pub returns-in-Ok-Some-clause-reach : goal.returns-in-Ok-Some-clause-reach
returns-in-Ok-Some-clause-reach c =
    let own : IsOwn c.args.start c.args.bytes.items c.in-Ok-Some.head =
    subst (λ o. ReachesHead c.args.start c.args.bytes.items o) c.in-Ok-Some.field-0-is (rw c.as_slice.ensures.value at c.in-Ok-Some.ensures.reached) in
    own_reach c.args.start c.args.bytes c.in-Ok-Some.head c.requires.start own

pub returns-in-Ok-None-clause-found : goal.returns-in-Ok-None-clause-found
returns-in-Ok-None-clause-found c = λ told journal holds.
    let other : IsOfOlder c.args.start c.args.bytes.items =
    subst (λ o. ReachesHead c.args.start c.args.bytes.items o) c.in-Ok-None.field-0-is (rw c.as_slice.ensures.value at c.in-Ok-None.ensures.reached) in
    rw c.ends_of_save-in-Ok-None.ensures (ends_older told journal c.args.start c.args.bytes.items c.requires.start holds other)

pub returns-in-Err-clause-refused : goal.returns-in-Err-clause-refused
returns-in-Err-clause-refused c = λ told journal holds.
    let some : 0 < length c.args.bytes.items = grind (arith, common_steps) in
    let stops : ReachStops c.args.start c.args.bytes.items c.in-Err.fault = rw c.as_slice.ensures.value at c.in-Err.ensures.stops in
    reach_stops told journal c.args.start c.args.bytes.items c.in-Err.fault c.requires.start some holds stops
