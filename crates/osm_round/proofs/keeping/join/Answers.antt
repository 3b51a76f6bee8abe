use Rattle.std.proofs.Common.{subst, sym}
use Rattle.osm_round.specs.KeepingSteps.{JoinStops}
use Rattle.osm_round.specs.News.{came_to}
use Rattle.osm_round.proofs.JoinLemmas.{joins_to, net_stops, room_for_both}
use Rattle.osm_round.proofs.keeping.join.Goals as goal

pub after-requires : goal.after-requires
after-requires c =
    room_for_both c.args.filter.now c.args.reach.now c.in-Ok.net c.requires.taken.0 (came_to c.args.filter.now c.args.taken) c.in-Ok.ensures.taken
    c.requires.taken.2 c.requires.under c.args.taken.news c.requires.few c.requires.number

pub returns-clause-joined : goal.returns-clause-joined
returns-clause-joined c =
    joins_to c.args.filter.now c.args.reach.now c.in-Ok.net c.requires.taken.0 (came_to c.args.filter.now c.args.taken) c.in-Ok.ensures.taken
    c.requires.taken.2 c.requires.under c.laws_of_nets.ensures.joined c.args.file.now c.in_ok-net.net c.requires.taken.1 c.in-Ok.ensures.found
    c.in_ok-net.ensures.joined

pub returns-in-Err-clause-stops : goal.returns-in-Err-clause-stops
returns-in-Err-clause-stops c =
    subst (JoinStops c.args.reach.now c.args.file.now) (sym c.kept_fault.ensures)
    (net_stops c.args.reach.now c.args.file.now c.in-Err.fault c.in-Err.ensures.plain c.in-Err.ensures.refused)
