use Rattle.osm_net.proofs.KindLemmas.{all_joined, new_node, new_relation, new_way, nodes_are, relations_are, ways_are}
use Rattle.osm_net.proofs.SlotLemmas.{on_err}
use Rattle.osm_net.proofs.objects.NetObjects.append.Goals as goal

pub append_kind-requires : goal.append_kind-requires
append_kind-requires c = nodes_are c.later.inside.nodes c.later.inside.ways c.later.inside.relations c.later.invariant

pub append_kind-requires-2 : goal.append_kind-requires-2
append_kind-requires-2 c = ways_are c.later.inside.nodes c.later.inside.ways c.later.inside.relations c.later.invariant

pub append_kind-requires-3 : goal.append_kind-requires-3
append_kind-requires-3 c = relations_are c.later.inside.nodes c.later.inside.ways c.later.inside.relations c.later.invariant

pub returns-in_err-append_kind-clause-refused : goal.returns-in_err-append_kind-clause-refused
returns-in_err-append_kind-clause-refused c =
    rw (← c.later.view_is) (on_err c.from_residual.result
    (new_node c.later.inside.nodes c.later.inside.ways c.later.inside.relations c.args.self.now c.in_err-append_kind.ensures.refused))

pub returns-in_err-append_kind-2-clause-refused : goal.returns-in_err-append_kind-2-clause-refused
returns-in_err-append_kind-2-clause-refused c =
    rw (← c.later.view_is) (on_err c.from_residual-in_err-append_kind-2.result
    (new_way c.later.inside.nodes c.later.inside.ways c.later.inside.relations c.args.self.now c.append_kind.new.self
    c.in_ok-append_kind.ensures.joined c.in_err-append_kind-2.ensures.refused))

pub returns-in_err-append_kind-3-clause-refused : goal.returns-in_err-append_kind-3-clause-refused
returns-in_err-append_kind-3-clause-refused c =
    rw (← c.later.view_is) (on_err c.from_residual-in_err-append_kind-3.result
    (new_relation c.later.inside.nodes c.later.inside.ways c.later.inside.relations c.args.self.now c.append_kind.new.self
    c.in_ok-append_kind.ensures.joined c.append_kind-2.new.self c.in_ok-append_kind-2.ensures.joined c.in_err-append_kind-3.ensures.refused))

pub returns-clause-joined : goal.returns-clause-joined
returns-clause-joined c =
    rw (← c.later.view_is)
    (all_joined c.later.inside.nodes c.later.inside.ways c.later.inside.relations c.args.self.now c.append_kind.new.self
    c.in_ok-append_kind.ensures.joined c.append_kind-2.new.self c.in_ok-append_kind-2.ensures.joined c.append_kind-3.new.self
    c.in_ok-append_kind-3.ensures.joined)
