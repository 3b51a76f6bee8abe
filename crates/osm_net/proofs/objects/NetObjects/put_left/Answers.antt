use Rattle.std.proofs.Common.{rules}
use Rattle.osm_net.proofs.KindLemmas.{found_put, kept_put, put_node, put_relation, put_way}
use Rattle.osm_net.proofs.objects.NetObjects.put_left.Goals as goal

pub invariant_of-self : goal.invariant_of-self
invariant_of-self c =
    kept_put (put_node c.put.result c.args.key c.args.left c.self.inside.nodes c.put.new.self
    (search rules) (search rules) c.put.ensures.unchanged c.self.inside.ways c.self.inside.relations c.in-Node.is)
    c.requires.own c.requires.object c.self.invariant

pub returns-in-Node-clause-put : goal.returns-in-Node-clause-put
returns-in-Node-clause-put c =
    rw (← c.self.view_is) (found_put (put_node c.put.result c.args.key c.args.left c.self.inside.nodes c.put.new.self
    (search rules) (search rules) c.put.ensures.unchanged c.self.inside.ways c.self.inside.relations c.in-Node.is))

pub returns-in-Node-clause-refused : goal.returns-in-Node-clause-refused
returns-in-Node-clause-refused c =
    rw (← c.self.view_is) (put_node c.put.result c.args.key c.args.left c.self.inside.nodes c.put.new.self
    (search rules) (search rules) c.put.ensures.unchanged c.self.inside.ways c.self.inside.relations c.in-Node.is).refused

pub invariant_of-self-in-Way : goal.invariant_of-self-in-Way
invariant_of-self-in-Way c =
    kept_put (put_way c.put-in-Way.result c.args.key c.args.left c.self.inside.ways c.put-in-Way.new.self
    (search rules) (search rules) c.put-in-Way.ensures.unchanged c.self.inside.nodes c.self.inside.relations c.in-Way.is)
    c.requires.own c.requires.object c.self.invariant

pub returns-in-Way-clause-put : goal.returns-in-Way-clause-put
returns-in-Way-clause-put c =
    rw (← c.self.view_is) (found_put (put_way c.put-in-Way.result c.args.key c.args.left c.self.inside.ways c.put-in-Way.new.self
    (search rules) (search rules) c.put-in-Way.ensures.unchanged c.self.inside.nodes c.self.inside.relations c.in-Way.is))

pub returns-in-Way-clause-refused : goal.returns-in-Way-clause-refused
returns-in-Way-clause-refused c =
    rw (← c.self.view_is) (put_way c.put-in-Way.result c.args.key c.args.left c.self.inside.ways c.put-in-Way.new.self
    (search rules) (search rules) c.put-in-Way.ensures.unchanged c.self.inside.nodes c.self.inside.relations c.in-Way.is).refused

pub invariant_of-self-in-Relation : goal.invariant_of-self-in-Relation
invariant_of-self-in-Relation c =
    kept_put (put_relation c.put-in-Relation.result c.args.key c.args.left c.self.inside.relations c.put-in-Relation.new.self
    (search rules) (search rules) c.put-in-Relation.ensures.unchanged c.self.inside.nodes c.self.inside.ways c.in-Relation.is)
    c.requires.own c.requires.object c.self.invariant

pub returns-in-Relation-clause-put : goal.returns-in-Relation-clause-put
returns-in-Relation-clause-put c =
    rw (← c.self.view_is) (found_put (put_relation c.put-in-Relation.result c.args.key c.args.left c.self.inside.relations c.put-in-Relation.new.self
    (search rules) (search rules) c.put-in-Relation.ensures.unchanged c.self.inside.nodes c.self.inside.ways c.in-Relation.is))

pub returns-in-Relation-clause-refused : goal.returns-in-Relation-clause-refused
returns-in-Relation-clause-refused c =
    rw (← c.self.view_is) (put_relation c.put-in-Relation.result c.args.key c.args.left c.self.inside.relations c.put-in-Relation.new.self
    (search rules) (search rules) c.put-in-Relation.ensures.unchanged c.self.inside.nodes c.self.inside.ways c.in-Relation.is).refused
