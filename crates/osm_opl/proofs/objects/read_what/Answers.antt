use Rattle.osm_model.specs.declared.kind.Kind.TheVariants.{Node, Way, Relation}
use Rattle.osm_reading.specs.Pieces.{pieces_after}
use Rattle.osm_opl.proofs.LineLaws.{what_limits}
use Rattle.osm_opl.proofs.objects.read_what.Goals as goal

pub returns-in-Node-clause-limits : goal.returns-in-Node-clause-limits
returns-in-Node-clause-limits c =
    rw c.in-Node.is (what_limits Node c.args.is_visible (pieces_after 32 c.args.rest) c.read_node.result c.read_node.ensures)

pub returns-in-Way-clause-limits : goal.returns-in-Way-clause-limits
returns-in-Way-clause-limits c =
    rw c.in-Way.is (what_limits Way c.args.is_visible (pieces_after 32 c.args.rest) c.read_way.result c.read_way.ensures)

pub returns-in-Relation-clause-limits : goal.returns-in-Relation-clause-limits
returns-in-Relation-clause-limits c =
    rw c.in-Relation.is (what_limits Relation c.args.is_visible (pieces_after 32 c.args.rest) c.read_relation.result c.read_relation.ensures)
