use Rattle.osm_opl.proofs.WrittenLemmas.{ItemsWritten}
use Rattle.osm_asking.specs.Json.{member_json}
use Rattle.osm_asking.proofs.json.write_each.Given as goal

abbrev pub invariant-loop-member : goal.invariant-loop-member
invariant-loop-member l = ItemsWritten member_json l.initial.out.items l.out.items l.members l.is_first l.member-index
