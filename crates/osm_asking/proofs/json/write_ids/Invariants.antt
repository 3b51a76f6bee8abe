use Rattle.std.specs.Fmt.{signed_decimal}
use Rattle.osm_opl.proofs.WrittenLemmas.{ItemsWritten}
use Rattle.osm_asking.proofs.json.write_ids.Given as goal

abbrev pub invariant-loop-id : goal.invariant-loop-id
invariant-loop-id l = ItemsWritten signed_decimal l.initial.out.items l.out.items l.ids l.is_first l.id-index
