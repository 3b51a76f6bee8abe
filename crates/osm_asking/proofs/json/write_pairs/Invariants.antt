use Rattle.osm_opl.proofs.WrittenLemmas.{ItemsWritten}
use Rattle.osm_asking.specs.Json.{tag_json}
use Rattle.osm_asking.proofs.json.write_pairs.Given as goal

abbrev pub invariant-loop-tag : goal.invariant-loop-tag
invariant-loop-tag l = ItemsWritten tag_json l.initial.out.items l.out.items l.tags l.is_first l.tag-index
