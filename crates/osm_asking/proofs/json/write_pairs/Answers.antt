use Rattle.std.proofs.Common.{arith}
use Rattle.osm_opl.proofs.WrittenLemmas.{items_more}
use Rattle.osm_asking.specs.Json.{tag_json}
use Rattle.osm_asking.proofs.json.write_pairs.Goals as goal

pub loop-tag-preserved : goal.loop-tag-preserved
loop-tag-preserved c =
    items_more tag_json c.args.out.now.items c.loop-tag.out.items c.write_pair.new.out.items c.args.tags.now c.loop-tag.is_first
    c.loop-tag.tag-index c.tag-item.result c.loop-tag.invariant (omega arith) c.tag-item.is c.in_ok-write_pair.ensures
