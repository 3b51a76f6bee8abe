use Rattle.std.specs.Prelude.{codes}
use Rattle.osm_opl.specs.Written.{items_text}
use Rattle.osm_asking.specs.Json.{member_json}
use Rattle.osm_asking.proofs.JsonLemmas.{appended_three}
use Rattle.osm_asking.proofs.json.write_members.Goals as goal

pub returns : goal.returns
returns c =
    appended_three c.write_bytes-2.result c.args.out.now.items (codes ",\"members\":[") (items_text member_json c.args.members.now) (codes "]")
    c.write_bytes.new.text.items c.write_each.new.out.items c.write_bytes-2.new.text.items c.in_ok-write_bytes.ensures.appended
    c.in_ok-write_each.ensures c.write_bytes-2.ensures.appended
