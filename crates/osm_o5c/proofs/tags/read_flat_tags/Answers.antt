use Rattle.std.proofs.Common.{rules}
use Rattle.osm_o5c.specs.StringReading.{tag_at}
use Rattle.osm_o5c.proofs.ManyLemmas.{no_parts}
use Rattle.osm_o5c.proofs.tags.read_flat_tags.Goals as goal

pub returns-then-is_empty : goal.returns-then-is_empty
returns-then-is_empty c =
    rw c.requires (no_parts tag_at 5000 c.args.strings.now c.args.bytes.now (search rules))
