use Rattle.std.proofs.Common.{◌≡◌, rules}
use Rattle.std.specs.Prelude.{string_bytes}
use Rattle.osm_opl.proofs.EscapeLemmas.{text_is}
use Rattle.osm_opl.proofs.escapes.read_text.Goals as goal

pub within_limits-requires : goal.within_limits-requires
within_limits-requires c =
    let same : c.as_str.result.now ≡ string_bytes c.in_ok-text.text = search rules in
    rw same (text_is c.args.bytes.now (string_bytes c.in_ok-text.text) c.in_ok-text.ensures)
