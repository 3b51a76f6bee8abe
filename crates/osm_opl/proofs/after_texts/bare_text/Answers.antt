use Rattle.osm_opl.proofs.BeginTextLemmas.{bare_is_text}
use Rattle.osm_opl.proofs.after_texts.bare_text.Goals as goal

pub from_utf8_unchecked-text-requires : goal.from_utf8_unchecked-text-requires
from_utf8_unchecked-text-requires c = (bare_is_text c.args.bytes.now c.requires.bare c.requires.short).utf8

pub within_limits-requires : goal.within_limits-requires
within_limits-requires c =
    rw c.from_utf8_unchecked-text.ensures (bare_is_text c.args.bytes.now c.requires.bare c.requires.short)
