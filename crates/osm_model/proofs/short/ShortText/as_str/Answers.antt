use Rattle.std.proofs.lemmas.Str.{IsUtf8-had}
use Rattle.osm_model.proofs.short.ShortText.as_str.Goals as goal

pub from_utf8_unchecked-requires : goal.from_utf8_unchecked-requires
from_utf8_unchecked-requires c = rw c.as_bytes.ensures (IsUtf8-had _ c.args.self.now.utf8)
