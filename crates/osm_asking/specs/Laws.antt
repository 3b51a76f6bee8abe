-- Laws of fingerprints.
use Rattle.std.specs.Prelude.{◌≡◌}
use Rattle.osm_model.specs.Change.{ChangeValue}
use Rattle.osm_model.specs.Limits.{IsId}
use Rattle.osm_opl.specs.Written.{key_text, line_text}
use Rattle.osm_asking.specs.Fingerprint.{first_word}

-- the first word of an object's line is its key
abbrev pub KeyIsNamed : Type 0
KeyIsNamed = (c : ChangeValue) → IsId c.key.id → first_word (line_text c) ≡ key_text c.key
