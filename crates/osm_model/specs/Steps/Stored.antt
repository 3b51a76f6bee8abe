-- Where the bytes of a text are stored.
use Rattle.std.specs.Prelude.{ℕ, List, take, string_bytes}
use Rattle.osm_model.specs.declared.short.ShortText.{ShortText}
use Rattle.osm_model.specs.declared.text.Stored.{Stored}
use Rattle.osm_model.specs.declared.text.Stored.TheVariants.{Short, Long}

-- the bytes of a text that is stored in the value itself
abbrev pub short_bytes : ShortText → List ℕ
short_bytes s = take s.length s.bytes

-- the bytes of a text, wherever they are stored
abbrev pub stored_bytes : Stored → List ℕ
stored_bytes (Short s) = short_bytes s
stored_bytes (Long t) = string_bytes t.value
