use Rattle.std.proofs.Common.{◌≡◌, ◌++◌}
use Rattle.std.specs.Char.{encode_utf8}
use Rattle.std.specs.Char.Iter.{escape_rest}
use Rattle.std.specs.List.{flat_map}
use Rattle.std.specs.Prelude.{string_bytes}
use Rattle.osm_words.specs.Echo.{escape_of}
use Rattle.osm_words.proofs.echo.push_escape.Given as goal

abbrev pub invariant-loop-part : goal.invariant-loop-part
invariant-loop-part l =
    string_bytes l.echo ++ flat_map encode_utf8 (escape_rest l.part-iterator) ≡ string_bytes l.initial.echo ++ escape_of l.fn.character
