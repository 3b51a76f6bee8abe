use Rattle.std.proofs.Common.{◌≡◌, map, take}
use Rattle.std.specs.Prelude.{string_bytes}
use Rattle.osm_words.specs.Echo.{echo_of}
use Rattle.osm_words.proofs.echo.echoes.Given as goal

abbrev pub invariant-loop-word : goal.invariant-loop-word
invariant-loop-word l = map string_bytes l.echoes.items ≡ map (λ word. echo_of word.now) (take l.word-index l.words)
