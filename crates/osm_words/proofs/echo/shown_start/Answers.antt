use Rattle.std.proofs.Common.{sym, ap, ◌∙◌, map-id}
use Rattle.std.proofs.lemmas.Iterator.{YieldsList-from_chars, YieldsList-from_take}
use Rattle.std.proofs.lemmas.Iterator.Consumers.{YieldsList-end}
use Rattle.std.specs.List.{flat_map}
use Rattle.osm_words.specs.Echo.{shown_char}
use Rattle.osm_words.proofs.echo.shown_start.Goals as goal

pub returns : goal.returns
returns c =
    let end = YieldsList-end (YieldsList-from_take 64 (YieldsList-from_chars c.args.word.now c.utf8.word cc) cc)
    c.loop-character.yielded _ c.loop-character.yielded_by _ _ c.in-None.is c.next.ensures.steps in
    c.loop-character.invariant ∙ ap (flat_map shown_char) (sym (map-id c.loop-character.yielded) ∙ end.0)
