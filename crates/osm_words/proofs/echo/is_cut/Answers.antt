use Rattle.std.proofs.Common.{◌∙◌}
use Rattle.std.proofs.lemmas.Iterator.{YieldsList-from_chars}
use Rattle.std.proofs.lemmas.Iterator.Consumers.{nth_from_yields_List}
use Rattle.std.specs.Str.{chars}
use Rattle.osm_words.proofs.EchoLemmas.{is_cut_at}
use Rattle.osm_words.proofs.echo.is_cut.Goals as goal

pub returns : goal.returns
returns c =
    let at = nth_from_yields_List c.nth.result _ 64 c.nth.ensures.ran (YieldsList-from_chars c.args.word.now c.utf8.word cc) in
    c.is_some.ensures ∙ is_cut_at (chars c.args.word.now) c.nth.result at
