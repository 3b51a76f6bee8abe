use Rattle.std.proofs.Common.{rules, refl}
use Rattle.osm_o5c.proofs.StringLemmas.{text_none, text_found}
use Rattle.osm_o5c.proofs.file_string.flat_text.Goals as goal

pub returns-in-None-clause-value : goal.returns-in-None-clause-value
returns-in-None-clause-value c = text_none c.args.string.now (c.in-None.ensures.none (search rules))

pub returns-in-Some-clause-value : goal.returns-in-Some-clause-value
returns-in-Some-clause-value c = text_found c.args.string.now c.in-Some.characters.now c.in-Some.characters.now
    refl c.in-Some.ensures.some.0 c.in-Some.ensures.some.1
