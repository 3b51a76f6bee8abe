use Rattle.std.proofs.Common.{rules}
use Rattle.osm_o5c.proofs.StringLemmas.{text_none, text_found}
use Rattle.osm_o5c.proofs.file_string.text.Goals as goal

pub returns-in_default : goal.returns-in_default
returns-in_default c = text_none c.args.string.now (c.in_default.ensures.none (search rules))

pub returns : goal.returns
returns c = text_found c.args.string.now c.in-Some.characters.now c.in_ok-within_limits.field-0
    c.in_ok-within_limits.ensures.ok c.in-Some.ensures.some.0 c.in-Some.ensures.some.1
