use Rattle.osm_opl.proofs.EscapeLaws.{text_only, text_refused, text_spelled}
use Rattle.osm_opl.proofs.texts.read_text.Goals as goal

pub returns-clause-spelled : goal.returns-clause-spelled
returns-clause-spelled c = text_spelled c.args.bytes.now c.read_text.result c.read_text.ensures.value

pub returns-clause-refused : goal.returns-clause-refused
returns-clause-refused c = text_refused c.args.bytes.now c.read_text.result c.read_text.ensures.value

pub returns-clause-only : goal.returns-clause-only
returns-clause-only c = text_only c.args.bytes.now c.read_text.result c.read_text.ensures.value
