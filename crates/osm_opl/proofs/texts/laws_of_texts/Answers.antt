use Rattle.osm_opl.proofs.EscapeLaws.{one_text}
use Rattle.osm_opl.proofs.WrittenTexts.{text_is_spelled}
use Rattle.osm_opl.proofs.texts.laws_of_texts.Goals as goal

pub returns-clause-one_text : goal.returns-clause-one_text
returns-clause-one_text c = one_text

pub returns-clause-written : goal.returns-clause-written
returns-clause-written c = text_is_spelled
