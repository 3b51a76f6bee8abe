use Rattle.osm_script.specs.Steps.Parsing.{IsBeginOf, IsEditOf, IsCloseOf, IsDeliverOf}
use Rattle.osm_script.specs.Script.{IsEventLine}
use Rattle.osm_script.proofs.ScriptLemmas.{only_begin, only_edit, only_close, only_deliver, refused_more}
use Rattle.osm_script.proofs.script.parse_event.Goals as goal

-- a line that begins as one event is no other event
pub returns-in-Some-clause-refused : goal.returns-in-Some-clause-refused
returns-in-Some-clause-refused c = refused_more c.parse_edit.result (IsEditOf c.in-Some.object.now)
    (IsEventLine c.args.line.now) (λ e. only_edit c.args.line.now c.in-Some.object.now e c.in-Some.ensures.found)
    c.parse_edit.ensures.refused

pub returns-in-Some-after_prefix-clause-refused : goal.returns-in-Some-after_prefix-clause-refused
returns-in-Some-after_prefix-clause-refused c =
    refused_more c.parse_close.result (IsCloseOf c.in-Some-after_prefix.text.now) (IsEventLine c.args.line.now)
    (λ e. only_close c.args.line.now c.in-Some-after_prefix.text.now e c.in-Some-after_prefix.ensures.found)
    c.parse_close.ensures.refused

pub returns-in-Some-after_prefix-2-clause-refused : goal.returns-in-Some-after_prefix-2-clause-refused
returns-in-Some-after_prefix-2-clause-refused c =
    refused_more c.parse_deliver.result (IsDeliverOf c.in-Some-after_prefix-2.words.now) (IsEventLine c.args.line.now)
    (λ e. only_deliver c.args.line.now c.in-Some-after_prefix-2.words.now e c.in-Some-after_prefix-2.ensures.found)
    c.parse_deliver.ensures.refused

pub returns-in-Some-after_prefix-3-clause-refused : goal.returns-in-Some-after_prefix-3-clause-refused
returns-in-Some-after_prefix-3-clause-refused c =
    refused_more c.parse_begin.result (IsBeginOf c.in-Some-after_prefix-3.digits.now) (IsEventLine c.args.line.now)
    (λ e. only_begin c.args.line.now c.in-Some-after_prefix-3.digits.now e c.in-Some-after_prefix-3.ensures.found)
    c.parse_begin.ensures.refused
