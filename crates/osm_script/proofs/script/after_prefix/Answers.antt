use Rattle.osm_script.proofs.ScriptLemmas.{prefix_is, no_prefix}
use Rattle.osm_script.proofs.script.after_prefix.Goals as goal

pub returns-in-Some-clause-found : goal.returns-in-Some-clause-found
returns-in-Some-clause-found c = prefix_is c.args.line.now c.args.prefix.now c.in-Some.rest.now c.in-Some.ensures.cases.0 c.in-Some.ensures.cases.1

pub returns-in-None-clause-none : goal.returns-in-None-clause-none
returns-in-None-clause-none c = λ rest is. no_prefix c.args.line.now c.args.prefix.now rest c.in-None.ensures.cases is
