use Rattle.osm_script.proofs.ScriptLemmas.{suffix_is, no_suffix}
use Rattle.osm_script.proofs.script.before_suffix.Goals as goal

pub returns-in-Some-clause-found : goal.returns-in-Some-clause-found
returns-in-Some-clause-found c = suffix_is c.args.words.now c.args.suffix.now c.in-Some.rest.now c.in-Some.ensures.cases.0 c.in-Some.ensures.cases.1

pub returns-in-None-clause-none : goal.returns-in-None-clause-none
returns-in-None-clause-none c = λ rest is. no_suffix c.args.words.now c.args.suffix.now rest c.in-None.ensures.cases is
