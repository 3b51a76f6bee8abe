use Rattle.std.proofs.Common.{◌≡◌, Some, None, Option, ℕ}
use Rattle.osm_script.proofs.ScriptLemmas.{deliver_words}
use Rattle.osm_script.proofs.script.parse_deliver.Goals as goal

pub returns-in-None-clause-refused : goal.returns-in-None-clause-refused
returns-in-None-clause-refused c = λ e h.
    let spelled = deliver_words c.args.words.now c.in-Some.digits.now c.in-Some.form e c.in-Some.ensures.found h in
    let bad : (let none : Option ℕ = None in none ≡ Some spelled.0) = c.in-None.ensures.only spelled.0 spelled.1 in
    cc
