use Rattle.std.proofs.Common.{◌≡◌, Some, None, Option, ℕ}
use Rattle.osm_script.proofs.ScriptLemmas.{begin_digits}
use Rattle.osm_script.proofs.script.parse_begin.Goals as goal

pub returns-in-None-clause-refused : goal.returns-in-None-clause-refused
returns-in-None-clause-refused c = λ e h.
    let spelled = begin_digits c.args.digits.now e h in
    let bad : (let none : Option ℕ = None in none ≡ Some spelled.0) = c.in-None.ensures.only spelled.0 spelled.1 in
    cc
