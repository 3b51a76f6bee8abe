use Rattle.std.proofs.Common.{◌≡◌, ◌∷◌, List, ℕ, None, ap, length, sym, ◌∙◌}
use Rattle.osm_asking.proofs.SideLemmas.{id_fits, start_key}
use Rattle.osm_asking.proofs.WordLemmas.{no_word}
use Rattle.osm_asking.proofs.side.start_key.Goals as goal

pub returns-in-Some : goal.returns-in-Some
returns-in-Some c = λ object more is e.
    c.key_of.ensures.only object.key (id_fits object is)
    (sym c.in-Some.ensures.cases.0 ∙ start_key object c.args.start.now more c.first_word.result.now is e c.requires c.first_word.ensures)

pub returns-in-None : goal.returns-in-None
returns-in-None c = λ object more is e.
    no_word c.first_word.result.now None object.key c.in-None.ensures.cases
    (start_key object c.args.start.now more c.first_word.result.now is e c.requires c.first_word.ensures)
