use Rattle.std.proofs.Common.{◌≡◌, ◌∷◌, List, ℕ, None, ap, length, subst, sym, ◌∙◌}
use Rattle.std.specs.Prelude.{IfSome}
use Rattle.osm_opl.specs.Written.{key_text}
use Rattle.osm_asking.proofs.WordLemmas.{no_word}
use Rattle.osm_asking.proofs.words.read_object_word.Goals as goal

pub returns-in-Some-clause-spelled : goal.returns-in-Some-clause-spelled
returns-in-Some-clause-spelled c =
    let parts : c.args.word.now ≡ c.in-Some.letter.now ∷ c.in-Some.digits.now = sym c.as_bytes.ensures.value ∙ c.in-Some.ensures.cases.0 in
    subst (λ (l : List ℕ). IfSome c.key_of.result (λ key. l ≡ key_text key)) (sym parts) c.key_of.ensures.spelled

pub returns-in-Some-clause-only : goal.returns-in-Some-clause-only
returns-in-Some-clause-only c = λ key fits is.
    (let parts : c.args.word.now ≡ c.in-Some.letter.now ∷ c.in-Some.digits.now = sym c.as_bytes.ensures.value ∙ c.in-Some.ensures.cases.0 in
    c.key_of.ensures.only key fits (sym parts ∙ is))

pub returns-in-None-clause-only : goal.returns-in-None-clause-only
returns-in-None-clause-only c = λ key fits is. no_word c.args.word.now None key (ap length (sym c.as_bytes.ensures.value) ∙ c.in-None.ensures.cases) is
