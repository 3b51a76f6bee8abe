use Rattle.std.proofs.Common.{None, sym, ◌∙◌}
use Rattle.osm_asking.proofs.WordLemmas.{key_only, key_spelled, no_kind}
use Rattle.osm_asking.proofs.words.key_of.Goals as goal

pub returns-in-Some-clause-spelled : goal.returns-in-Some-clause-spelled
returns-in-Some-clause-spelled c =
    key_spelled c.args.letter c.args.digits.now c.in-Some.kind c.id_of.result c.key_with.result (sym c.kind_of.ensures ∙ c.in-Some.is)
    c.id_of.ensures.spelled c.key_with.ensures

pub returns-in-Some-clause-only : goal.returns-in-Some-clause-only
returns-in-Some-clause-only c =
    key_only c.args.letter c.args.digits.now c.in-Some.kind c.id_of.result c.key_with.result (sym c.kind_of.ensures ∙ c.in-Some.is)
    c.id_of.ensures.only c.key_with.ensures

pub returns-in-None-clause-only : goal.returns-in-None-clause-only
returns-in-None-clause-only c = λ key fits is. no_kind c.args.letter c.args.digits.now None key (sym c.kind_of.ensures ∙ c.in-None.is) is
