use Rattle.std.proofs.Common.{None, sym, ◌∙◌}
use Rattle.osm_asking.proofs.WordLemmas.{digits_only}
use Rattle.osm_asking.proofs.words.id_of.Goals as goal

pub returns-then-not-is_plain-clause-only : goal.returns-then-not-is_plain-clause-only
returns-then-not-is_plain-clause-only c = λ id fits is.
    digits_only c.args.digits.now None id (sym c.is_plain.ensures ∙ c.if-not-is_plain.true) fits is
