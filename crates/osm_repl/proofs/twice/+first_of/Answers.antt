use Rattle.std.proofs.Common.{◌≡◌, true, false, sym, ◌∙◌}
use Rattle.osm_repl.specs.Twice.{is_later, is_this}
use Rattle.osm_repl.proofs.TwiceLemmas.{none_first}
use Rattle.osm_repl.proofs.twice.+first_of.Goals as goal

pub returns-in-None : goal.returns-in-None
returns-in-None t c = none_first c.args.one.now c.args.others.now c.in-None.ensures.cases

pub returns-then-is_same : goal.returns-then-is_same
returns-then-is_same t c = rw c.in-Some.ensures.cases.0
    (is_this c.in-Some.other.now c.in-Some.rest.now (c.is_same.ensures.0 c.if-is_same.true))

pub returns-else-is_same : goal.returns-else-is_same
returns-else-is_same t c = rw c.in-Some.ensures.cases.0
    (is_later c.in-Some.other.now c.in-Some.rest.now c.first_of.result
    (λ same. (let e : true ≡ false = sym (c.is_same.ensures.1 same) ∙ c.if-is_same.false in cc)) c.first_of.ensures)
