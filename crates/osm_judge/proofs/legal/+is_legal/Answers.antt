use Rattle.std.proofs.Common.{◌≡◌, true, false, refl, rules}
use Rattle.std.proofs.lemmas.Result.{IfOk-weaker}
use Rattle.osm_judge.proofs.LegalLemmas.{legal-cons, not_legal}
use Rattle.osm_judge.proofs.legal.+is_legal.Goals as goal

-- a history is legal if what came before is legal, and its newest reply is allowed
pub returns-then-not-branch : goal.returns-then-not-branch
returns-then-not-branch t c = rw c.in-Some.ensures.cases.0
    (not_legal c.args.filter.now c.in-Some.before.now c.in-Some.pair.now.0 c.in-Some.pair.now.1 c.in_ok-is_legal.field-0 false
    c.if-not-branch.true refl c.in_ok-is_legal.ensures)

pub returns : goal.returns
returns t c =
    let is : c.in_ok-is_legal.field-0 ≡ true = search rules in
    rw c.in-Some.ensures.cases.0
    (IfOk-weaker c.is_allowed_next.result _ _ (λ b told. legal-cons c.args.filter.now c.in-Some.before.now c.in-Some.pair.now.0
    c.in-Some.pair.now.1 b (c.in_ok-is_legal.ensures.0 is) told) c.is_allowed_next.ensures)
