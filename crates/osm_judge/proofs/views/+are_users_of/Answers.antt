use Rattle.std.proofs.Common.{◌≡◌}
use Rattle.osm_model.specs.Content.{edits_by_user}
use Rattle.osm_mirror.specs.Mirror.{count_at}
use Rattle.osm_judge.proofs.ViewLemmas.{all-cons, not_cons}
use Rattle.osm_judge.proofs.views.+are_users_of.Goals as goal

pub returns-then-is_user : goal.returns-then-is_user
returns-then-is_user t c = rw c.in-Some.ensures.cases.0
    (all-cons (λ d. count_at c.args.users.now d.meta.uid ≡ edits_by_user c.args.changes.now d.meta.uid)
    c.in-Some.first.now c.in-Some.others.now c.are_users_of.result (rw (← c.meta.ensures, ← c.uid-uid.ensures)
    (c.is_user.ensures.0 c.if-is_user.true)) c.are_users_of.ensures)

pub returns-else-is_user : goal.returns-else-is_user
returns-else-is_user t c = rw c.in-Some.ensures.cases.0
    (not_cons (λ d. count_at c.args.users.now d.meta.uid ≡ edits_by_user c.args.changes.now d.meta.uid)
    c.in-Some.first.now c.in-Some.others.now c.is_user.result
    (rw (← c.meta.ensures, ← c.uid-uid.ensures) c.is_user.ensures.1) c.if-is_user.false)
