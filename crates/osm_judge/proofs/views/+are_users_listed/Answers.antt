use Rattle.std.proofs.Common.{◌≡◌}
use Rattle.osm_model.specs.Content.{edits_by_user}
use Rattle.osm_mirror.specs.Mirror.{count_at}
use Rattle.osm_judge.proofs.ViewLemmas.{all-cons}
use Rattle.osm_judge.proofs.views.+are_users_listed.Goals as goal

pub returns-then-is_user : goal.returns-then-is_user
returns-then-is_user t c = rw c.in-Some.ensures.cases.0
    (all-cons (λ e. count_at c.args.users.now e.0 ≡ edits_by_user c.args.changes.now e.0) c.in-Some.first.now
    c.in-Some.others.now c.are_users_listed.result (c.is_user.ensures.0 c.if-is_user.true)
    c.are_users_listed.ensures)
