use Rattle.std.proofs.Common.{◌≡◌}
use Rattle.osm_mirror.specs.Mirror.{count_at}
use Rattle.osm_model.specs.Content.{edits_by_user}
use Rattle.osm_judge.proofs.ViewLemmas.{users_everywhere, everywhere_in, both_ways}
use Rattle.osm_judge.proofs.views.are_users.Goals as goal

-- right for the users of both lists, and so for all
pub returns-then-are_users_listed : goal.returns-then-are_users_listed
returns-then-are_users_listed c = (
  λ t. users_everywhere c.args.users.now c.args.changes.now (c.are_users_listed.ensures.0 c.if-are_users_listed.true) (c.are_users_of.ensures.0 t),
  λ all. c.are_users_of.ensures.1 (everywhere_in (λ n. count_at c.args.users.now n ≡ edits_by_user c.args.changes.now n)
      (λ d. d.meta.uid) c.args.changes.now all),
)

pub returns-else-are_users_listed : goal.returns-else-are_users_listed
returns-else-are_users_listed c = (
  λ t. absurd (both_ways c.are_users_listed.result c.if-are_users_listed.false t),
  λ all. c.are_users_listed.ensures.1 (everywhere_in (λ n. count_at c.args.users.now n ≡ edits_by_user c.args.changes.now n) (λ e. e.0) c.args.users.now all),
)
