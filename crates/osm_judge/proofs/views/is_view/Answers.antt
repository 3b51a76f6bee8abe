use Rattle.std.proofs.Common.{◌≡◌, ◌≤◌, true, rules}
use Rattle.osm_world.specs.History.{base_of, published_of}
use Rattle.osm_mirror.specs.Mirror.{IsMirrorOf}
use Rattle.osm_publisher.specs.Published.{changes_after, changes_up_to, time_at}
use Rattle.osm_judge.proofs.ViewLemmas.{view_row}
use Rattle.osm_judge.proofs.views.is_view.Goals as goal

pub returns : goal.returns
returns c =
    let number : c.args.view.now.number ≡ c.follower_number-number.result = search rules in
    let base : c.args.view.now.base ≡ base_of c.args.history.now = search rules in
    let below : base_of c.args.history.now ≤ c.follower_number-number.result = search rules in
    let time : c.args.view.now.time ≡ time_at (published_of c.args.history.now) c.follower_number-number.result = search rules in
    let changes : c.as_slice.result.now ≡ changes_up_to (published_of c.args.history.now) c.follower_number-number.result = search rules in
    let is : c.in_ok-is_mirror.is_mirror ≡ true = search rules in
    let counted : c.as_slice-2.result.now ≡ changes_after (published_of c.args.history.now) (base_of c.args.history.now)
    c.follower_number-number.result = search rules in
    let mirror : IsMirrorOf c.args.filter.now c.as_slice.result.now c.as_slice-2.result.now c.args.view.now.mirror = c.in_ok-is_mirror.ensures.0 is in
    view_row c.args.filter.now c.args.history.now c.args.view.now c.follower_number-number.result c.is_held.result
    c.follower_number-number.ensures number base below time (rw (← changes, ← counted) mirror) (rw (← c.held.ensures) c.is_held.ensures)
