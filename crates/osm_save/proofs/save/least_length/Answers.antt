use Rattle.std.proofs.Common.{◌≡◌, ◌+◌, ◌*◌, ◌≤◌, ap, arith, length}
use Rattle.osm_save.specs.Save.{saved_with}
use Rattle.osm_save.proofs.LengthLemmas.{text_long}
use Rattle.osm_save.proofs.save.least_length.Goals as goal

pub returns-clause-least : goal.returns-clause-least
returns-clause-least c = λ version head f.
    let long = text_long version (saved_with head f c.args.mirror.now) in
    let many-objects : length c.objects_by_key.result.now ≡ length c.args.mirror.now.objects = ap length c.objects_by_key.ensures in
    let many-users : length c.user_counts.result.now ≡ length c.args.mirror.now.users = ap length c.user_counts.ensures in
    let many-changesets : length c.changeset_counts.result.now ≡ length c.args.mirror.now.changesets = ap length c.changeset_counts.ensures in
    let objects : c.saturating_mul-objects.result ≤ 43 * length c.args.mirror.now.objects =
    omega (arith, c.saturating_mul-objects.ensures, c.len.ensures, many-objects) in
    let users : c.saturating_mul-users.result ≤ 4 * length c.args.mirror.now.users =
    omega (arith, c.saturating_mul-users.ensures, c.len-2.ensures, many-users) in
    let changesets : c.saturating_mul-changesets.result ≤ 4 * length c.args.mirror.now.changesets =
    omega (arith, c.saturating_mul-changesets.ensures, c.len-3.ensures, many-changesets) in
    let sum : c.saturating_add-2.result ≤ c.saturating_mul-objects.result + c.saturating_mul-users.result
    + c.saturating_mul-changesets.result = omega (arith, c.saturating_add-2.ensures, c.saturating_add.ensures) in
    omega (arith, long, objects, users, changesets, sum)
