use Rattle.std.proofs.Common.{◌≡◌, ◌∙◌, refl, rules, Bool, true, false, Option, Some, None, if◌then◌else◌}
use Rattle.osm_mirror.specs.Room.{HasRoom}
use Rattle.osm_model.specs.Change.{ChangeValue}
use Rattle.osm_model.specs.Content.{over_at}
use Rattle.osm_model.specs.Filter.{FilterValue, left_by}
use Rattle.osm_model.specs.KeyOrder.{same_key}
use Rattle.osm_mirror.specs.Mirror.{object_at}
use Rattle.osm_mirror.proofs.mirror.Mirror.apply_one.Goals as goal

-- one change over what was there before
over_one : (f : FilterValue) (b : Bool) (before : Option ChangeValue) (c : ChangeValue)
    → (if b then left_by f c else before) ≡ over_at (left_by f) before (if b then Some c else None)
over_one f true before c = refl
over_one f false before c = refl

pub add_one-requires-clause-room : goal.add_one-requires-clause-room
add_one-requires-clause-room c =
    let room : HasRoom 1 (record {
      objects = c.self.inside.objects;
      users = c.self.inside.users;
      changesets =
          c.self.inside.changesets;
    }) = rw c.self.view_is c.requires in
    room.users c.uid.result

pub add_one-requires-2-clause-room : goal.add_one-requires-2-clause-room
add_one-requires-2-clause-room c =
    let room : HasRoom 1 (record {
      objects = c.self.inside.objects;
      users = c.self.inside.users;
      changesets =
          c.self.inside.changesets;
    }) = rw c.self.view_is c.requires in
    room.changesets c.changeset.result

pub returns-clause-applied : goal.returns-clause-applied
returns-clause-applied c = record {
  orderly = search rules;
  objects = λ k. rw (← c.self.view_is)
      (c.in-Ok-put.ensures.put k ∙ over_one c.args.filter.now (same_key c.args.change.key k) (object_at c.self.inside.objects k) c.args.change);
  users = search rules;
  changesets = search rules;
}
