-- How much a mirror has grown, and how far its counts can still grow.
use Rattle.std.specs.Prelude.{ℕ, ◌+◌, ◌<◌, ◌≤◌, ◌^◌, length}
use Rattle.osm_mirror.specs.Mirror.{MirrorValue, count_at}

-- no list has grown by more than `most`
pub record GrowsBy (most : ℕ) (old new : MirrorValue) : Type 0 where
  pub objects : length new.objects ≤ length old.objects + most
  pub users : length new.users ≤ length old.users + most
  pub changesets : length new.changesets ≤ length old.changesets + most

-- each count has room for that many more edits
pub record HasRoom (more : ℕ) (m : MirrorValue) : Type 0 where
  pub users : (uid : ℕ) → count_at m.users uid + more < 2 ^ 64
  pub changesets : (id : ℕ) → count_at m.changesets id + more < 2 ^ 64
