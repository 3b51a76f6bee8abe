-- Histories that say the same of their followers, followers that can't be told apart, and views
-- that differ by a filter alone.
use Rattle.std.specs.Prelude.{◌≡◌, ℕ, false}
use Rattle.osm_follow.specs.Follower.{FollowerValue, held_at}
use Rattle.osm_follow.specs.View.{ViewValue}
use Rattle.osm_mirror.specs.Mirror.{object_at}
use Rattle.osm_model.specs.Filter.{FilterValue, kept}
use Rattle.osm_model.specs.declared.kind.Key.{Key}
use Rattle.osm_world.specs.History.{History, accepted_of, base_of, is_broken, published_of}
use Rattle.osm_world.specs.History.{start_of}

-- the histories published the same, and their followers, which aren't broken, have the same base,
-- started at the same number and accepted the same ones
pub record AcceptAlike (g h : History) : Type 0 where
  pub published : published_of g ≡ published_of h
  pub base : base_of g ≡ base_of h
  pub start : start_of g ≡ start_of h
  pub accepted : (j : ℕ) → accepted_of g j ≡ accepted_of h j
  pub first : is_broken g ≡ false
  pub second : is_broken h ≡ false

-- the followers have the same filter, number, base, time, mirror and counts, and hold the same at
-- each number
pub record AreAlike (f g : FollowerValue) : Type 0 where
  pub filter : f.filter ≡ g.filter
  pub number : f.number ≡ g.number
  pub base : f.base ≡ g.base
  pub time : f.time ≡ g.time
  pub mirror : f.mirror ≡ g.mirror
  pub held : (j : ℕ) → held_at f j ≡ held_at g j

-- the second view is the first with only what the filter keeps of its objects: all else is the same
pub record IsExtract (filter : FilterValue) (v w : ViewValue) : Type 0 where
  pub number : w.number ≡ v.number
  pub base : w.base ≡ v.base
  pub time : w.time ≡ v.time
  pub objects :
      (k : Key) → object_at w.mirror.objects k ≡ kept filter (object_at v.mirror.objects) k
  pub users : w.mirror.users ≡ v.mirror.users
  pub changesets : w.mirror.changesets ≡ v.mirror.changesets
  pub held : w.held ≡ v.held
