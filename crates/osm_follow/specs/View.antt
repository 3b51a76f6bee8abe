-- What a follower shows of itself.
use Rattle.std.specs.Prelude.{◌≡◌, ℕ, ◌<◌, ◌≤◌, List, length, Bool, true, false, Option}
use Rattle.std.specs.Prelude.{◌↔◌, ◌⊎◌, Contains}
use Rattle.std.specs.List.Sorted.{IsStrictlySortedBy}
use Rattle.std.specs.Ordering.{nat_cmp}
use Rattle.osm_holding.specs.Holding.{numbers_of}
use Rattle.osm_follow.specs.Follower.{FollowerValue}
use Rattle.osm_mirror.specs.Mirror.{MirrorValue, HoldsSome, IsMirrorOf}
use Rattle.osm_model.specs.Filter.{FilterValue}
use Rattle.osm_publisher.specs.Published.{PublishedValue, changes_after, changes_up_to, time_at}
use Rattle.osm_follow.specs.Reach.{Reaches}
use Rattle.osm_follow.specs.declared.view.ViewError.{ViewError}
use Rattle.osm_follow.specs.declared.view.ViewError.TheVariants.{Broken, WantOfMemory}

pub record ViewValue : Type 0 where
  pub number : ℕ
  pub base : ℕ
  pub time : Option ℕ
  pub mirror : MirrorValue
  pub held : List ℕ

-- the view of a follower
abbrev pub view_of : FollowerValue → ViewValue
view_of f = record {
  number = f.number;
  base = f.base;
  time = f.time;
  mirror = f.mirror;
  held = numbers_of f.holding;
}

-- why a follower shows nothing: if its mirror is empty and nothing is held, no memory is taken
abbrev pub ViewStops : FollowerValue → ViewError → Type 0
ViewStops f Broken = f.is_broken ≡ true
ViewStops f WantOfMemory =
    (f.is_broken ≡ false) × (HoldsSome f.mirror ⊎ (0 < length (numbers_of f.holding)))

-- the view of a follower with that filter and that base, which started at `start` and accepted
-- those of the published numbers: the objects are those that the filter keeps, in the order of
-- their keys, users and changesets rise and have counts above 0, and the held numbers rise
pub record IsView (given : FilterValue) (published : List PublishedValue) (base start : ℕ)
    (is_accepted : ℕ → Bool) (v : ViewValue) : Type 0 where
  pub base_is : v.base ≡ base
  pub below : base ≤ v.number
  pub reach : Reaches is_accepted start v.number
  pub time : v.time ≡ time_at published v.number
  pub mirror : IsMirrorOf given (changes_up_to published v.number)
      (changes_after published base v.number) v.mirror
  pub rising : IsStrictlySortedBy nat_cmp v.held
  pub held : (j : ℕ) → Contains v.held j ↔ ((v.number < j) × (is_accepted j ≡ true))
