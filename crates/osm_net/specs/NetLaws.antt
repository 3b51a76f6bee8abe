-- What holds of net changes, whatever they come from.
use Rattle.std.specs.Prelude.{◌≡◌, ℕ, ◌+◌, ◌<◌, ◌≤◌, ◌^◌, List, [], ◌++◌, length}
use Rattle.osm_model.specs.Change.{ChangeValue}
use Rattle.osm_model.specs.Filter.{AreKept, FilterValue}
use Rattle.osm_mirror.specs.Mirror.{Applies, IsMirror, IsOrderly, MirrorValue, count_at}
use Rattle.osm_net.specs.Laid.{laid_on}
use Rattle.osm_net.specs.Net.{HasRoomFor, HasRoomForAll, IsJoined, IsNet, IsNetOf}
use Rattle.osm_net.specs.Net.{IsOrderlyNet, NetValue, no_net}

-- laid over a mirror, what changes come to is what applying them in order gives
abbrev pub NetsApply : Type 0
NetsApply = (f : FilterValue) (changes : List ChangeValue) (n : NetValue) (m : MirrorValue)
    → IsOrderly m → IsNetOf f changes n → Applies f m changes (laid_on n m)

-- changes that are applied to a mirror give one mirror
abbrev pub OneIsApplied : Type 0
OneIsApplied = (f : FilterValue) (changes : List ChangeValue) (m a b : MirrorValue)
    → Applies f m changes a → Applies f m changes b → a ≡ b

-- so the mirror to which changes were applied is the old one with their net changes laid over it
abbrev pub AppliedIsLaid : Type 0
AppliedIsLaid = (f : FilterValue) (changes : List ChangeValue) (n : NetValue) (a b : MirrorValue)
    → IsOrderly a → IsNetOf f changes n → Applies f a changes b → b ≡ laid_on n a

-- no changes come to nothing, which changes no mirror
abbrev pub NothingIsNone : Type 0
NothingIsNone = (f : FilterValue) → IsNetOf f [] no_net

abbrev pub NoneChangesNothing : Type 0
NoneChangesNothing = (m : MirrorValue) → laid_on no_net m ≡ m

-- a mirror in order stays so
abbrev pub StaysOrderly : Type 0
StaysOrderly = (n : NetValue) (m : MirrorValue)
    → IsOrderlyNet n → IsOrderly m → IsOrderly (laid_on n m)

-- a mirror within the limits stays so
abbrev pub StaysMirror : Type 0
StaysMirror = (n : NetValue) (m : MirrorValue) → IsNet n → IsMirror m → IsMirror (laid_on n m)

-- a mirror that was kept by the filter stays so
abbrev pub StaysKeptBy : Type 0
StaysKeptBy = (f : FilterValue) (changes : List ChangeValue) (n : NetValue) (m : MirrorValue)
    → IsOrderly m → IsNetOf f changes n → AreKept f m.objects → AreKept f (laid_on n m).objects

-- no count is above the number of changes
pub record IsCountedWithin (most : ℕ) (n : NetValue) : Type 0 where
  pub users : (uid : ℕ) → count_at n.users uid ≤ most
  pub changesets : (id : ℕ) → count_at n.changesets id ≤ most

abbrev pub CountsAreFew : Type 0
CountsAreFew = (f : FilterValue) (changes : List ChangeValue) (n : NetValue)
    → IsNetOf f changes n → IsCountedWithin (length changes) n

-- so there is room for more, as long as all changes are fewer than 2^64
abbrev pub HaveRoom : Type 0
HaveRoom = (f : FilterValue) (changes : List ChangeValue) (n : NetValue) (more : ℕ)
    → IsNetOf f changes n → length changes + more < 2 ^ 64 → HasRoomFor more n

-- net changes of changes, with net changes of others after them, are those of all of them
abbrev pub NetsJoin : Type 0
NetsJoin = (f : FilterValue) (before after : List ChangeValue) (old later new : NetValue)
    → IsNetOf f before old → IsNetOf f after later → IsJoined old later new
    → IsNetOf f (before ++ after) new

-- laid over a mirror, they are the later ones laid over what the earlier ones, laid over it, give
abbrev pub JoinedIsLaid : Type 0
JoinedIsLaid = (old later new : NetValue) (m : MirrorValue)
    → IsOrderlyNet old → IsOrderlyNet later → IsJoined old later new → IsOrderly m
    → laid_on new m ≡ laid_on later (laid_on old m)

-- so over what the earlier ones give, they apply the later changes
abbrev pub JoinedApplies : Type 0
JoinedApplies =
    (f : FilterValue) (changes : List ChangeValue) (old later new : NetValue) (m : MirrorValue)
    → IsOrderlyNet old → IsNetOf f changes later → IsJoined old later new → IsOrderly m
    → Applies f (laid_on old m) changes (laid_on new m)

-- there is room for both, as long as all changes are fewer than 2^64
abbrev pub HaveRoomForAll : Type 0
HaveRoomForAll = (f : FilterValue) (before after : List ChangeValue) (old later : NetValue)
    → IsNetOf f before old → IsNetOf f after later → length before + length after < 2 ^ 64
    → HasRoomForAll later old
