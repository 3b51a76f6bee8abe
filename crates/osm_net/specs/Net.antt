-- Net changes: what a list of changes comes to, as sorted lists, with one entry for each object
-- that changes, however often it does, and one count for each user and for each changeset.
use Rattle.std.specs.Prelude.{◌≡◌, ℕ, ◌+◌, ◌<◌, ◌≤◌, ◌⊎◌, ◌^◌, List, [], Contains, length}
use Rattle.std.specs.Prelude.{Option, Some, None, IsSome}
use Rattle.std.specs.BTreeMap.{is_at}
use Rattle.std.specs.List.{AllByRecursion}
use Rattle.std.specs.List.Sorted.{IsStrictlySortedBy}
use Rattle.std.specs.Map.{keys_of, lookup}
use Rattle.std.specs.Option.{option_map}
use Rattle.osm_model.specs.Change.{ChangeValue}
use Rattle.osm_model.specs.Content.{last_of, edits_by_user, edits_by_changeset}
use Rattle.osm_model.specs.Filter.{FilterValue, left_by}
use Rattle.osm_model.specs.KeyOrder.{key_cmp}
use Rattle.osm_model.specs.declared.kind.Key.{Key}
use Rattle.osm_mirror.specs.Mirror.{AreCountsAboveZero, Counted, HasNumber, IsObject, count_at}

-- a key, and what is left of its object; none if the object goes away
abbrev pub NetEntry : Type 0
NetEntry = Key × Option ChangeValue

pub record NetValue : Type 0 where
  pub objects : List NetEntry
  pub users : List Counted
  pub changesets : List Counted

-- what is left of the object with that key; none if nothing is known of it
abbrev pub net_at : List NetEntry → Key → Option (Option ChangeValue)
net_at entries k = lookup (is_at (key_cmp k)) entries

-- what is left, if anything, has the entry's key
abbrev pub HasOwnKey : NetEntry → Type 0
HasOwnKey (k, None) = Unit {0}
HasOwnKey (k, Some c) = k ≡ c.key

-- what is left, if anything, is an object within the limits
abbrev pub LeavesObject : NetEntry → Type 0
LeavesObject (k, None) = Unit {0}
LeavesObject (k, Some c) = IsObject c

-- the keys rise strictly
abbrev pub AreKeysRising : List NetEntry → Type 0
AreKeysRising entries = IsStrictlySortedBy key_cmp (keys_of entries)

-- the lists of net changes are in order, and what is left of an object has the key of its entry
pub record IsOrderlyNet (n : NetValue) : Type 0 where
  pub rising : AreKeysRising n.objects
  pub own : AllByRecursion HasOwnKey n.objects
  pub users : AreCountsAboveZero n.users
  pub changesets : AreCountsAboveZero n.changesets

-- what holds of all net changes, whatever they come from: their lists are in order, and what they
-- leave, their users and their changesets are within the limits
pub record IsNet (n : NetValue) : Type 0 where
  pub orderly : IsOrderlyNet n
  pub objects : AllByRecursion LeavesObject n.objects
  pub users : AllByRecursion HasNumber n.users
  pub changesets : AllByRecursion HasNumber n.changesets

-- the net changes are what `changes` come to: for each key that some change has, what the filter
-- keeps of what the last one leaves, and nothing for other keys; each change is counted once, kept
-- or not
pub record IsNetOf (f : FilterValue) (changes : List ChangeValue) (n : NetValue) : Type 0 where
  pub orderly : IsOrderlyNet n
  pub objects : (k : Key) → net_at n.objects k ≡ option_map (left_by f) (last_of changes k)
  pub users : (uid : ℕ) → count_at n.users uid ≡ edits_by_user changes uid
  pub changesets : (id : ℕ) → count_at n.changesets id ≡ edits_by_changeset changes id

-- what is left at a key after one more change of it, or what was left before if there is none
abbrev pub taken_at : FilterValue → Option (Option ChangeValue) → Option ChangeValue
    → Option (Option ChangeValue)
taken_at f before None = before
taken_at f before (Some c) = Some (left_by f c)

-- the new net changes are the old ones with the changes taken in order
pub record Takes (f : FilterValue) (old : NetValue) (changes : List ChangeValue) (new : NetValue)
    : Type 0 where
  pub orderly : IsOrderlyNet new
  pub objects : (k : Key) →
      net_at new.objects k ≡ taken_at f (net_at old.objects k) (last_of changes k)
  pub users : (uid : ℕ) →
      count_at new.users uid ≡ count_at old.users uid + edits_by_user changes uid
  pub changesets : (id : ℕ) →
      count_at new.changesets id ≡ count_at old.changesets id + edits_by_changeset changes id

-- the net changes of no changes
abbrev pub no_net : NetValue
no_net = record { objects = []; users = []; changesets = [] }

-- at most that many users, and as many changesets, are new
pub record WidensBy (most : ℕ) (old new : NetValue) : Type 0 where
  pub users : length new.users ≤ length old.users + most
  pub changesets : length new.changesets ≤ length old.changesets + most

-- each count has room for that many more edits
pub record HasRoomFor (more : ℕ) (n : NetValue) : Type 0 where
  pub users : (uid : ℕ) → count_at n.users uid + more < 2 ^ 64
  pub changesets : (id : ℕ) → count_at n.changesets id + more < 2 ^ 64

-- the change has a user, a changeset or a key of which nothing is known
abbrev pub IsNew : NetValue → ChangeValue → Type 0
IsNew n c =
    (count_at n.users c.meta.uid ≡ 0)
    ⊎ (count_at n.changesets c.meta.changeset ≡ 0)
    ⊎ (net_at n.objects c.key ≡ None)

-- one of the changes is new
pub record NeedsEntry (n : NetValue) (changes : List ChangeValue) : Type 0 where
  pub change : ChangeValue
  pub among : Contains changes change
  pub new : IsNew n change

-- what is left at a key after later net changes: what they say of it, or what was left before if
-- they say nothing
abbrev pub joined_at :
    Option (Option ChangeValue) → Option (Option ChangeValue) → Option (Option ChangeValue)
joined_at before None = before
joined_at before (Some left) = Some left

-- `new` is `old` with the net changes of `later` after it: an entry of `later` replaces that of its
-- key, and counts are added
pub record IsJoined (old later new : NetValue) : Type 0 where
  pub orderly : IsOrderlyNet new
  pub objects : (k : Key) →
      net_at new.objects k ≡ joined_at (net_at old.objects k) (net_at later.objects k)
  pub users : (uid : ℕ) →
      count_at new.users uid ≡ count_at old.users uid + count_at later.users uid
  pub changesets : (id : ℕ) →
      count_at new.changesets id ≡ count_at old.changesets id + count_at later.changesets id

-- each count has room for that of `later`
pub record HasRoomForAll (later n : NetValue) : Type 0 where
  pub users : (uid : ℕ) → count_at n.users uid + count_at later.users uid < 2 ^ 64
  pub changesets : (id : ℕ) →
      count_at n.changesets id + count_at later.changesets id < 2 ^ 64

-- a number has a count in `more` and none in `counts`
pub record HasNewNumber (counts more : List Counted) : Type 0 where
  pub number : ℕ
  pub new : count_at counts number ≡ 0
  pub counted : 0 < count_at more number

-- a key has an entry in `more` and none in `entries`
pub record HasNewKey (entries more : List NetEntry) : Type 0 where
  pub key : Key
  pub new : net_at entries key ≡ None
  pub there : IsSome (net_at more key)

-- `later` has a user, a changeset or a key that isn't known
abbrev pub BringsNew : NetValue → NetValue → Type 0
BringsNew old later =
    (HasNewNumber old.users later.users)
    ⊎ (HasNewNumber old.changesets later.changesets)
    ⊎ (HasNewKey old.objects later.objects)
