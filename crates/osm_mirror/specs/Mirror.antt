-- A mirror: the objects that aren't deleted, and the edits counted by user and by changeset, as
-- sorted lists.
use Rattle.std.specs.Prelude.{◌≡◌, ℕ, ◌+◌, ◌<◌, ◌≤◌, ◌⊎◌, List, [], ◌∷◌, ◌++◌, length, map}
use Rattle.std.specs.Prelude.{Option, Some, None, IsSome, if◌then◌else◌, unwrap_or}
use Rattle.std.specs.BTreeMap.{is_at}
use Rattle.std.specs.List.{AllByRecursion}
use Rattle.std.specs.List.Sorted.{IsStrictlySortedBy}
use Rattle.std.specs.Map.{lookup}
use Rattle.std.specs.Ordering.{nat_cmp}
use Rattle.osm_model.specs.Change.{ChangeValue, IsChange}
use Rattle.osm_model.specs.Content.{content_of, over, object_after}
use Rattle.osm_model.specs.Filter.{AreKept, FilterValue, kept, left_by}
use Rattle.osm_model.specs.Content.{edits_by_user, edits_by_changeset}
use Rattle.osm_model.specs.KeyOrder.{key_cmp, same_key}
use Rattle.osm_model.specs.Limits.{IsPositive}
use Rattle.osm_model.specs.declared.kind.Key.{Key}

-- a number with its count of edits
abbrev pub Counted : Type 0
Counted = ℕ × ℕ

pub record MirrorValue : Type 0 where
  pub objects : List ChangeValue
  pub users : List Counted
  pub changesets : List Counted

-- the object with that key in a list
abbrev pub object_at : List ChangeValue → Key → Option ChangeValue
object_at [] k = None
object_at (c ∷ cs) k = if same_key k c.key then Some c else object_at cs k

-- the count of that number in a list: 0 if it has none
abbrev pub count_at : List Counted → ℕ → ℕ
count_at counts n = unwrap_or (lookup (is_at (nat_cmp n)) counts) 0

-- the keys rise strictly
abbrev pub AreRising : List ChangeValue → Type 0
AreRising objects = IsStrictlySortedBy key_cmp (map (λ c. c.key) objects)

-- a count is above 0
abbrev pub IsAboveZero : Counted → Type 0
IsAboveZero e = 0 < e.1

-- the numbers rise strictly, and no count is 0
pub record AreCountsAboveZero (counts : List Counted) : Type 0 where
  pub rising : IsStrictlySortedBy nat_cmp (map (λ e. e.0) counts)
  pub above : AllByRecursion IsAboveZero counts

-- the lists of a mirror are in order
pub record IsOrderly (m : MirrorValue) : Type 0 where
  pub objects : AreRising m.objects
  pub users : AreCountsAboveZero m.users
  pub changesets : AreCountsAboveZero m.changesets

-- an object within the limits that isn't deleted
pub record IsObject (c : ChangeValue) : Type 0 where
  pub limits : IsChange c
  pub is_left : object_after c ≡ Some c

-- a user id or a changeset within the limits
abbrev pub HasNumber : Counted → Type 0
HasNumber e = IsPositive e.0

-- what holds of every mirror, whatever changes were applied: its lists are in order, no object is a
-- deletion, and its objects, users and changesets are within the limits
pub record IsMirror (m : MirrorValue) : Type 0 where
  pub orderly : IsOrderly m
  pub objects : AllByRecursion IsObject m.objects
  pub users : AllByRecursion HasNumber m.users
  pub changesets : AllByRecursion HasNumber m.changesets

-- the mirror has exactly what the filter keeps of the objects that `changes` leave, and counts
-- exactly the edits of `counted`, whatever the filter keeps
pub record IsMirrorOf (f : FilterValue) (changes counted : List ChangeValue) (m : MirrorValue)
    : Type 0 where
  pub orderly : IsOrderly m
  pub objects : (k : Key) → object_at m.objects k ≡ kept f (content_of changes) k
  pub users : (uid : ℕ) → count_at m.users uid ≡ edits_by_user counted uid
  pub changesets : (id : ℕ) → count_at m.changesets id ≡ edits_by_changeset counted id

-- the new mirror is the old one with the changes applied in order, each counted once, and each
-- leaving only what the filter keeps
pub record Applies (f : FilterValue) (old : MirrorValue) (changes : List ChangeValue)
    (new : MirrorValue) : Type 0 where
  pub orderly : IsOrderly new
  pub objects : (k : Key) →
      object_at new.objects k ≡ over (left_by f) (object_at old.objects) changes k
  pub users : (uid : ℕ) →
      count_at new.users uid ≡ count_at old.users uid + edits_by_user changes uid
  pub changesets : (id : ℕ) →
      count_at new.changesets id ≡ count_at old.changesets id + edits_by_changeset changes id

-- the change needs a new entry for its user or its changeset, or it is kept and needs one for its
-- key
abbrev pub NeedsNewEntry :
    FilterValue → MirrorValue → List ChangeValue → ChangeValue → Type 0
NeedsNewEntry f m before c =
    (count_at m.users c.meta.uid ≡ 0)
    ⊎ (count_at m.changesets c.meta.changeset ≡ 0)
    ⊎ ((left_by f c ≡ Some c) × (over (left_by f) (object_at m.objects) before c.key ≡ None))

-- some change needs a new entry, after those before it
pub record NeedsMemory (f : FilterValue) (m : MirrorValue) (changes : List ChangeValue)
    : Type 0 where
  pub before : List ChangeValue
  pub change : ChangeValue
  pub after : List ChangeValue
  pub is : changes ≡ before ++ change ∷ after
  pub entry : NeedsNewEntry f m before change

-- the user and the changeset of the change already have edits
pub record IsByKnown (m : MirrorValue) (c : ChangeValue) : Type 0 where
  pub user : 0 < count_at m.users c.meta.uid
  pub changeset : 0 < count_at m.changesets c.meta.changeset

-- such a change that leaves nothing, as a deletion does, or a change that the filter doesn't keep:
-- it needs no new entry
pub record IsKnownRemoval (f : FilterValue) (m : MirrorValue) (c : ChangeValue) : Type 0 where
  pub known : IsByKnown m c
  pub removes : left_by f c ≡ None

-- such a change that is kept and edits an object of the mirror: it needs none either
pub record IsKnownEdit (f : FilterValue) (m : MirrorValue) (c : ChangeValue) : Type 0 where
  pub known : IsByKnown m c
  pub edits : left_by f c ≡ Some c
  pub there : IsSome (object_at m.objects c.key)

-- a mirror that was kept by a filter stays so
abbrev pub StaysKept : Type 0
StaysKept = (f : FilterValue) (a b : MirrorValue) (changes : List ChangeValue)
    → AreKept f a.objects → Applies f a changes b → AreKept f b.objects

-- such a mirror, with changes applied, has what the filter keeps of all that the changes leave over
-- it
abbrev pub KeepsWhatIsLeft : Type 0
KeepsWhatIsLeft = (f : FilterValue) (a b : MirrorValue) (changes : List ChangeValue) (k : Key)
    → AreKept f a.objects → Applies f a changes b
    → object_at b.objects k ≡ kept f (over object_after (object_at a.objects) changes) k

-- the empty mirror
abbrev pub no_mirror : MirrorValue
no_mirror = record { objects = []; users = []; changesets = [] }

-- a mirror that isn't empty
abbrev pub HoldsSome : MirrorValue → Type 0
HoldsSome m = 0 < length m.objects + length m.users + length m.changesets

-- every count, and the number of users and of changesets, is at most `most`
pub record IsWithin (most : ℕ) (m : MirrorValue) : Type 0 where
  pub users : length m.users ≤ most
  pub changesets : length m.changesets ≤ most
  pub user_counts : (uid : ℕ) → count_at m.users uid ≤ most
  pub changeset_counts : (id : ℕ) → count_at m.changesets id ≤ most
