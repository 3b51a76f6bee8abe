-- Spellings that are as short as they can be: every number in its fewest bytes, every string by the
-- least number that names it or else in line, every difference exact, and a reset exactly before an
-- object whose kind differs from that of the object before it.
use Rattle.std.specs.Prelude.{◌≡◌, ◌≢◌, ℕ, ◌<◌, ◌≤◌, List, [], ◌∷◌, length, Option, Some, None}
use Rattle.std.specs.Prelude.{Bool, true, false, ℤ, ◌-ℤ◌}
use Rattle.osm_model.specs.Change.{ChangeValue}
use Rattle.osm_model.specs.Meta.{MetaValue}
use Rattle.osm_model.specs.declared.kind.Kind.{Kind}
use Rattle.osm_model.specs.declared.change.What.{What}
use Rattle.osm_model.specs.declared.change.What.TheVariants.{Node, Way, Relation, Deleted}
use Rattle.osm_model.specs.declared.lists.Member.{Member}
use Rattle.osm_model.specs.declared.lists.Tag.{Tag}
use Rattle.osm_o5c.specs.Number.{SpellsNumber, zigzag}
use Rattle.osm_o5c.specs.Entries.{SpellsPair, in_line, reference, SpellsSingle}
use Rattle.osm_o5c.specs.Entries.{in_line_single, reference_single, entries_of, named}
use Rattle.osm_o5c.specs.Context.{Context, total, IsWrapped, SpellsSum, SpellsWrapped}
use Rattle.osm_o5c.specs.Many.{SpellsMany, none, more}
use Rattle.osm_o5c.specs.Object.{SpellsMeta, SpellsTags, SpellsRefs}
use Rattle.osm_o5c.specs.Object.{SpellsMember, SpellsMembers, SpellsNode, SpellsWay}
use Rattle.osm_o5c.specs.Object.{SpellsRelation, SpellsWhat, SpellsObject}
use Rattle.osm_o5c.specs.File.{Dataset, object, skipped, lone, reset, Front, begin, next}
use Rattle.osm_o5c.specs.File.{SpellsFile}
use Rattle.osm_o5c.specs.Written.{is_other}
use Rattle.osm_o5c.specs.declared.strings.Entry.{Entry}
use Rattle.osm_o5c.specs.declared.strings.Entry.TheVariants.{Pair, Single}

-- no other spelling of the unsigned number has fewer bytes
abbrev pub IsFewest : List ℕ → ℕ → Type 0
IsFewest bytes n = (other : List ℕ) → SpellsNumber other n → length bytes ≤ length other

-- no other spelling of the signed number has fewer bytes
abbrev pub IsFewestSigned : List ℕ → ℤ → Type 0
IsFewestSigned bytes v = IsFewest bytes (zigzag v)

-- k is the least number that names the entry
abbrev pub IsLeastName : List Entry → ℕ → Entry → Type 0
IsLeastName strings k e = (j : ℕ) → j < k → named (entries_of strings) j ≢ Some e

-- no number names the entry
abbrev pub HasNoName : List Entry → Entry → Type 0
HasNoName strings e = (k : ℕ) → named (entries_of strings) k ≢ Some e

-- a pair in line that no number names, or the least number that names it, in its fewest bytes
abbrev pub IsShortestPair : {strings : List Entry} {bytes first second : List ℕ}
    {after : List Entry} → SpellsPair strings bytes first second after → Type 0
IsShortestPair (in_line strings first second f s) = HasNoName strings (Pair first second)
IsShortestPair (reference strings bytes k first second n is) =
    IsFewest bytes k × IsLeastName strings k (Pair first second)

-- a single string in line that no number names, or the least number that names it, in its fewest
-- bytes
abbrev pub IsShortestSingle : {strings : List Entry} {bytes text : List ℕ} {after : List Entry}
    → SpellsSingle strings bytes text after → Type 0
IsShortestSingle (in_line_single strings text t) = HasNoName strings (Single text)
IsShortestSingle (reference_single strings bytes k text n is) =
    IsFewest bytes k × IsLeastName strings k (Single text)

-- a difference in its fewest bytes
abbrev pub IsShortestSum : {before : List ℤ} {bytes : List ℕ} {sum : ℤ} {after : List ℤ}
    → SpellsSum before bytes sum after → Type 0
IsShortestSum {before} {bytes} s = IsFewestSigned bytes s.difference

-- a difference of a longitude or latitude in its fewest bytes: the value minus the one before it,
-- not a number that differs from that by a multiple of 2^32
abbrev pub IsShortestWrapped : {before : List ℤ} {bytes : List ℕ} {value : ℤ} {after : List ℤ}
    → SpellsWrapped before bytes value after → Type 0
IsShortestWrapped {before} {bytes} {value} s =
    IsFewestSigned bytes s.difference
    × ((last : ℤ) → IsWrapped last (total before) → s.difference ≡ value -ℤ last)

-- each part of a list is a shortest one
abbrev pub AllParts : {State A : Type 0} {spells : State → List ℕ → A → State → Type 0}
    (IsShortest : (s : State) (bytes : List ℕ) (x : A) (t : State) → spells s bytes x t → Type 0)
    {s : State} {bytes : List ℕ} {xs : List A} {after : State}
    → SpellsMany spells s bytes xs after → Type 0
AllParts IsShortest (none s) = Unit {0}
AllParts IsShortest (more s one x t rest xs after first others) =
    IsShortest s one x t first × AllParts IsShortest others

abbrev pub AreShortestTags : {strings : List Entry} {bytes : List ℕ} {tags : List Tag}
    {after : List Entry} → SpellsTags strings bytes tags after → Type 0
AreShortestTags tags = AllParts (λ s bytes x t spells. IsShortestPair spells) tags

abbrev pub AreShortestRefs : {before : List ℤ} {bytes : List ℕ} {refs : List ℤ}
    {after : List ℤ} → SpellsRefs before bytes refs after → Type 0
AreShortestRefs refs = AllParts (λ s bytes x t spells. IsShortestSum spells) refs

-- the fields of the metadata, and the number in the first string of the user
abbrev pub IsShortestMeta : {C : Context} {bytes : List ℕ} {m : MetaValue} {after : Context}
    → SpellsMeta C bytes m after → Type 0
IsShortestMeta {C} {bytes} {m} s =
    IsFewest s.version_bytes m.version × IsShortestSum s.time × IsShortestSum s.changeset
    × IsShortestPair s.user.pair × IsFewest s.user.first m.uid

abbrev pub IsShortestMember : {C : Context} {bytes : List ℕ} {m : Member} {after : Context}
    → SpellsMember C bytes m after → Type 0
IsShortestMember s = IsShortestSum s.id × IsShortestSingle s.role

abbrev pub AreShortestMembers : {C : Context} {bytes : List ℕ} {members : List Member}
    {after : Context} → SpellsMembers C bytes members after → Type 0
AreShortestMembers members = AllParts (λ s bytes x t spells. IsShortestMember spells) members

abbrev pub IsShortestNode : {C : Context} {bytes : List ℕ} {lon lat : ℤ} {tags : List Tag}
    {after : Context} → SpellsNode C bytes lon lat tags after → Type 0
IsShortestNode s =
    IsShortestWrapped s.longitude × IsShortestWrapped s.latitude × AreShortestTags s.tags_are

abbrev pub IsShortestWay : {C : Context} {bytes : List ℕ} {refs : List ℤ} {tags : List Tag}
    {after : Context} → SpellsWay C bytes refs tags after → Type 0
IsShortestWay s =
    IsFewest s.length_bytes (length s.part) × AreShortestRefs s.refs_are
    × AreShortestTags s.tags_are

abbrev pub IsShortestRelation : {C : Context} {bytes : List ℕ} {members : List Member}
    {tags : List Tag} {after : Context} → SpellsRelation C bytes members tags after → Type 0
IsShortestRelation s =
    IsFewest s.length_bytes (length s.part) × AreShortestMembers s.members_are
    × AreShortestTags s.tags_are

abbrev pub IsShortestWhat : (kind : Kind) (C : Context) (bytes : List ℕ) (what : What)
    (after : Context) → SpellsWhat kind C bytes what after → Type 0
IsShortestWhat kind C bytes (Node lon lat tags) after s = IsShortestNode s.1
IsShortestWhat kind C bytes (Way refs tags) after s = IsShortestWay s.1
IsShortestWhat kind C bytes (Relation members tags) after s = IsShortestRelation s.1
IsShortestWhat kind C bytes Deleted after s = Unit {0}

abbrev pub IsShortestObject : {C : Context} {bytes : List ℕ} {c : ChangeValue} {after : Context}
    → SpellsObject C bytes c after → Type 0
IsShortestObject {C} {bytes} {c} {after} s =
    IsShortestSum s.id × IsShortestMeta s.meta
    × IsShortestWhat c.key.kind s.then s.what_bytes c.what after s.what

-- the kind of the last change, if there is one
abbrev pub last_kind : List ChangeValue → Option Kind
last_kind [] = None
last_kind (c ∷ []) = Some c.key.kind
last_kind (c ∷ d ∷ cs) = last_kind (d ∷ cs)

-- whether the last dataset of a valid prefix is a reset
abbrev pub is_reset : {C : Context} {bytes : List ℕ} {found : Option ChangeValue}
    {after : Context} → Dataset C bytes found after → Bool
is_reset (object C length_bytes content c after n s) = false
is_reset (skipped C kind length_bytes content k other n) = false
is_reset (lone C kind low high) = false
is_reset (reset C) = true

abbrev pub ends_in_reset : {start : List ℕ} {Limits : List ChangeValue → Type 0}
    {bytes : List ℕ} {C : Context} {changes : List ChangeValue}
    → Front start Limits bytes C changes → Bool
ends_in_reset begin = false
ends_in_reset (next prefix C changes dataset found after f s right) = is_reset s

-- a dataset of a shortest file, after these changes, directly after a reset or not: an object,
-- which follows a reset exactly if its kind differs from that of the last change; or a reset, which
-- never follows another
abbrev pub IsShortestDataset : List ChangeValue → Bool
    → {C : Context} {bytes : List ℕ} {found : Option ChangeValue} {after : Context}
    → Dataset C bytes found after → Type 0
IsShortestDataset changes after_reset (object C length_bytes content c after n s) =
    IsFewest length_bytes (length content) × IsShortestObject s
    × (after_reset ≡ is_other (last_kind changes) c.key.kind)
IsShortestDataset changes after_reset (skipped C kind length_bytes content k other n) = ⊥
IsShortestDataset changes after_reset (lone C kind low high) = ⊥
IsShortestDataset changes after_reset (reset C) = after_reset ≡ false

abbrev pub IsShortestFront : {start : List ℕ} {Limits : List ChangeValue → Type 0}
    {bytes : List ℕ} {C : Context} {changes : List ChangeValue}
    → Front start Limits bytes C changes → Type 0
IsShortestFront begin = Unit {0}
IsShortestFront (next prefix C changes dataset found after f s right) =
    IsShortestFront f × IsShortestDataset changes (ends_in_reset f) s

-- a spelling of changes as they are written: no dataset is skipped, and the last one isn't a reset
abbrev pub IsShortest : {start : List ℕ} {Limits : List ChangeValue → Type 0}
    {bytes : List ℕ} {changes : List ChangeValue} → SpellsFile start Limits bytes changes → Type 0
IsShortest s = IsShortestFront s.is_front × (ends_in_reset s.is_front ≡ false)
