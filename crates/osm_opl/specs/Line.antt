-- A line of an OPL file (Osmium manual, OPL File Format): one change of one object.
use Rattle.std.specs.Prelude.{◌≡◌, ℕ, List, [], ◌∷◌, ℤ, codes}
use Rattle.osm_model.specs.Change.{ChangeValue, IsChange, AreTags, AreRefs, AreMembers}
use Rattle.osm_model.specs.Limits.{IsLongitude, IsLatitude}
use Rattle.osm_model.specs.Time.{TimeText}
use Rattle.osm_model.specs.declared.change.What.{What}
use Rattle.osm_model.specs.declared.change.What.TheVariants as whats
use Rattle.osm_model.specs.declared.kind.Kind.{Kind}
use Rattle.osm_model.specs.declared.kind.Kind.TheVariants.{Node, Way, Relation}
use Rattle.osm_model.specs.declared.lists.Member.{Member}
use Rattle.osm_model.specs.declared.lists.Tag.{Tag}
use Rattle.osm_reading.specs.declared.refusal.Refusal.{Refusal}
use Rattle.osm_reading.specs.declared.refusal.Refusal.TheVariants.{WantOfMemory, Fault}
use Rattle.osm_opl.specs.Coordinate.{SpellsCoordinate}
use Rattle.osm_opl.specs.Escape.{SpellsText}
use Rattle.osm_opl.specs.Lists.{SpellsList, SpellsTag, SpellsRef, SpellsMember, letter_of}
use Rattle.osm_opl.specs.Number.{SpellsNumber, SpellsId}
use Rattle.osm_reading.specs.Pieces.{joined}

-- `V` if the object is visible, and `D` if it is deleted
abbrev pub status_text : What → List ℕ
status_text whats.Deleted = codes "D"
status_text what = codes "V"

-- nothing, or a coordinate within its limits
pub data MayBeCoordinate (Limits : ℤ → Type 0) : List ℕ → Type 0 where
  absent : MayBeCoordinate Limits []
  given : (bytes : List ℕ) (units : ℤ) → SpellsCoordinate bytes units → Limits units
      → MayBeCoordinate Limits bytes

-- the fields after the user: `T.. x.. y..` of a node, `T.. N..` of a way, `T.. M..` of a relation.
-- Those of a deletion have to meet the grammar and the limits too, but say nothing.
pub data SpellsWhat : Kind → List (List ℕ) → What → Type 0 where
  node : (t x y : List ℕ) (tags : List Tag) (lon lat : ℤ)
      → SpellsList SpellsTag t tags → SpellsCoordinate x lon → SpellsCoordinate y lat
      → SpellsWhat Node ((84 ∷ t) ∷ (120 ∷ x) ∷ (121 ∷ y) ∷ []) (whats.Node lon lat tags)
  way : (t n : List ℕ) (tags : List Tag) (refs : List ℤ)
      → SpellsList SpellsTag t tags → SpellsList SpellsRef n refs
      → SpellsWhat Way ((84 ∷ t) ∷ (78 ∷ n) ∷ []) (whats.Way refs tags)
  relation : (t m : List ℕ) (tags : List Tag) (members : List Member)
      → SpellsList SpellsTag t tags → SpellsList SpellsMember m members
      → SpellsWhat Relation ((84 ∷ t) ∷ (77 ∷ m) ∷ []) (whats.Relation members tags)
  deleted_node : (t x y : List ℕ) (tags : List Tag)
      → SpellsList SpellsTag t tags → AreTags tags
      → MayBeCoordinate IsLongitude x → MayBeCoordinate IsLatitude y
      → SpellsWhat Node ((84 ∷ t) ∷ (120 ∷ x) ∷ (121 ∷ y) ∷ []) whats.Deleted
  deleted_way : (t n : List ℕ) (tags : List Tag) (refs : List ℤ)
      → SpellsList SpellsTag t tags → AreTags tags
      → SpellsList SpellsRef n refs → AreRefs refs
      → SpellsWhat Way ((84 ∷ t) ∷ (78 ∷ n) ∷ []) whats.Deleted
  deleted_relation : (t m : List ℕ) (tags : List Tag) (members : List Member)
      → SpellsList SpellsTag t tags → AreTags tags
      → SpellsList SpellsMember m members → AreMembers members
      → SpellsWhat Relation ((84 ∷ t) ∷ (77 ∷ m) ∷ []) whats.Deleted

-- `nID vVERSION dV cCHANGESET tTIME iUID uUSER` and the fields of what the object is, joined by
-- single spaces: a change within the limits
pub record SpellsLine (line : List ℕ) (change : ChangeValue) : Type 0 where
  pub id_text : List ℕ
  pub version_text : List ℕ
  pub changeset_text : List ℕ
  pub time_text : List ℕ
  pub uid_text : List ℕ
  pub user_text : List ℕ
  pub fields : List (List ℕ)
  pub parts : line ≡ joined 32 (
      (letter_of change.key.kind ∷ id_text) ∷ (118 ∷ version_text) ∷ (100 ∷ status_text change.what)
      ∷ (99 ∷ changeset_text) ∷ (116 ∷ time_text) ∷ (105 ∷ uid_text) ∷ (117 ∷ user_text) ∷ fields)
  pub id : SpellsId id_text change.key.id
  pub version : SpellsNumber version_text change.meta.version
  pub changeset : SpellsNumber changeset_text change.meta.changeset
  pub time : TimeText time_text change.meta.time
  pub uid : SpellsNumber uid_text change.meta.uid
  pub user : SpellsText user_text change.meta.user
  pub what : SpellsWhat change.key.kind fields change.what
  pub limits : IsChange change

-- a line is refused with a fault only if it spells no change
abbrev pub LineStops : List ℕ → Refusal → Type 0
LineStops line WantOfMemory = Unit {0}
LineStops line (Fault why) = (change : ChangeValue) → SpellsLine line change → ⊥
