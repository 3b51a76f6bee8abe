-- Lines of objects that are taken apart: what such a line says of its object. No text in it has an
-- escape, so that each is spelled as it is.
use Rattle.std.specs.Prelude.{◌≡◌, ℕ, List, [], ◌∷◌, Option, None, Some, ℤ, ⊤}
use Rattle.std.specs.Borrow.{Bor}
use Rattle.std.specs.List.{AllByRecursion}
use Rattle.osm_model.specs.Change.{ChangeValue, HasMemberId, IsChange}
use Rattle.osm_model.specs.Data.{IsLeft}
use Rattle.osm_model.specs.Filter.{tags_of}
use Rattle.osm_model.specs.Limits.{IsId}
use Rattle.osm_model.specs.Lists.{IsRole, IsTag}
use Rattle.osm_model.specs.Meta.{MetaValue}
use Rattle.osm_model.specs.declared.change.What.{What}
use Rattle.osm_model.specs.declared.change.What.TheVariants as whats
use Rattle.osm_model.specs.declared.kind.Key.{Key}
use Rattle.osm_model.specs.declared.lists.Member.{Member}
use Rattle.osm_model.specs.declared.lists.Tag.{Tag}
use Rattle.osm_reading.specs.Pieces.{Lacks}
use Rattle.osm_opl.specs.Written.{items_text, line_text, member_text, ref_text, tag_text}
use Rattle.osm_opl.specs.declared.flat_parts.FlatLine.{FlatLine}
use Rattle.osm_opl.specs.declared.flat_parts.FlatWhat.{FlatWhat}
use Rattle.osm_opl.specs.declared.flat_parts.FlatWhat.TheVariants as flats
use Rattle.osm_opl.specs.declared.flat_parts.Numbers.{Numbers}

-- no escape is among the bytes
abbrev pub IsBare : List ℕ → Type 0
IsBare = Lacks 37

-- a member within the limits
pub record IsMember (m : Member) : Type 0 where
  pub id : HasMemberId m
  pub role : IsRole m

-- the bytes are what is written of these items, which are within the limits, and have no escapes
pub record AreFlat {X : Type 0} (text : X → List ℕ) (Limits : X → Type 0) (bytes : List ℕ)
    (items : List X) : Type 0 where
  pub limits : AllByRecursion Limits items
  pub list : bytes ≡ items_text text items
  pub bare : IsBare bytes

abbrev pub AreFlatTags : List ℕ → List Tag → Type 0
AreFlatTags = AreFlat tag_text IsTag

abbrev pub AreFlatRefs : List ℕ → List ℤ → Type 0
AreFlatRefs = AreFlat ref_text IsId

abbrev pub AreFlatMembers : List ℕ → List Member → Type 0
AreFlatMembers = AreFlat member_text IsMember

-- what a line says of what its object is, beside the tags
abbrev pub IsFlatWhat : FlatWhat → What → Type 0
IsFlatWhat (flats.Node lon lat) (whats.Node x y tags) = (lon ≡ x) × (lat ≡ y)
IsFlatWhat (flats.Way refs) (whats.Way ids tags) = AreFlatRefs refs.now ids
IsFlatWhat (flats.Relation spelled) (whats.Relation members tags) =
    AreFlatMembers spelled.now members
IsFlatWhat flat what = ⊥

-- metadata of these numbers and that user
abbrev pub meta_of : Numbers → List ℕ → MetaValue
meta_of n user = record {
  version = n.version;
  time = n.time;
  changeset = n.changeset;
  uid = n.uid;
  user = user;
}

-- the object of which a line says this, if it is that
abbrev pub flat_object : FlatLine → What → ChangeValue
flat_object flat what =
    record { key = flat.key; meta = meta_of flat.numbers flat.user.now; what = what }

-- the line is what is written of an object within the limits, and says this of it
pub record IsFlat (line : List ℕ) (flat : FlatLine) : Type 0 where
  pub what : What
  pub limits : IsChange (flat_object flat what)
  pub left : IsLeft (flat_object flat what)
  pub text : line ≡ line_text (flat_object flat what)
  pub tagged : AreFlatTags flat.tags.now (tags_of what)
  pub same : IsFlatWhat flat.what what

-- what comes after an item: the others, or nothing if there are none
abbrev pub IsRest : {X : Type 0} → (List ℕ → List X → Type 0) → List X → Option (Bor (List ℕ))
    → Type 0
IsRest Are [] None = ⊤
IsRest Are (x ∷ xs) (Some rest) = Are rest.now (x ∷ xs)
IsRest Are items rest = ⊥

-- the first tag, and those after it
pub record IsFirstTag (tag : Tag) (more : List Tag) (key value : List ℕ)
    (rest : Option (Bor (List ℕ))) : Type 0 where
  pub named : key ≡ tag.key
  pub valued : value ≡ tag.value
  pub left : IsRest AreFlatTags more rest

-- the first node, and those after it
pub record IsFirstRef (id : ℤ) (more : List ℤ) (found : ℤ) (rest : Option (Bor (List ℕ)))
    : Type 0 where
  pub here : found ≡ id
  pub left : IsRest AreFlatRefs more rest

-- the first member, and those after it
pub record IsFirstMember (member : Member) (more : List Member) (key : Key) (role : List ℕ)
    (rest : Option (Bor (List ℕ))) : Type 0 where
  pub named : key ≡ member.key
  pub roled : role ≡ member.role
  pub left : IsRest AreFlatMembers more rest
