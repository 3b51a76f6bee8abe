-- Lists in a line: items joined by commas (Osmium manual, OPL File Format).
use Rattle.std.specs.Prelude.{◌≡◌, ℕ, List, [], ◌∷◌, ◌++◌, ℤ}
use Rattle.osm_model.specs.declared.kind.Kind.{Kind}
use Rattle.osm_model.specs.declared.kind.Kind.TheVariants.{Node, Way, Relation}
use Rattle.osm_model.specs.declared.lists.Member.{Member}
use Rattle.osm_model.specs.declared.lists.Tag.{Tag}
use Rattle.osm_opl.specs.Escape.{SpellsText}
use Rattle.osm_opl.specs.Number.{SpellsId}
use Rattle.osm_reading.specs.Pieces.{joined}

-- each of the pieces spells the item of the same index
pub data Each {X : Type 0} (Spells : List ℕ → X → Type 0) : List (List ℕ) → List X → Type 0 where
  none : Each Spells [] []
  item : (p : List ℕ) (ps : List (List ℕ)) (x : X) (xs : List X) → Spells p x → Each Spells ps xs
      → Each Spells (p ∷ ps) (x ∷ xs)

-- nothing for the empty list, otherwise the items joined by commas
pub data SpellsList {X : Type 0} (Spells : List ℕ → X → Type 0) : List ℕ → List X → Type 0 where
  empty : SpellsList Spells [] []
  items : (p : List ℕ) (ps : List (List ℕ)) (xs : List X) → Each Spells (p ∷ ps) xs
      → SpellsList Spells (joined 44 (p ∷ ps)) xs

-- `n`, `w` or `r`
abbrev pub letter_of : Kind → ℕ
letter_of Node = 110
letter_of Way = 119
letter_of Relation = 114

-- `KEY=VALUE`
pub record SpellsTag (bytes : List ℕ) (t : Tag) : Type 0 where
  pub before : List ℕ
  pub after : List ℕ
  pub parts : bytes ≡ before ++ 61 ∷ after
  pub key : SpellsText before t.key
  pub value : SpellsText after t.value

-- `nID`
pub record SpellsRef (bytes : List ℕ) (id : ℤ) : Type 0 where
  pub digits : List ℕ
  pub parts : bytes ≡ 110 ∷ digits
  pub spells : SpellsId digits id

-- `nID@ROLE`, `wID@ROLE` or `rID@ROLE`
pub record SpellsMember (bytes : List ℕ) (m : Member) : Type 0 where
  pub before : List ℕ
  pub after : List ℕ
  pub parts : bytes ≡ letter_of m.key.kind ∷ before ++ 64 ∷ after
  pub id : SpellsId before m.key.id
  pub role : SpellsText after m.role
