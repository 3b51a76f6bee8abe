-- The parts of an object that are lists.
use Rattle.osm_model.specs.Text.{IsText}
use Rattle.osm_model.specs.declared.lists.Member.{Member}
use Rattle.osm_model.specs.declared.lists.Tag.{Tag}

-- a tag of two texts
pub record IsTag (t : Tag) : Type 0 where
  pub key : IsText t.key
  pub value : IsText t.value

-- a member's role is a text
abbrev pub IsRole : Member → Type 0
IsRole m = IsText m.role
