-- What is left of objects that changed, each under its key, as a mirror of its own.
use Rattle.std.specs.Prelude.{List, [], ◌∷◌, ◌++◌, Option, Some, None}
use Rattle.osm_model.specs.Change.{ChangeValue}
use Rattle.osm_model.specs.declared.kind.Key.{Key}
use Rattle.osm_mirror.specs.Mirror.{Counted, MirrorValue}

-- what is left of one object: itself, or nothing
abbrev pub left_of : Option ChangeValue → List ChangeValue
left_of None = []
left_of (Some c) = c ∷ []

-- the objects that are left, in their order
abbrev pub left_in : List (Key × Option ChangeValue) → List ChangeValue
left_in [] = []
left_in (e ∷ entries) = left_of e.1 ++ left_in entries

-- the mirror that has these objects and counts
abbrev pub mirror_left : List (Key × Option ChangeValue) → List Counted → List Counted → MirrorValue
mirror_left entries users changesets = record {
  objects = left_in entries;
  users = users;
  changesets = changesets;
}
