-- What a list of changes leaves of the objects, and how many edits it is: a mirror and its counts
-- are these of the changes that were applied (OSM wiki, Planet.osm/diffs: a change file is applied
-- in its order, and the last change of an object counts).
use Rattle.std.specs.Prelude.{ℕ, ◌==◌, List, [], ◌∷◌, Option, Some, None, if◌then◌else◌, count_by}
use Rattle.osm_model.specs.Change.{ChangeValue}
use Rattle.osm_model.specs.KeyOrder.{same_key}
use Rattle.osm_model.specs.declared.kind.Key.{Key}
use Rattle.osm_model.specs.declared.change.What.{What}
use Rattle.osm_model.specs.declared.change.What.TheVariants.{Deleted}

-- the later of two changes, if there is one
abbrev pub later_of : Option ChangeValue → Option ChangeValue → Option ChangeValue
later_of first None = first
later_of first (Some c) = Some c

-- the last change of the list with that key
abbrev pub last_of : List ChangeValue → Key → Option ChangeValue
last_of [] k = None
last_of (c ∷ cs) k = later_of (if same_key c.key k then Some c else None) (last_of cs k)

-- what is left of an object after a change: nothing after a deletion
abbrev pub object_as : ChangeValue → What → Option ChangeValue
object_as c Deleted = None
object_as c what = Some c

abbrev pub object_after : ChangeValue → Option ChangeValue
object_after c = object_as c c.what

-- what a change leaves of its object: `object_after`, or what a filter keeps of that
abbrev pub Leaving : Type 0
Leaving = ChangeValue → Option ChangeValue

-- what the last change leaves, or what was there before if there is no change
abbrev pub over_at : Leaving → Option ChangeValue → Option ChangeValue → Option ChangeValue
over_at left before None = before
over_at left before (Some c) = left c

-- the objects after the changes, over what was there before them
abbrev pub over :
    Leaving → (Key → Option ChangeValue) → List ChangeValue → Key → Option ChangeValue
over left before changes k = over_at left (before k) (last_of changes k)

-- no object
abbrev pub nothing : Key → Option ChangeValue
nothing k = None

-- the objects that a list of changes leaves
abbrev pub content_of : List ChangeValue → Key → Option ChangeValue
content_of changes = over object_after nothing changes

-- the edits of a user in a list of changes: deletions and overwritten versions count
abbrev pub edits_by_user : List ChangeValue → ℕ → ℕ
edits_by_user changes uid = count_by (λ c. c.meta.uid == uid) changes

-- the edits of a changeset in a list of changes
abbrev pub edits_by_changeset : List ChangeValue → ℕ → ℕ
edits_by_changeset changes id = count_by (λ c. c.meta.changeset == id) changes
