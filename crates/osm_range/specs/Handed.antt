-- The changes that are handed on: of each object that a list of changes changes its last change
-- (Osmium manual, osmium-merge-changes: `--simplify`). In place of what a filter doesn't keep comes
-- a deletion, so that who has the objects of the filter drops those that it no longer keeps (our
-- choice).
use Rattle.std.specs.Prelude.{◌≡◌, List, Option, Some, None, if◌then◌else◌}
use Rattle.std.specs.Option.{option_map}
use Rattle.osm_model.specs.Change.{ChangeValue}
use Rattle.osm_model.specs.Content.{last_of}
use Rattle.osm_model.specs.Filter.{FilterValue, keeps}
use Rattle.osm_model.specs.declared.change.What.TheVariants.{Deleted}
use Rattle.osm_model.specs.declared.kind.Key.{Key}
use Rattle.osm_mirror.specs.Mirror.{AreRising, object_at}
use Rattle.osm_publisher.specs.Published.{PublishedValue}
use Rattle.osm_range.specs.Ranges.{changes_in}

-- the deletion of a change's object, with the metadata of that change
abbrev pub deletion_by : ChangeValue → ChangeValue
deletion_by c = record { key = c.key; meta = c.meta; what = Deleted }

-- a change under a filter: the change, if the filter keeps what it leaves, otherwise the deletion
abbrev pub under : FilterValue → ChangeValue → ChangeValue
under f c = if keeps f c then c else deletion_by c

-- what changes come to under a filter: one change for each key that some change has, the last one
-- under the filter, by rising keys
pub record ComeTo (f : FilterValue) (changes handed : List ChangeValue) : Type 0 where
  pub rising : AreRising handed
  pub each : (k : Key) → last_of handed k ≡ option_map (under f) (last_of changes k)

-- what is known of an object after one more change, or what was known before if there is none
abbrev pub taken_at : FilterValue → Option ChangeValue → Option ChangeValue → Option ChangeValue
taken_at f before None = before
taken_at f before (Some c) = Some (under f c)

-- the new changes are the old ones with these taken in order
abbrev pub Takes : FilterValue → List ChangeValue → List ChangeValue → List ChangeValue → Type 0
Takes f old changes new =
    (k : Key) → object_at new k ≡ taken_at f (object_at old k) (last_of changes k)

-- the changes are what those of the sequences come to, object by object
abbrev pub HoldsUnder : FilterValue → List PublishedValue → List ChangeValue → Type 0
HoldsUnder f sequences latest =
    (k : Key) → object_at latest k ≡ option_map (under f) (last_of (changes_in sequences) k)
