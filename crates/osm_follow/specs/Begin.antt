-- How a follower begins with the objects of a mirror and the state of its sequence.
use Rattle.std.specs.Prelude.{◌≡◌, ◌<◌, List, [], false, Some, Result, Ok, Err, filter}
use Rattle.osm_model.specs.Change.{ChangeValue}
use Rattle.osm_model.specs.Data.{IsData, IsFirstFault}
use Rattle.osm_model.specs.Filter.{FilterValue, keeps}
use Rattle.osm_state.specs.State.{StateValue}
use Rattle.osm_follow.specs.Follower.{FollowerValue}
use Rattle.osm_follow.specs.declared.begin.BeginError.{BeginError}
use Rattle.osm_follow.specs.declared.begin.BeginError.TheVariants.{BadSequence, NotData}
use Rattle.osm_follow.specs.declared.begin.BeginError.TheVariants.{WantOfMemory}

-- those of the objects that the filter keeps, in their order
abbrev pub kept_objects : FilterValue → List ChangeValue → List ChangeValue
kept_objects f objects = filter (keeps f) objects

-- the follower with that filter that begins with those objects at a state: its number, its base and
-- its time are the state's, it has the objects that the filter keeps, it has counted no edits, and
-- it holds nothing
abbrev pub begun_of : FilterValue → StateValue → List ChangeValue → FollowerValue
begun_of f s objects = record {
  number = s.sequence;
  base = s.sequence;
  time = Some s.time;
  filter = f;
  mirror = record { objects = kept_objects f objects; users = []; changesets = [] };
  holding = record { reached = s.sequence; entries = [] };
  is_broken = false;
}

-- a follower with that filter was to begin with those objects at a state: the first refusal that
-- applies is answered, of the sequence, of the objects, whether they are kept or not, and last of
-- memory
abbrev pub Begins :
    FilterValue → StateValue → List ChangeValue → Result FollowerValue BeginError → Type 0
Begins f s objects (Ok g) = (0 < s.sequence) × IsData objects × (g ≡ begun_of f s objects)
Begins f s objects (Err BadSequence) = s.sequence ≡ 0
Begins f s objects (Err (NotData index)) = (0 < s.sequence) × IsFirstFault objects index
Begins f s objects (Err WantOfMemory) = (0 < s.sequence) × IsData objects
