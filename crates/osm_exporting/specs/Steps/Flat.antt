-- What is written of an object from what its line says.
use Rattle.std.specs.Prelude.{◌≡◌, ℕ, ℤ, List, [], ◌++◌, Some, true}
use Rattle.osm_model.specs.Change.{ChangeValue}
use Rattle.osm_model.specs.Filter.{FilterValue, chooses}
use Rattle.osm_model.specs.declared.change.What.{What}
use Rattle.osm_model.specs.declared.kind.Kind.{Kind}
use Rattle.osm_model.specs.declared.lists.Member.{Member}
use Rattle.osm_model.specs.declared.lists.Tag.{Tag}
use Rattle.osm_o5c.specs.Written.{after_change, after_members, after_object, after_what}
use Rattle.osm_o5c.specs.Written.{change_text, last_ref, members_text, object_text, refs_text}
use Rattle.osm_o5c.specs.Written.{tags_text, what_text, with_tags}
use Rattle.osm_o5c.specs.declared.counters.Counters.{Counters}
use Rattle.osm_o5c.specs.declared.writer.State.{State}
use Rattle.osm_o5c.specs.declared.writer.Writer.{Writer}

-- the filter keeps every object of that kind, whatever its tags are
pub record KeepsAll (f : FilterValue) (kind : Kind) : Type 0 where
  pub chosen : chooses f kind ≡ true
  pub any : f.keys ≡ []

-- the object was appended
pub record WritesChange (old new : Writer) (object : ChangeValue) : Type 0 where
  pub text : new.out.items ≡ old.out.items ++ change_text old.kind old.state object
  pub state_is : new.state ≡ after_change old.kind old.state object
  pub kind_is : new.kind ≡ Some object.key.kind

-- this is the content of the object
pub record WritesObject (content : List ℕ) (before after : State) (object : ChangeValue)
    : Type 0 where
  pub text : content ≡ object_text before object
  pub state_is : after ≡ after_object before object

-- what an object is was appended
pub record WritesWhat (old new : List ℕ) (before after : State) (what : What) : Type 0 where
  pub text : new ≡ old ++ what_text before what
  pub state_is : after ≡ after_what before what

-- the tags were appended
pub record WritesTags (old new : List ℕ) (before after : State) (tags : List Tag) : Type 0 where
  pub text : new ≡ old ++ tags_text before.strings tags
  pub state_is : after ≡ with_tags before tags

-- the nodes were appended
pub record WritesRefs (old new : List ℕ) (before after : Counters) (ids : List ℤ) : Type 0 where
  pub text : new ≡ old ++ refs_text before.way_node ids
  pub counters_are : after ≡ record before { way_node = last_ref before.way_node ids }

-- the members were appended
pub record WritesMembers (old new : List ℕ) (before after : State) (members : List Member)
    : Type 0 where
  pub text : new ≡ old ++ members_text before members
  pub state_is : after ≡ after_members before members
