-- Which texts may answer a script.
use Rattle.std.specs.Prelude.{◌≡◌, ℕ, List, length}
use Rattle.osm_model.specs.Filter.{FilterValue}
use Rattle.osm_world.specs.History.{history_of}
use Rattle.osm_world.specs.Legal.{IsLegal}
use Rattle.osm_judge.specs.Breaks.{AreBreaksNeeded}
use Rattle.osm_script.specs.Replies.{replies_text}
use Rattle.osm_script.specs.Script.{ScriptOf}
use Rattle.osm_world.specs.declared.event.Event.{Event}
use Rattle.osm_world.specs.declared.event.Reply.{Reply}

-- the text is that of one reply for each event of the script in a world with that filter, each
-- reply allowed after what came before it, and the follower breaks only at a new entry
pub record MayAnswer (filter : FilterValue) (script text : List ℕ) : Type 0 where
  pub events : List Event
  pub is_script : ScriptOf script events
  pub replies : List Reply
  pub one_each : length replies ≡ length events
  pub legal : IsLegal filter (history_of events replies)
  pub breaks : AreBreaksNeeded filter (history_of events replies)
  pub text_is : text ≡ replies_text replies
