-- What a replay reads and writes.
use Rattle.std.specs.Prelude.{◌≡◌, ℕ, ◌<◌, ◌≤◌, List, length, Option, take, IfSome}
use Rattle.std.specs.Io.KnownBytes.{Consumes, Appends}
use Rattle.osm_model.specs.Filter.{everything}
use Rattle.osm_model.specs.Limits.{max_file}
use Rattle.osm_world.specs.Correct.{IsRun}
use Rattle.osm_world.specs.World.{WorldValue}
use Rattle.osm_world.specs.declared.event.Event.{Event}
use Rattle.osm_world.specs.declared.event.Reply.{Reply}
use Rattle.osm_script.specs.Replies.{replies_text}
use Rattle.osm_script.specs.Script.{ScriptOf, IsBadLine}
use Rattle.osm_script.specs.declared.fault.ScriptFault.{ScriptFault}
use Rattle.osm_script.specs.declared.fault.ScriptFault.TheVariants.{WantOfMemory, ReadFault}
use Rattle.osm_script.specs.declared.fault.ScriptFault.TheVariants.{TooLarge, BadScript, WriteFault}

-- the text is the reply text of a run over the events of the script, with no filter
pub record RepliesTo (script text : List ℕ) : Type 0 where
  pub events : List Event
  pub is_script : ScriptOf script events
  pub replies : List Reply
  pub world : WorldValue
  pub is_run : IsRun everything events replies world
  pub text_is : text ≡ replies_text replies

-- if the reader's bytes are known, those that were read are a script of at most 64 MiB, and its
-- reply text was written
abbrev pub Replays : Option (List ℕ) → Option (List ℕ) → Option (List ℕ) → Type 0
Replays input old new = IfSome input (λ script.
    (length script ≤ max_file) × ((text : List ℕ) × RepliesTo script text × Appends old new text))

-- what a fault of a replay says about the reader's bytes, before and after; memory may be refused
-- whatever they are, since a new world makes room for what it may hold
abbrev pub ReplayFault : Option (List ℕ) → Option (List ℕ) → ScriptFault → Type 0
ReplayFault input rest WantOfMemory = Unit {0}
ReplayFault input rest ReadFault = Unit {0}
ReplayFault input rest TooLarge =
    (bytes : List ℕ) × Consumes input rest bytes × (max_file < length bytes)
ReplayFault input rest (BadScript line) = IfSome input (λ script.
    IsBadLine script line × ((events : List Event) → ScriptOf script events → ⊥))
ReplayFault input rest WriteFault = Unit {0}

-- what a fault of a replay leaves written: a prefix of the reply text if writing failed, else
-- nothing
abbrev pub ReplayLeaves :
    Option (List ℕ) → Option (List ℕ) → Option (List ℕ) → ScriptFault → Type 0
ReplayLeaves input old new WriteFault = IfSome input (λ script.
    (text : List ℕ) × RepliesTo script text × ((n : ℕ) × Appends old new (take n text)))
ReplayLeaves input old new fault = new ≡ old
