-- What the parts of a replay do: reading the script, and answering an event.
use Rattle.std.specs.Prelude.{◌≡◌, ℕ, ◌<◌, List, length, Option}
use Rattle.std.specs.Io.KnownBytes.{Consumes}
use Rattle.osm_model.specs.Filter.{everything}
use Rattle.osm_model.specs.Limits.{max_file}
use Rattle.osm_world.specs.Correct.{IsRun}
use Rattle.osm_world.specs.World.{WorldValue}
use Rattle.osm_world.specs.declared.event.Event.{Event}
use Rattle.osm_world.specs.declared.event.Reply.{Reply}
use Rattle.osm_script.specs.Replies.{replies_text}
use Rattle.osm_script.specs.Script.{IsBadLine}
use Rattle.osm_script.specs.declared.fault.ScriptFault.{ScriptFault}
use Rattle.osm_script.specs.declared.fault.ScriptFault.TheVariants.{WantOfMemory, ReadFault}
use Rattle.osm_script.specs.declared.fault.ScriptFault.TheVariants.{TooLarge, BadScript}

-- how often a reader is asked at most: for each byte of the largest script, for one byte too many,
-- and once more
abbrev pub most_reads : ℕ
most_reads = 67108866

-- why a reader's bytes aren't a script's: more than 64 MiB were read, or reading failed, or memory
-- was refused
abbrev pub ReadingFault : Option (List ℕ) → Option (List ℕ) → ScriptFault → Type 0
ReadingFault old new WantOfMemory = Unit {0}
ReadingFault old new ReadFault = Unit {0}
ReadingFault old new TooLarge =
    (bytes : List ℕ) × Consumes old new bytes × (max_file < length bytes)
ReadingFault old new fault = ⊥

-- a run over the events ended in the world, and its reply text is the text
pub record IsAnswered (events : List Event) (world : WorldValue) (text : List ℕ) : Type 0 where
  pub replies : List Reply
  pub is_run : IsRun everything events replies world
  pub text_is : text ≡ replies_text replies

-- a script isn't answered: memory was refused, or a line is no event
abbrev pub AnswerStops : List ℕ → ScriptFault → Type 0
AnswerStops script WantOfMemory = Unit {0}
AnswerStops script (BadScript line) = IsBadLine script line
AnswerStops script fault = ⊥
