-- The reply text: a line for each reply, and more for a view, each ended by LF.
use Rattle.std.specs.Prelude.{ℕ, List, codes}
use Rattle.std.specs.List.{flat_map}
use Rattle.osm_reading.specs.NumberLines.{applied_line, numbered_line}
use Rattle.osm_follow.specs.Show.{view_text}
use Rattle.osm_world.specs.declared.event.Reply.{Reply}
use Rattle.osm_world.specs.declared.event.Reply.TheVariants.{Edited, BatchFull, WantOfMemory}
use Rattle.osm_world.specs.declared.event.Reply.TheVariants.{Closed, SequenceFull}
use Rattle.osm_world.specs.declared.event.Reply.TheVariants.{TimeBack, TooLarge}
use Rattle.osm_world.specs.declared.event.Reply.TheVariants.{NotPublished, Broken, Old, Again}
use Rattle.osm_world.specs.declared.event.Reply.TheVariants.{TooEarly, Held, Applied, Broke}
use Rattle.osm_world.specs.declared.event.Reply.TheVariants.{Shown, Saved, Restarted, Begun}

-- a reply's lines
abbrev pub reply_text : Reply → List ℕ
reply_text Edited = codes "edited\n"
reply_text BatchFull = codes "batch full\n"
reply_text WantOfMemory = codes "no memory\n"
reply_text (Closed n) = numbered_line (codes "closed ") n
reply_text SequenceFull = codes "sequence full\n"
reply_text TimeBack = codes "time back\n"
reply_text TooLarge = codes "too large\n"
reply_text NotPublished = codes "not published\n"
reply_text Broken = codes "broken\n"
reply_text Old = codes "old\n"
reply_text Again = codes "again\n"
reply_text TooEarly = codes "too early\n"
reply_text Held = codes "held\n"
reply_text (Applied low high) = applied_line (low, high)
reply_text Broke = codes "broke\n"
reply_text (Shown view) = view_text view
reply_text (Saved n) = numbered_line (codes "saved ") n
reply_text (Restarted n) = numbered_line (codes "restarted ") n
reply_text (Begun n) = numbered_line (codes "begun ") n

-- the lines of all replies, in their order
abbrev pub replies_text : List Reply → List ℕ
replies_text replies = flat_map reply_text replies
