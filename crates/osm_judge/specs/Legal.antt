-- When a judge doesn't say whether a reply may follow a history.
use Rattle.std.specs.Prelude.{◌<◌, length}
use Rattle.osm_model.specs.Limits.{max_changes}
use Rattle.osm_world.specs.History.{History, pending_of}
use Rattle.osm_judge.specs.declared.legal.Unjudged.{Unjudged}
use Rattle.osm_judge.specs.declared.legal.Unjudged.TheVariants.{TooManyPending, WantOfMemory}

-- more edits are pending than a batch can have, or the judge is out of memory
abbrev pub IsUnjudged : History → Unjudged → Type 0
IsUnjudged h TooManyPending = max_changes < length (pending_of h)
IsUnjudged h WantOfMemory = Unit {0}
