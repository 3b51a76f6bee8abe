use Rattle.std.proofs.Common.{◌≡◌, take}
use Rattle.std.specs.Option.{option_copied}
use Rattle.osm_model.specs.Content.{last_of}
use Rattle.osm_judge.proofs.plain.plain_last_of.Given as goal

abbrev pub invariant-loop-change : goal.invariant-loop-change
invariant-loop-change l = option_copied l.last ≡ last_of (take l.change-index l.changes) l.key
