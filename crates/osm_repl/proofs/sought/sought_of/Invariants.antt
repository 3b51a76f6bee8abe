use Rattle.std.proofs.Common.{◌≡◌, [], string_bytes, take}
use Rattle.osm_repl.specs.Getting.{AreSought}
use Rattle.osm_repl.proofs.sought.sought_of.Given as goal

abbrev pub invariant-loop-word : goal.invariant-loop-word
invariant-loop-word l = AreSought (take l.word-index l.words) l.sought.items × (string_bytes l.noted ≡ [])
