use Rattle.std.proofs.Common.{◌≡◌, [], string_bytes, take}
use Rattle.osm_repl.specs.Sums.{AreIds}
use Rattle.osm_repl.proofs.summing.ids_of.Given as goal

abbrev pub invariant-loop-word : goal.invariant-loop-word
invariant-loop-word l = AreIds (take l.word-index l.words) l.ids.items × (string_bytes l.noted ≡ [])
