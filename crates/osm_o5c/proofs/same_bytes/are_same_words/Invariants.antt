use Rattle.std.proofs.Common.{◌≡◌, take}
use Rattle.osm_o5c.proofs.same_bytes.are_same_words.Given as goal

abbrev pub invariant-loop-index : goal.invariant-loop-index
invariant-loop-index l = take l.index l.words ≡ take l.index l.others
