use Rattle.std.proofs.Common.{◌≡◌, drop}
use Rattle.osm_o5c.specs.Steps.Index.{words_hash}
use Rattle.osm_o5c.proofs.hashed_string.hash_words.Given as goal

abbrev pub invariant-loop-word : goal.invariant-loop-word
invariant-loop-word l = words_hash l.hash (drop l.word-index l.words) ≡ words_hash 0 l.words
