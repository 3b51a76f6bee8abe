use Rattle.std.proofs.Common.{◌≡◌, drop}
use Rattle.osm_o5c.specs.Steps.Index.{bytes_hash}
use Rattle.osm_o5c.proofs.hashed_string.hash_bytes.Given as goal

abbrev pub invariant-loop-byte : goal.invariant-loop-byte
invariant-loop-byte l = bytes_hash l.hash (drop l.byte-index l.bytes) ≡ bytes_hash 0 l.bytes
