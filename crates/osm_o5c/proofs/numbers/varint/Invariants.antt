use Rattle.std.proofs.Common.{◌+◌, ◌≡◌, take, drop, Some}
use Rattle.osm_o5c.specs.NumberReading.{varint_at}
use Rattle.osm_o5c.proofs.VarintLemmas.{with_lows}
use Rattle.osm_o5c.proofs.numbers.varint.Given as goal

abbrev pub invariant-loop-index : goal.invariant-loop-index
invariant-loop-index l = varint_at 10 l.bytes ≡ with_lows (take l.index l.bytes) (Some (l.number, drop (l.last + 1) l.bytes))
