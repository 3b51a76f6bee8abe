use Rattle.std.proofs.Common.{◌-◌}
use Rattle.osm_blocks.proofs.FindLemmas.{Searches}
use Rattle.osm_blocks.proofs.block_reader.BlockReader.find_line.Given as goal

abbrev pub invariant-blocks-2 : goal.invariant-blocks-2
invariant-blocks-2 g l = Searches (g.S.Store.state l.fn.store) (g.S.Store.state l.store) l.fn.name l.fn.self l.self l.searched

abbrev pub decreases-blocks-2 : goal.decreases-blocks-2
decreases-blocks-2 g l = 18446744073709551615 - l.self.from
