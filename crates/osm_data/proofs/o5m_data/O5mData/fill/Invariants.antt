use Rattle.std.proofs.Common.{◌-◌}
use Rattle.osm_data.proofs.O5mObjectsLemmas.{Fills}
use Rattle.osm_data.proofs.o5m_data.O5mData.fill.Given as goal

abbrev pub invariant-blocks-2 : goal.invariant-blocks-2
invariant-blocks-2 g l = Fills (g.S.Store.state l.fn.store) (g.S.Store.state l.store) l.fn.name l.fn.self l.self

abbrev pub decreases-blocks-2 : goal.decreases-blocks-2
decreases-blocks-2 g l = 18446744073709551615 - l.self.reader.from
