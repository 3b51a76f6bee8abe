use Rattle.std.proofs.Common.{◌-◌}
use Rattle.osm_data.proofs.OplFillLemmas.{Fills}
use Rattle.osm_data.proofs.opl_data.OplData.fill.Given as goal

abbrev pub invariant-lines : goal.invariant-lines
invariant-lines g l = Fills (g.S.Store.state l.fn.store) (g.S.Store.state l.store) l.fn.name l.fn.self l.self l.fn.objects.items l.objects.items

abbrev pub decreases-lines : goal.decreases-lines
decreases-lines g l = 18446744073709551615 - l.self.so_far.bytes
