use Rattle.std.proofs.Common.{length}
use Rattle.osm_merged.proofs.LoopLemmas.{Turning}
use Rattle.osm_merged.proofs.objects.MergedObjects.next.Given as goal

abbrev pub invariant-entries : goal.invariant-entries
invariant-entries g l = Turning (g.S.Store.state l.fn.store) (g.S.Store.state l.store) l.fn.name l.fn.filter l.fn.self l.self l.fn.source l.source

abbrev pub decreases-entries : goal.decreases-entries
decreases-entries g l = length l.self.changes
