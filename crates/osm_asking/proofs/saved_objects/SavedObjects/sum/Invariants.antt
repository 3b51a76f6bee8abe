use Rattle.osm_merged.specs.Ahead.{most_ahead}
use Rattle.osm_asking.proofs.SavedObjectsLemmas.{Summing}
use Rattle.osm_asking.proofs.saved_objects.SavedObjects.sum.Given as goal

abbrev pub invariant-objects : goal.invariant-objects
invariant-objects g l = Summing (g.S.Store.state l.fn.store) (g.S.Store.state l.store) l.fn.save l.fn.filter l.fn.self.objects l.self.objects
    l.fn.self.source l.self.source
    l.fn.sums l.sums l.self.lines.out.items

abbrev pub decreases-objects : goal.decreases-objects
decreases-objects g l = most_ahead l.self.objects
