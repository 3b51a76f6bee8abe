use Rattle.osm_merged.specs.Ahead.{most_ahead}
use Rattle.osm_exporting.proofs.CopyLemmas.{Copying}
use Rattle.osm_exporting.proofs.copy.copy_objects.Given as goal

abbrev pub invariant-objects : goal.invariant-objects
invariant-objects g l = Copying (g.S.Store.state l.fn.store) (g.S.Store.state l.store) l.fn.save l.fn.filter l.fn.objects l.objects
    (g.W.LineTaker.ahead l.fn.writer) (g.W.LineTaker.ahead l.writer)

abbrev pub decreases-objects : goal.decreases-objects
decreases-objects g l = most_ahead l.objects.merged
