use Rattle.std.proofs.Common.{subst, sym}
use Rattle.osm_kept.specs.Names.{journal_name_of}
use Rattle.osm_store.specs.Frames.{IsKnown}
use Rattle.osm_asking.specs.Stopping.{SumStops}
use Rattle.osm_asking.proofs.LaidLemmas.{laid_on_save, sum_stops}
use Rattle.osm_asking.proofs.laid.laid_of_save.Goals as goal

pub returns-in-Ok-Some-clause-fits : goal.returns-in-Ok-Some-clause-fits
returns-in-Ok-Some-clause-fits g c =
    let a = g.S.Store.state c.args.store.now in
    laid_on_save (IsKnown a) (a.files c.args.save.now) (a.files (journal_name_of c.args.save.now)) c.in-Ok-Some.laid
    (rw c.in-Ok-Some.field-0-is at c.in-Ok-Some.ensures.laid) (rw c.in-Ok-Some.field-0-is at c.in-Ok-Some.ensures.plain)

pub returns-in-Err-clause-stops : goal.returns-in-Err-clause-stops
returns-in-Err-clause-stops g c =
    let a = g.S.Store.state c.args.store.now in
    subst (SumStops (IsKnown a) c.args.save.now a.files) (sym c.kept_fault.ensures)
    (sum_stops (IsKnown a) c.args.save.now a.files c.in-Err.fault c.in-Err.ensures.refused)
