use Rattle.std.proofs.Common.{refl}
use Rattle.osm_store.specs.Frames.{IsKnown}
use Rattle.osm_exporting.proofs.KeptLemmas.{kept_stops}
use Rattle.osm_exporting.proofs.kept.read_laid.Goals as goal

pub returns-in-Ok-Some-clause-kept : goal.returns-in-Ok-Some-clause-kept
returns-in-Ok-Some-clause-kept g c = rw c.in-Ok-Some.field-0-is at c.in-Ok-Some.ensures.laid

pub returns-in-Ok-None-clause-stops : goal.returns-in-Ok-None-clause-stops
returns-in-Ok-None-clause-stops g c = λ output named. (refl, named, rw c.in-Ok-None.field-0-is at c.in-Ok-None.ensures.laid)

pub returns-in-Err-clause-stops : goal.returns-in-Err-clause-stops
returns-in-Err-clause-stops g c = λ output named.
    let a = g.S.Store.state c.args.store.now in
    rw c.kept_fault.ensures (kept_stops (IsKnown a) c.args.save.now output a.files c.in-Err.fault named c.in-Err.ensures.refused)
