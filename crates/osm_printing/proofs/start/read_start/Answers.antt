use Rattle.std.proofs.Common.{List, ℕ, subst}
use Rattle.osm_printing.specs.Steps.Copying.{HeadStops, StartsAt}
use Rattle.osm_printing.proofs.SaveLemmas.{head_stops, start_is}
use Rattle.osm_printing.proofs.start.read_start.Goals as goal

pub returns-in-Ok-start_of-clause-starts : goal.returns-in-Ok-start_of-clause-starts
returns-in-Ok-start_of-clause-starts g c = λ file saved has spells.
    start_is file c.in-Ok.block.items saved c.in-Ok-start_of.start (c.in-Ok.ensures.read file has) spells
    (subst (λ (l : List ℕ). StartsAt l c.in-Ok-start_of.start) c.as_slice.ensures.value c.in-Ok-start_of.ensures.starts)

pub returns-clause-stops : goal.returns-clause-stops
returns-clause-stops g c =
    head_stops (g.S.Store.state c.args.store.now) c.args.save.now c.in-Ok.block.items c.in-Err-start_of.fault c.in-Ok.ensures.read
    (subst (λ (l : List ℕ). HeadStops l c.in-Err-start_of.fault) c.as_slice.ensures.value c.in-Err-start_of.ensures.stops)
