use Rattle.std.proofs.Common.{List, ℕ, subst}
use Rattle.osm_asking.specs.Steps.Opening.{OpeningStops, OpensAt}
use Rattle.osm_asking.proofs.OpeningLemmas.{opened_is, opening_stops}
use Rattle.osm_asking.proofs.opening.open_lines.Goals as goal

pub returns-in-Ok-opening_of-clause-opened : goal.returns-in-Ok-opening_of-clause-opened
returns-in-Ok-opening_of-clause-opened g c = λ file v has spells.
    opened_is file c.in-Ok.bytes.items v c.in-Ok-opening_of.opened (c.in-Ok.ensures.read file has)
    (subst (λ (l : List ℕ). OpensAt l c.in-Ok-opening_of.opened) c.as_slice.ensures.value c.in-Ok-opening_of.ensures.opened) spells

pub returns-clause-stops : goal.returns-clause-stops
returns-clause-stops g c =
    opening_stops (g.S.Store.state c.args.store.now) c.args.save.now c.in-Ok.bytes.items c.in-Err-opening_of.fault c.in-Ok.ensures.read
    (subst (λ (l : List ℕ). OpeningStops l c.in-Err-opening_of.fault) c.as_slice.ensures.value c.in-Err-opening_of.ensures.stops)
