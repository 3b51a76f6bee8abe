use Rattle.std.proofs.Common.{FitsSigned, rules, refl, to_z-of_z, w32, w64}
use Rattle.osm_model.specs.Change.{IsWhat}
use Rattle.osm_model.specs.declared.change.What.TheVariants.{Node}
use Rattle.osm_model.specs.declared.kind.Kind.TheVariants as kinds
use Rattle.osm_o5c.specs.declared.reader.Reader.{Reader}
use Rattle.osm_o5c.proofs.LimitLemmas.{what_limits}
use Rattle.osm_o5c.proofs.reader.Reader.named_content.Goals as goal

pub returns-clause-limits : goal.returns-clause-limits
returns-clause-limits c = λ t tags.
    let counters = c.args.self.now.counters in
    let strings = c.args.self.now.strings in
    let before : Reader = record { counters = counters; strings = strings } in
    let what : IsWhat kinds.Node (Node c.in_ok-lon.lon c.in_ok-lon.lat t.0) =
    what_limits kinds.Node before c.in_ok-meta.rest.now (Node c.in_ok-lon.lon c.in_ok-lon.lat t.0) _
    (rw tags at (c.in_ok-lon.ensures strings counters refl refl)) in
    let id : FitsSigned w64 c.in-Ok.id = search rules in
    let lon : FitsSigned w32 c.in_ok-lon.lon = search rules in
    let lat : FitsSigned w32 c.in_ok-lon.lat = search rules in
    simp to_z-of_z (record { id = c.in-Ok.ensures.limits; meta = c.in_ok-meta.ensures.limits; what = what })
