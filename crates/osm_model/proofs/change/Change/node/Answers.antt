use Rattle.std.proofs.Common.{rules, refl, ◌<◌, ◌≤◌, length, FitsSigned, w32, w64}
use Rattle.std.proofs.lemmas.Int.{to_z-of_z}
use Rattle.osm_model.specs.Limits.{IsId, IsLocation, max_tags}
use Rattle.osm_model.proofs.change.Change.node.Goals as goal

pub returns-then-as_slice-gt-MAX_TAGS-clause-too_many_tags :
    goal.returns-then-as_slice-gt-MAX_TAGS-clause-too_many_tags
returns-then-as_slice-gt-MAX_TAGS-clause-too_many_tags c =
    let id : IsId c.args.id = search rules in
    let location : IsLocation c.args.lon c.args.lat = search rules in
    let many : max_tags < length c.args.tags = search rules in
    (λ refused. (id, location, many), λ holds. search rules)

pub invariant_of-result : goal.invariant_of-result
invariant_of-result c =
    let id_fits : FitsSigned w64 c.args.id = c.ranges.id in
    let lon_fits : FitsSigned w32 c.args.lon = c.ranges.lon in
    let lat_fits : FitsSigned w32 c.args.lat = c.ranges.lat in
    let id : IsId c.args.id = search rules in
    let location : IsLocation c.args.lon c.args.lat = search rules in
    let few : length c.args.tags ≤ max_tags = search rules in
    simp to_z-of_z (record {
      id = id;
      meta = c.limits.ensures;
      what = (refl, location, record { few = few; each = c.as_slice.ensures.limits });
    })
