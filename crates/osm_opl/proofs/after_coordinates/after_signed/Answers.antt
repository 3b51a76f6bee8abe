use Rattle.std.proofs.Common.{arith, rules, FitsSigned, w32}
use Rattle.std.proofs.lemmas.Int.{to_z-of_z}
use Rattle.std.proofs.lemmas.List.{take_rest}
use Rattle.osm_opl.specs.Steps.Begins.{BeginsWith, IsNear}
use Rattle.osm_opl.specs.Written.{coordinate_text}
use Rattle.osm_opl.proofs.BeginCoordinateLemmas.{signed_begins}
use Rattle.osm_opl.proofs.after_coordinates.after_signed.Goals as goal

pub returns : goal.returns
returns c =
    let signed : BeginsWith coordinate_text (IsNear c.args.most) c.signed.result c.args.bytes.now c.in_ok-units.rest.now =
    signed_begins c.args.most c.in_ok-units.units c.minus_size-minus.result c.signed.result c.args.bytes.now c.in_ok-units.rest.now
    c.minus_size-minus.ensures.few.0 c.minus_size-minus.ensures.there
    (rw (take_rest c.args.bytes.now c.minus_size-minus.result) at c.in_ok-units.ensures) (omega arith) (omega arith)
    c.signed.ensures.plus c.signed.ensures.minus in
    let fits : FitsSigned w32 c.signed.result = search rules in
    simp to_z-of_z signed
