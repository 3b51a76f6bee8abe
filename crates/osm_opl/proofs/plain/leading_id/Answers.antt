use Rattle.std.proofs.Common.{◌<◌, ◌≤◌, ◌^◌, arith, w64}
use Rattle.std.proofs.lemmas.Int.{to_z_pos}
use Rattle.osm_opl.proofs.PlainLemmas.{id_first}
use Rattle.osm_reading.specs.Pieces.{pieces_after}
use Rattle.osm_opl.proofs.plain.leading_id.Goals as goal

pub returns-clause-value : goal.returns-clause-value
returns-clause-value c =
    let few : c.in_ok-number.number ≤ 4611686018427387903 = omega arith in
    let small : c.in_ok-number.number < 2 ^ 63 = omega arith in
    rw (to_z_pos w64 c.in_ok-number.number small)
    (id_first c.args.separator c.args.bytes.now c.in_ok-number.number (pieces_after c.args.separator c.in_ok-number.rest) c.in_ok-number.ensures.value few)
