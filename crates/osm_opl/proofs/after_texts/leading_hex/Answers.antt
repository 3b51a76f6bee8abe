use Rattle.std.proofs.Common.{◌<◌, ◌≤◌, arith}
use Rattle.osm_opl.proofs.BeginTextLemmas.{hex_room, more_hex, no_hex}
use Rattle.osm_opl.proofs.after_texts.leading_hex.Goals as goal

pub loop-count-init : goal.loop-count-init
loop-count-init c = record { read = no_hex c.args.bytes.now; few = omega arith }

pub overflow_mul-code : goal.overflow_mul-code
overflow_mul-code c =
    let few : c.loop-count.count ≤ 5 = omega arith in
    let room : c.loop-count.code < 1048576 = hex_room c.loop-count.code c.loop-count.count few c.loop-count.invariant.read.small in
    omega arith

pub overflow_add-code : goal.overflow_add-code
overflow_add-code c =
    let few : c.loop-count.count ≤ 5 = omega arith in
    let room : c.loop-count.code < 1048576 = hex_room c.loop-count.code c.loop-count.count few c.loop-count.invariant.read.small in
    omega (arith, c.in-Some.ensures.0)

pub loop-count-preserved : goal.loop-count-preserved
loop-count-preserved c =
    record {
      read = more_hex c.args.bytes.now c.loop-count.code c.loop-count.count c.in-Some.digit _ c.loop-count.invariant.read
          (omega arith) (omega arith) c.in-Some.ensures.0 c.in-Some.ensures.1 (omega arith);
      few = omega arith;
    }
