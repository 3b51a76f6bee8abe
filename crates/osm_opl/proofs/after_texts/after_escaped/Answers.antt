use Rattle.std.proofs.Common.{◌-◌, arith}
use Rattle.osm_opl.proofs.BeginTextLemmas.{chars_done, no_chars, part_more}
use Rattle.osm_opl.proofs.after_texts.after_escaped.Goals as goal

pub loop-room-init : goal.loop-room-init
loop-room-init c = record { part = no_chars c.args.bytes.now; few = omega arith }

pub loop-room-preserved : goal.loop-room-preserved
loop-room-preserved c = record {
  part = part_more c.args.bytes.now c.loop-room.rest.now c.in-Some.after.now c.loop-room.room c.in-Some.size
      (c.loop-room.room - c.in-Some.size) c.loop-room.invariant.part c.in-Some.ensures.part c.in-Some.ensures.fits.1
      c.loop-room.invariant.few (omega arith);
  few = omega arith;
}

pub returns-in_default : goal.returns-in_default
returns-in_default c = chars_done c.args.bytes.now c.loop-room.rest.now (1020 - c.loop-room.room) c.loop-room.invariant.part (omega arith)

pub returns : goal.returns
returns c = chars_done c.args.bytes.now c.loop-room.rest.now (1020 - c.loop-room.room) c.loop-room.invariant.part (omega arith)
