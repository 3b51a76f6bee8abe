use Rattle.std.proofs.Common.{Some, None}
use Rattle.osm_asking.proofs.TakenLemmas.{not_own, read_is, taken_absent, taken_there, unread, whole_line}
use Rattle.osm_asking.proofs.kept.taken.Goals as goal

pub returns-then-not-spot-clause-taken : goal.returns-then-not-spot-clause-taken
returns-then-not-spot-clause-taken c = taken_absent c.args.opened.now c.args.key c.args.spot.now c.if-not-spot.true

pub returns-in-Ok-clause-taken : goal.returns-in-Ok-clause-taken
returns-in-Ok-clause-taken c =
    taken_there c.args.opened.now c.args.key c.args.spot.now c.in-Ok-Some.object c.in-Ok.object c.if-not-spot.false
    (read_is c.args.opened.now c.args.spot.now.line.items c.as_slice.result.now (Some c.in-Ok-Some.object) c.in-Ok-Some.field-0 c.in-Ok-Some.ensures.read
    c.in-Ok-Some.field-0-is c.as_slice.ensures.value) c.in-Ok.ensures.own.0

pub returns-in-Ok-clause-whole : goal.returns-in-Ok-clause-whole
returns-in-Ok-clause-whole c =
    whole_line c.args.opened.now c.args.spot.now c.in-Ok-Some.object c.in-Ok.object c.if-not-spot.false
    (read_is c.args.opened.now c.args.spot.now.line.items c.as_slice.result.now (Some c.in-Ok-Some.object) c.in-Ok-Some.field-0 c.in-Ok-Some.ensures.read
    c.in-Ok-Some.field-0-is c.as_slice.ensures.value) c.in-Ok.ensures.own.0

pub returns-in-Err-own-clause-stops : goal.returns-in-Err-own-clause-stops
returns-in-Err-own-clause-stops c =
    not_own c.args.opened.now c.args.key c.args.spot.now c.in-Ok-Some.object c.in-Err-own.fault c.if-not-spot.false
    (read_is c.args.opened.now c.args.spot.now.line.items c.as_slice.result.now (Some c.in-Ok-Some.object) c.in-Ok-Some.field-0 c.in-Ok-Some.ensures.read
    c.in-Ok-Some.field-0-is c.as_slice.ensures.value) c.in-Err-own.ensures.stops

pub returns-in-Ok-None-clause-stops : goal.returns-in-Ok-None-clause-stops
returns-in-Ok-None-clause-stops c =
    unread c.args.opened.now c.args.key c.args.spot.now c.args.spot.now.place c.if-not-spot.false
    (read_is c.args.opened.now c.args.spot.now.line.items c.as_slice.result.now None c.in-Ok-None.field-0 c.in-Ok-None.ensures.read
    c.in-Ok-None.field-0-is c.as_slice.ensures.value)
