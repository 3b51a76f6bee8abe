use Rattle.std.proofs.Common.{◌≡◌, ◌++◌, ◌∷◌, [], true, Some}
use Rattle.osm_reading.specs.Lines.{is_skipped}
use Rattle.osm_script.specs.Steps.Parsing.{IsTakenAs}
use Rattle.osm_script.proofs.ScriptLemmas.{IsReadTo, IsSplit, read_skipped, read_event}
use Rattle.osm_script.proofs.script.send_events.Goals as goal

-- one more line is passed: it is skipped
pub loop-rest-preserved-in-Ok-None : goal.loop-rest-preserved-in-Ok-None
loop-rest-preserved-in-Ok-None g c =
    let events = c.loop-rest.invariant.0 in
    let read : IsReadTo c.args.script.now (Some c.in-Some.bytes) c.loop-rest.number events = rw c.in-Some.is at c.loop-rest.invariant.1 in
    let split : IsSplit c.in-Some.bytes.now c.split_line.result.0.now c.split_line.result.1 =
    record { lines = c.split_line.ensures.lines; shorter = c.split_line.ensures.shorter } in
    let skipped : is_skipped c.split_line.result.0.now ≡ true = rw c.in-Ok-None.field-0-is at c.in-Ok-None.ensures.taken in (
      events,
      read_skipped c.args.script.now c.in-Some.bytes c.split_line.result.0.now c.split_line.result.1
          c.loop-rest.number events read split skipped,
      c.loop-rest.invariant.2,
    )

-- one more line is passed: it is an event, and the sink takes it
pub loop-rest-preserved : goal.loop-rest-preserved
loop-rest-preserved g c =
    let events = c.loop-rest.invariant.0 in
    let read : IsReadTo c.args.script.now (Some c.in-Some.bytes) c.loop-rest.number events = rw c.in-Some.is at c.loop-rest.invariant.1 in
    let split : IsSplit c.in-Some.bytes.now c.split_line.result.0.now c.split_line.result.1 =
    record { lines = c.split_line.ensures.lines; shorter = c.split_line.ensures.shorter } in
    let said : IsTakenAs c.split_line.result.0.now (Some c.in-Ok-Some.event) = rw c.in-Ok-Some.field-0-is at c.in-Ok-Some.ensures.taken in (
      events ++ c.in-Ok-Some.event ∷ [],
      read_event c.args.script.now c.in-Some.bytes c.split_line.result.0.now c.split_line.result.1 c.loop-rest.number events c.in-Ok-Some.event read split said,
      c.in-Ok.ensures.taken events c.loop-rest.invariant.2,
    )
