use Rattle.std.proofs.Common.{List}
use Rattle.osm_world.specs.declared.event.Event.{Event}
use Rattle.osm_script.proofs.ScriptLemmas.{IsReadTo, left_of}
use Rattle.osm_script.proofs.script.send_events.Given as goal

-- the lines so far were read, and the sink took their events
abbrev pub invariant-loop-rest : goal.invariant-loop-rest
invariant-loop-rest g l = (events : List Event) × IsReadTo l.script l.rest l.number events × g.S.EventSink.took l.sink events

abbrev pub decreases-loop-rest : goal.decreases-loop-rest
decreases-loop-rest g l = left_of l.rest
