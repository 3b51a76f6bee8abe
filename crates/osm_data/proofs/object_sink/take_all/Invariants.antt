use Rattle.std.proofs.Common.{take}
use Rattle.osm_data.proofs.object_sink.take_all.Given as goal

abbrev pub invariant-loop-object : goal.invariant-loop-object
invariant-loop-object g l = g.K.ObjectSink.takes l.fn.sink (take l.object-index l.objects) l.sink
