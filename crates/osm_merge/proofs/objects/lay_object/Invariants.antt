use Rattle.std.proofs.Common.{length}
use Rattle.osm_net.specs.Laid.{laid_over}
use Rattle.osm_opl.specs.Written.{line_text}
use Rattle.osm_save.specs.Reading.{object_of}
use Rattle.osm_merge.specs.Laying.{Appends, LaysBelow}
use Rattle.osm_merge.proofs.objects.lay_object.Given as goal

abbrev pub invariant-loop-key : goal.invariant-loop-key
invariant-loop-key l = LaysBelow laid_over line_text l.fn.entries (object_of l.fn.line) l.rest l.many (Appends l.fn.out.items l.out.items)

abbrev pub decreases-loop-key : goal.decreases-loop-key
decreases-loop-key l = length l.rest
