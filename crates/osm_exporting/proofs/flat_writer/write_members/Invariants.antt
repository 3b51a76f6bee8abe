use Rattle.std.specs.Prelude.{List}
use Rattle.osm_model.specs.declared.lists.Member.{Member}
use Rattle.osm_opl.specs.Flat.{AreFlatMembers}
use Rattle.osm_reading.proofs.PieceLemmas.{bytes_left}
use Rattle.osm_exporting.proofs.FlatLemmas.{MembersLeft}
use Rattle.osm_exporting.proofs.flat_writer.write_members.Given as goal

abbrev pub invariant-loop-rest : goal.invariant-loop-rest
invariant-loop-rest l = (ms : List Member) → AreFlatMembers l.members ms → MembersLeft l.fn.out.items l.out.items l.fn.state l.state ms l.rest

abbrev pub decreases-loop-rest : goal.decreases-loop-rest
decreases-loop-rest l = bytes_left l.rest
