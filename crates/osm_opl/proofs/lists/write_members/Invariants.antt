use Rattle.std.proofs.Common.{◌≤◌, vec_capacity}
use Rattle.osm_opl.specs.Written.{member_text}
use Rattle.osm_opl.proofs.WrittenLemmas.{ItemsWritten}
use Rattle.osm_opl.proofs.lists.write_members.Given as goal

abbrev pub invariant-loop-member : goal.invariant-loop-member
invariant-loop-member l = (ItemsWritten member_text l.initial.out.items l.out.items l.members l.is_first l.member-index)
    × (vec_capacity l.initial.out ≤ vec_capacity l.out)
