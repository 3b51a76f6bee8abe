use Rattle.std.proofs.Common.{◌≤◌, length, vec_capacity}
use Rattle.osm_opl.specs.Steps.Writing.{items_left}
use Rattle.osm_opl.specs.Written.{items_text, ref_text}
use Rattle.osm_opl.proofs.WrittenLemmas.{Writes}
use Rattle.osm_opl.proofs.lists.write_refs.Given as goal

abbrev pub invariant-loop-rest : goal.invariant-loop-rest
invariant-loop-rest l =
    Writes l.initial.out.items l.out.items (items_left ref_text l.is_first l.rest) (items_text ref_text l.refs)
    × (vec_capacity l.initial.out ≤ vec_capacity l.out)

abbrev pub decreases-loop-rest : goal.decreases-loop-rest
decreases-loop-rest l = length l.rest
