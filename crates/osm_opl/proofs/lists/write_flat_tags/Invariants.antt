use Rattle.std.proofs.Common.{◌≤◌, vec_capacity}
use Rattle.osm_opl.specs.Written.{tag_text}
use Rattle.osm_opl.proofs.WrittenLemmas.{ItemsWritten}
use Rattle.osm_opl.proofs.lists.write_flat_tags.Given as goal

abbrev pub invariant-loop-tag : goal.invariant-loop-tag
invariant-loop-tag l = (ItemsWritten tag_text l.initial.out.items l.out.items l.tags l.is_first l.tag-index) × (vec_capacity l.initial.out ≤ vec_capacity l.out)
