use Rattle.osm_net.specs.Laid.{laid_over}
use Rattle.osm_opl.specs.Written.{line_text}
use Rattle.osm_save.specs.Reading.{object_at}
use Rattle.osm_merge.proofs.MergeLemmas.{Merging}
use Rattle.osm_merge.proofs.objects.merge_objects.Given as goal

abbrev pub invariant-loop : goal.invariant-loop
invariant-loop g l = record {
  merging : Merging laid_over line_text (λ o. o.key) (object_at l.fn.merge.opening.now.filter) l.fn.merge.lists.now.objects.items l.fn.many
      l.counter l.last l.rest l.count l.fn.name (g.S.Store.state l.fn.store) l.fn.source l.fn.writer (g.S.Store.state l.store) l.source l.writer;
}
