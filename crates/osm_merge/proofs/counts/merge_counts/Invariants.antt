use Rattle.std.specs.List.{AllByRecursion}
use Rattle.osm_net.specs.Laid.{added}
use Rattle.osm_save.specs.Reading.{count_at}
use Rattle.osm_save.specs.Save.{count_text}
use Rattle.osm_merge.specs.Laying.{IsFew}
use Rattle.osm_merge.proofs.MergeLemmas.{Merging}
use Rattle.osm_merge.proofs.counts.merge_counts.Given as goal

abbrev pub invariant-loop : goal.invariant-loop
invariant-loop g l = record {
  merging : Merging added count_text (λ e. e.0) (count_at l.fn.list.header.most) l.fn.list.increments.now l.fn.many l.counter l.last l.rest l.total
      l.fn.name (g.S.Store.state l.fn.store) l.fn.source l.fn.writer (g.S.Store.state l.store) l.source l.writer;
  few : AllByRecursion IsFew l.rest;
}
