use Rattle.osm_net.specs.Laid.{added}
use Rattle.osm_save.specs.Save.{count_text}
use Rattle.osm_save.specs.Reading.{count_at}
use Rattle.osm_merge.proofs.MergeLemmas.{merging_begun, merging_done, merging_more, merging_unlaid, merging_unput, merging_unread}
use Rattle.osm_merge.proofs.counts.merge_counts.Goals as goal

pub loop-init : goal.loop-init
loop-init g c = record {
  merging = merging_begun added count_text (λ e. e.0) (count_at c.args.list.now.header.most) c.args.list.now.increments.now c.args.many
      c.args.name.now (g.S.Store.state c.args.store.now) c.args.source.now c.args.writer.now;
  few = c.requires.few;
}

pub returns-in-Err : goal.returns-in-Err
returns-in-Err g c = merging_unread c.loop.invariant.merging c.loop-test.true c.in-Err.ensures.frame c.in-Err.ensures.calls c.in-Err.ensures.read

pub returns-in-Err-put_count : goal.returns-in-Err-put_count
returns-in-Err-put_count g c = merging_unput c.loop.invariant.merging c.next_count.new.source c.in-Ok.ensures.frame c.in-Ok.ensures.calls
    c.in-Err-put_count.ensures.frame c.in-Err-put_count.ensures.calls c.in-Err-put_count.ensures.refused

pub loop-preserved : goal.loop-preserved
loop-preserved g c = record {
  merging = merging_more c.loop.invariant.merging c.in-Ok.count c.next_count.new.source c.loop-test.true c.in-Ok.ensures.frame c.in-Ok.ensures.stage
      c.in-Ok.ensures.calls c.in-Ok.ensures.read c.in-Ok-put_count.ensures.laid c.in-Ok-put_count.ensures.frame
      c.in-Ok-put_count.ensures.calls c.in-Ok-put_count.ensures.keeps;
  few = c.in-Ok-put_count.ensures.few;
}

pub returns-in-Ok-put_rest : goal.returns-in-Ok-put_rest
returns-in-Ok-put_rest g c = merging_done c.loop.invariant.merging c.loop-test.false c.in-Ok-put_rest.ensures.laid c.in-Ok-put_rest.ensures.frame
    c.in-Ok-put_rest.ensures.calls c.in-Ok-put_rest.ensures.keeps

pub returns : goal.returns
returns g c = merging_unlaid c.loop.invariant.merging c.in-Err-put_rest.ensures.frame c.in-Err-put_rest.ensures.calls c.in-Err-put_rest.ensures.refused
