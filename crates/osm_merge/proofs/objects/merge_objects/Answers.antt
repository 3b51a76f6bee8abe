use Rattle.std.proofs.Common.{◌≡◌, List, ℕ, Some}
use Rattle.osm_blocks.specs.Places.{HasFile, left_of}
use Rattle.osm_net.specs.Laid.{laid_over}
use Rattle.osm_opl.specs.Written.{line_text}
use Rattle.osm_save.specs.Reading.{object_at, object_of}
use Rattle.osm_merge.specs.Laying.{next_at}
use Rattle.osm_merge.proofs.MergeLemmas.{merging_begun, merging_done, merging_more, merging_unlaid, merging_unput, merging_unread}
use Rattle.osm_merge.proofs.objects.merge_objects.Goals as goal

pub loop-init : goal.loop-init
loop-init g c = record {
  merging = rw c.as_slice-rest.ensures.value (merging_begun laid_over line_text (λ o. o.key) (object_at c.args.merge.now.opening.now.filter)
      c.args.merge.now.lists.now.objects.items c.args.many c.args.name.now (g.S.Store.state c.args.store.now) c.args.source.now c.args.writer.now);
}

pub returns-in-Err : goal.returns-in-Err
returns-in-Err g c = merging_unread c.loop.invariant.merging c.loop-test.true c.in-Err.ensures.frame c.in-Err.ensures.calls c.in-Err.ensures.refused

pub returns-in-Err-put_object : goal.returns-in-Err-put_object
returns-in-Err-put_object g c = merging_unput c.loop.invariant.merging c.find_object.new.source c.in-Ok.ensures.frame c.in-Ok.ensures.calls
    c.in-Err-put_object.ensures.frame c.in-Err-put_object.ensures.calls c.in-Err-put_object.ensures.refused

pub loop-preserved : goal.loop-preserved
loop-preserved g c =
    let object = object_of c.line-line.result.now in
    let read : (file : List ℕ) → HasFile (g.S.Store.state c.loop.store) c.args.name.now file
    → next_at (object_at c.args.merge.now.opening.now.filter) c.loop.last (left_of c.loop.source file) ≡ Some (object, left_of c.pass.new.self file) =
    λ file has. rw (c.pass.ensures, c.line-line.ensures) (c.in-Ok.ensures.read file has) in
    let named : c.in-Ok.found.1 ≡ object.key = rw c.line-line.ensures c.in-Ok.ensures.spelled.named in
    record {
      merging = rw named (merging_more c.loop.invariant.merging object c.pass.new.self c.loop-test.true c.in-Ok.ensures.frame c.in-Ok.ensures.stage
          (λ file has. rw c.pass.ensures (c.in-Ok.ensures.calls file has)) read c.in-Ok-put_object.ensures.laid c.in-Ok-put_object.ensures.frame
          c.in-Ok-put_object.ensures.calls c.in-Ok-put_object.ensures.keeps);
    }

pub returns-in-Ok-put_rest : goal.returns-in-Ok-put_rest
returns-in-Ok-put_rest g c = merging_done c.loop.invariant.merging c.loop-test.false c.in-Ok-put_rest.ensures.laid c.in-Ok-put_rest.ensures.frame
    c.in-Ok-put_rest.ensures.calls c.in-Ok-put_rest.ensures.keeps

pub returns : goal.returns
returns g c = merging_unlaid c.loop.invariant.merging c.in-Err-put_rest.ensures.frame c.in-Err-put_rest.ensures.calls c.in-Err-put_rest.ensures.refused
