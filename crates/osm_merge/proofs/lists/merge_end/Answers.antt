use Rattle.std.proofs.Common.{◌+◌, ◌++◌, ◌∷◌, [], ◌≤◌, refl, arith}
use Rattle.std.specs.Prelude.{Err, Ok, codes}
use Rattle.osm_blocks.specs.Calls.{puts_of}
use Rattle.osm_blocks.specs.Places.{left_of}
use Rattle.osm_blocks.proofs.OftenLemmas.{often_then}
use Rattle.osm_merge.specs.Calls.{calls_ahead, puts_ahead}
use Rattle.osm_merge.specs.Faults.{IsDeviceFault}
use Rattle.osm_merge.specs.Mirrors.{end_at}
use Rattle.osm_merge.proofs.CallLemmas.{advances_fails, advances_first, advances_of, advances_then, end_pays, end_some}
use Rattle.osm_merge.proofs.FrameLemmas.{known_still, often_fails, writes_after}
use Rattle.osm_merge.proofs.LineLemmas.{plain_refuses}
use Rattle.osm_merge.proofs.lists.merge_end.Goals as goal

pub returns-in-Err : goal.returns-in-Err
returns-in-Err g c = record {
  merges = tt;
  refused = c.in-Err.ensures.read;
  frame = c.in-Err.ensures.frame;
  calls = λ file has. advances_first (calls_ahead c.args.writer.now c.args.source.now file + 0) (λ x. 0) (g.S.Store.state c.args.store.now)
      (g.S.Store.state c.end.new.store) c.in-Err.fault (c.in-Err.ensures.calls file has) (omega arith);
  keeps = tt;
}

pub returns-in-Ok-put_end : goal.returns-in-Ok-put_end
returns-in-Ok-put_end g c =
    let a = g.S.Store.state c.args.store.now in
    let b = g.S.Store.state c.end.new.store in
    let d = g.S.Store.state c.put_end.new.store in
    let w = c.args.writer.now in
    record {
      merges = record {
        value = tt;
        read = c.in-Ok.ensures.read;
        given_is = refl;
        out = writes_after a b d w c.put_end.new.writer tt (codes "end" ++ 10 ∷ []) c.in-Ok.ensures.frame c.in-Ok.ensures.stage
            c.in-Ok-put_end.ensures.written;
      };
      refused = tt;
      frame = often_then IsDeviceFault a b d tt tt tt c.in-Ok.ensures.frame c.in-Ok-put_end.ensures.frame;
      calls = λ file has.
          let pays : puts_of w ≤ puts_ahead w c.args.source.now file =
          end_pays w c.args.source.now file (end_some (left_of c.args.source.now file) (c.in-Ok.ensures.read file has)) in
          advances_then (calls_ahead w c.args.source.now file + 0) (λ x. 0) a b d tt tt tt (c.in-Ok.ensures.calls file has)
          (advances_of (puts_of w) b d (Ok tt) (known_still a b tt c.in-Ok.ensures.frame has.known) c.in-Ok-put_end.ensures.calls) (omega (arith, pays));
      keeps = c.in-Ok-put_end.ensures.keeps;
    }

pub returns-in-Err-put_end : goal.returns-in-Err-put_end
returns-in-Err-put_end g c =
    let a = g.S.Store.state c.args.store.now in
    let b = g.S.Store.state c.end.new.store in
    let d = g.S.Store.state c.put_end.new.store in
    let w = c.args.writer.now in
    let fault = c.in-Err-put_end.fault in
    record {
      merges = tt;
      refused = λ file has. plain_refuses file fault (end_at (left_of c.args.source.now file)) c.in-Err-put_end.ensures.refused;
      frame = often_fails IsDeviceFault a b d tt fault c.in-Ok.ensures.frame c.in-Err-put_end.ensures.frame;
      calls = λ file has.
          let pays : puts_of w ≤ puts_ahead w c.args.source.now file =
          end_pays w c.args.source.now file (end_some (left_of c.args.source.now file) (c.in-Ok.ensures.read file has)) in
          advances_fails (calls_ahead w c.args.source.now file + 0) (λ x. 0) a b d tt fault (c.in-Ok.ensures.calls file has)
          (advances_of (puts_of w) b d (Err fault) (known_still a b tt c.in-Ok.ensures.frame has.known) c.in-Err-put_end.ensures.calls)
          (omega (arith, pays));
      keeps = tt;
    }
