use Rattle.std.proofs.Common.{◌+◌, ◌++◌, ◌∷◌, [], ◌≤◌, refl, arith}
use Rattle.std.specs.Prelude.{Err, Ok, decimal}
use Rattle.osm_blocks.specs.Calls.{puts_of}
use Rattle.osm_blocks.specs.Places.{left_of}
use Rattle.osm_blocks.proofs.OftenLemmas.{often_then}
use Rattle.osm_save.specs.Lines.{ended}
use Rattle.osm_merge.specs.Calls.{calls_ahead, puts_ahead}
use Rattle.osm_merge.specs.Faults.{IsDeviceFault}
use Rattle.osm_merge.proofs.CallLemmas.{advances_fails, advances_first, advances_of, advances_then, line_pays, numbered_shorter}
use Rattle.osm_merge.proofs.FrameLemmas.{known_still, often_fails, writes_after}
use Rattle.osm_merge.proofs.LineLemmas.{plain_refuses}
use Rattle.osm_save.specs.Reading.{numbered_at}
use Rattle.osm_merge.proofs.lists.begin_list.Goals as goal

pub returns-in-Err-clause-merges : goal.returns-in-Err-clause-merges
returns-in-Err-clause-merges g c = record {
  merges = tt;
  refused = λ file has. c.in-Err.ensures.read file has c.requires;
  frame = c.in-Err.ensures.frame;
  calls = λ file has. advances_first (calls_ahead c.args.writer.now c.args.source.now file + 0)
      (λ x. calls_ahead c.args.writer.now c.numbered.new.self file) (g.S.Store.state c.args.store.now) (g.S.Store.state c.numbered.new.store)
      c.in-Err.fault (c.in-Err.ensures.calls file has) (omega arith);
  keeps = tt;
}

pub returns-in-Ok-put_header-clause-merges : goal.returns-in-Ok-put_header-clause-merges
returns-in-Ok-put_header-clause-merges g c =
    let h = c.args.header.now in
    let a = g.S.Store.state c.args.store.now in
    let b = g.S.Store.state c.numbered.new.store in
    let d = g.S.Store.state c.put_header.new.store in
    let w = c.args.writer.now in
    record {
      merges = record {
        value = c.in-Ok.many;
        read = λ file has. c.in-Ok.ensures.read file has c.requires;
        given_is = refl;
        out = writes_after a b d w c.put_header.new.writer c.in-Ok.many (ended ((h.word.now ++ decimal h.total) ∷ [])) c.in-Ok.ensures.frame
            c.in-Ok.ensures.stage c.in-Ok-put_header.ensures.written;
      };
      refused = tt;
      frame = often_then IsDeviceFault a b d c.in-Ok.many tt c.in-Ok.many c.in-Ok.ensures.frame c.in-Ok-put_header.ensures.frame;
      calls = λ file has.
          let pays : puts_of w + puts_ahead w c.numbered.new.self file ≤ puts_ahead w c.args.source.now file =
          line_pays w c.args.source.now c.numbered.new.self file (numbered_shorter h.word.now h.most (left_of c.args.source.now file) c.in-Ok.many
          (left_of c.numbered.new.self file) (c.in-Ok.ensures.read file has c.requires)) in
          advances_then (calls_ahead w c.args.source.now file + 0) (λ x. calls_ahead w c.numbered.new.self file) a b d c.in-Ok.many tt c.in-Ok.many
          (c.in-Ok.ensures.calls file has) (advances_of (puts_of w) b d (Ok tt) (known_still a b c.in-Ok.many c.in-Ok.ensures.frame has.known)
          c.in-Ok-put_header.ensures.calls) (omega (arith, pays));
      keeps = c.in-Ok-put_header.ensures.keeps;
    }

pub returns-in-Err-put_header-clause-merges : goal.returns-in-Err-put_header-clause-merges
returns-in-Err-put_header-clause-merges g c =
    let h = c.args.header.now in
    let a = g.S.Store.state c.args.store.now in
    let b = g.S.Store.state c.numbered.new.store in
    let d = g.S.Store.state c.put_header.new.store in
    let w = c.args.writer.now in
    let fault = c.in-Err-put_header.fault in
    record {
      merges = tt;
      refused = λ file has. plain_refuses file fault (numbered_at h.word.now h.most (left_of c.args.source.now file)) c.in-Err-put_header.ensures.refused;
      frame = often_fails IsDeviceFault a b d c.in-Ok.many fault c.in-Ok.ensures.frame c.in-Err-put_header.ensures.frame;
      calls = λ file has.
          let pays : puts_of w + puts_ahead w c.numbered.new.self file ≤ puts_ahead w c.args.source.now file =
          line_pays w c.args.source.now c.numbered.new.self file (numbered_shorter h.word.now h.most (left_of c.args.source.now file) c.in-Ok.many
          (left_of c.numbered.new.self file) (c.in-Ok.ensures.read file has c.requires)) in
          advances_fails (calls_ahead w c.args.source.now file + 0) (λ x. calls_ahead w c.numbered.new.self file) a b d c.in-Ok.many fault
          (c.in-Ok.ensures.calls file has) (advances_of (puts_of w) b d (Err fault) (known_still a b c.in-Ok.many c.in-Ok.ensures.frame has.known)
          c.in-Err-put_header.ensures.calls) (omega (arith, pays));
      keeps = tt;
    }
