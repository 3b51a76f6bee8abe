use Rattle.std.proofs.Common.{ℕ, List, [], ◌++◌, refl}
use Rattle.osm_blocks.specs.Writing.{IsWritten, Waiting}
use Rattle.osm_net.specs.Laid.{laid_on}
use Rattle.osm_net.specs.Lists.{net_in}
use Rattle.osm_save.specs.Head.{head_lines}
use Rattle.osm_save.specs.Lines.{ended}
use Rattle.osm_save.specs.declared.version.Version.TheVariants.{Three}
use Rattle.osm_merge.specs.Mirrors.{lists_text}
use Rattle.osm_merge.proofs.FrameLemmas.{has_still, known_still, staged_all}
use Rattle.std.proofs.Common.{◌≡◌, ◌+◌, length, Bool, true, ap, ◌∙◌, arith}
use Rattle.std.specs.Prelude.{Err, Ok, if◌then◌else◌}
use Rattle.osm_blocks.specs.Calls.{puts_of, reads_ahead}
use Rattle.osm_blocks.specs.Places.{left_of}
use Rattle.osm_merge.specs.Calls.{puts_ahead}
use Rattle.osm_blocks.proofs.CallLemmas.{down_of}
use Rattle.osm_merge.proofs.CallLemmas.{advances_fails, advances_first, advances_of, advances_then}
use Rattle.osm_merge.proofs.merge.write_lists.Goals as goal

pub returns-in-Ok-flush-clause-merges : goal.returns-in-Ok-flush-clause-merges
returns-in-Ok-flush-clause-merges g c =
    let a = g.S.Store.state c.args.store.now in
    let b = g.S.Store.state c.begin.new.store in
    let d = g.S.Store.state c.put_head.new.store in
    let e = g.S.Store.state c.merge_lists.new.store in
    let m = c.in-Ok-merge_lists.ensures.merges in
    let h : List ℕ = ended (head_lines Three c.args.head c.args.merge.now.opening.now.filter) in
    let l : List ℕ = lists_text c.args.merge.now.totals
    (laid_on (net_in c.args.merge.now.lists.now) m.value) in
    record {
      value = m.value;
      read = λ file has.
          m.read file (has_still b d tt c.args.name.now file c.in-Ok-put_head.ensures.frame (has_still a b tt c.args.name.now file c.in-Ok.ensures.frame has));
      given_is = m.given_is;
      out = λ known.
          let known_b = known_still a b tt c.in-Ok.ensures.frame known in
          let known_d = known_still b d tt c.in-Ok-put_head.ensures.frame known_b in
          let known_e = known_still d e c.in-Ok-merge_lists.counted c.in-Ok-merge_lists.ensures.frame known_d in
          let begun : IsWritten b.stage c.new-writer.result c.args.name.now [] =
          (rw c.new-writer.ensures (record { appended = []; staged = c.in-Ok.ensures.begun known; whole = refl; writes = refl })) in
          let first : IsWritten d.stage c.put_head.new.writer c.args.name.now h = c.in-Ok-put_head.ensures.written known_b c.args.name.now [] begun in
          let second : IsWritten e.stage c.merge_lists.new.writer c.args.name.now (h ++ l) = m.out known_d c.args.name.now h first in
          staged_all (g.S.Store.state c.flush.new.store) c.flush.new.self c.args.name.now (h ++ l)
          (c.in-Ok-flush.ensures.flushed known_e c.args.name.now (h ++ l) second) c.in-Ok-flush.ensures.empty;
    }

pub returns-in-Err-clause-calls : goal.returns-in-Err-clause-calls
returns-in-Err-clause-calls g c = λ file has.
    let a = g.S.Store.state c.args.store.now in
    let b = g.S.Store.state c.begin.new.store in
    advances_first (reads_ahead c.args.source.now file + length (left_of c.args.source.now file) + 6) (λ x. 0) a b c.in-Err.fault
    (advances_of 1 a b (Err c.in-Err.fault) has.known c.in-Err.ensures.calls) (omega arith)

pub returns-in-Err-put_head-clause-calls : goal.returns-in-Err-put_head-clause-calls
returns-in-Err-put_head-clause-calls g c = λ file has.
    let a = g.S.Store.state c.args.store.now in
    let b = g.S.Store.state c.begin.new.store in
    let d = g.S.Store.state c.put_head.new.store in
    let n = length (left_of c.args.source.now file) in
    let before = reads_ahead c.args.source.now file + n + 6 in
    let has_b = has_still a b tt c.args.name.now file c.in-Ok.ensures.frame has in
    let one : puts_of c.new-writer.result ≡ 1 = ap puts_of c.new-writer.ensures in
    advances_fails before (λ x. 0) a b d tt c.in-Err-put_head.fault (advances_of 1 a b (Ok tt) has.known c.in-Ok.ensures.calls)
    (advances_of (puts_of c.new-writer.result) b d (Err c.in-Err-put_head.fault) has_b.known c.in-Err-put_head.ensures.calls) (omega (arith, one))

pub returns-in-Err-merge_lists-clause-calls : goal.returns-in-Err-merge_lists-clause-calls
returns-in-Err-merge_lists-clause-calls g c = λ file has.
    let a = g.S.Store.state c.args.store.now in
    let b = g.S.Store.state c.begin.new.store in
    let d = g.S.Store.state c.put_head.new.store in
    let n = length (left_of c.args.source.now file) in
    let before = reads_ahead c.args.source.now file + n + 6 in
    let has_b = has_still a b tt c.args.name.now file c.in-Ok.ensures.frame has in
    let one : puts_of c.new-writer.result ≡ 1 = ap puts_of c.new-writer.ensures in
    let v = c.put_head.new.writer in
    let e = g.S.Store.state c.merge_lists.new.store in
    let writes : v.is_writing ≡ true = c.in-Ok-put_head.ensures.keeps ∙ ap (λ (w : Waiting). w.is_writing) c.new-writer.ensures in
    let put : puts_of v ≡ 1 = ap (λ (t : Bool). if t then 1 else 0) writes in
    let ahead : puts_ahead v c.args.source.now file ≡ n = ap (λ (t : Bool). if t then n else 0) writes in
    let has_d = has_still b d tt c.args.name.now file c.in-Ok-put_head.ensures.frame has_b in
    let head = advances_then {V = Unit {0}} before (λ x. reads_ahead c.args.source.now file + n + 4) a b d tt tt tt
    (advances_of 1 a b (Ok tt) has.known c.in-Ok.ensures.calls)
    (advances_of (puts_of c.new-writer.result) b d (Ok tt) has_b.known c.in-Ok-put_head.ensures.calls) (omega (arith, one)) in
    advances_fails before (λ x. 0) a d e tt c.in-Err-merge_lists.fault head (c.in-Err-merge_lists.ensures.calls file has_d) (omega (arith, put, ahead))

pub returns-in-Ok-flush-clause-calls : goal.returns-in-Ok-flush-clause-calls
returns-in-Ok-flush-clause-calls g c = λ file has.
    let a = g.S.Store.state c.args.store.now in
    let b = g.S.Store.state c.begin.new.store in
    let d = g.S.Store.state c.put_head.new.store in
    let n = length (left_of c.args.source.now file) in
    let before = reads_ahead c.args.source.now file + n + 6 in
    let has_b = has_still a b tt c.args.name.now file c.in-Ok.ensures.frame has in
    let one : puts_of c.new-writer.result ≡ 1 = ap puts_of c.new-writer.ensures in
    let v = c.put_head.new.writer in
    let e = g.S.Store.state c.merge_lists.new.store in
    let writes : v.is_writing ≡ true = c.in-Ok-put_head.ensures.keeps ∙ ap (λ (w : Waiting). w.is_writing) c.new-writer.ensures in
    let put : puts_of v ≡ 1 = ap (λ (t : Bool). if t then 1 else 0) writes in
    let ahead : puts_ahead v c.args.source.now file ≡ n = ap (λ (t : Bool). if t then n else 0) writes in
    let has_d = has_still b d tt c.args.name.now file c.in-Ok-put_head.ensures.frame has_b in
    let head = advances_then {V = Unit {0}} before (λ x. reads_ahead c.args.source.now file + n + 4) a b d tt tt tt
    (advances_of 1 a b (Ok tt) has.known c.in-Ok.ensures.calls)
    (advances_of (puts_of c.new-writer.result) b d (Ok tt) has_b.known c.in-Ok-put_head.ensures.calls) (omega (arith, one)) in
    let f = g.S.Store.state c.flush.new.store in
    let known_e = (has_still d e c.in-Ok-merge_lists.counted c.args.name.now file c.in-Ok-merge_lists.ensures.frame has_d).known in
    let lists = advances_then {V = Unit {0}} before (λ x. 1) a d e tt c.in-Ok-merge_lists.counted tt head (c.in-Ok-merge_lists.ensures.calls file has_d)
    (omega (arith, put, ahead)) in
    advances_then {U = Unit {0}} {c = 1} {g = λ x. 0} before (λ x. 0) a e f tt tt c.in-Ok-merge_lists.counted lists
    (record { spent = down_of 1 e.left f.left c.in-Ok-flush.ensures.calls.spent; lacks = tt }) (omega arith)

pub returns-clause-calls : goal.returns-clause-calls
returns-clause-calls g c = λ file has.
    let a = g.S.Store.state c.args.store.now in
    let b = g.S.Store.state c.begin.new.store in
    let d = g.S.Store.state c.put_head.new.store in
    let n = length (left_of c.args.source.now file) in
    let before = reads_ahead c.args.source.now file + n + 6 in
    let has_b = has_still a b tt c.args.name.now file c.in-Ok.ensures.frame has in
    let one : puts_of c.new-writer.result ≡ 1 = ap puts_of c.new-writer.ensures in
    let v = c.put_head.new.writer in
    let e = g.S.Store.state c.merge_lists.new.store in
    let writes : v.is_writing ≡ true = c.in-Ok-put_head.ensures.keeps ∙ ap (λ (w : Waiting). w.is_writing) c.new-writer.ensures in
    let put : puts_of v ≡ 1 = ap (λ (t : Bool). if t then 1 else 0) writes in
    let ahead : puts_ahead v c.args.source.now file ≡ n = ap (λ (t : Bool). if t then n else 0) writes in
    let has_d = has_still b d tt c.args.name.now file c.in-Ok-put_head.ensures.frame has_b in
    let head = advances_then {V = Unit {0}} before (λ x. reads_ahead c.args.source.now file + n + 4) a b d tt tt tt
    (advances_of 1 a b (Ok tt) has.known c.in-Ok.ensures.calls)
    (advances_of (puts_of c.new-writer.result) b d (Ok tt) has_b.known c.in-Ok-put_head.ensures.calls) (omega (arith, one)) in
    let f = g.S.Store.state c.flush.new.store in
    let known_e = (has_still d e c.in-Ok-merge_lists.counted c.args.name.now file c.in-Ok-merge_lists.ensures.frame has_d).known in
    let lists = advances_then {V = Unit {0}} before (λ x. 1) a d e tt c.in-Ok-merge_lists.counted tt head (c.in-Ok-merge_lists.ensures.calls file has_d)
    (omega (arith, put, ahead)) in
    advances_fails {U = Unit {0}} {c = 1} {g = λ x. 0} before (λ x. 0) a e f tt c.unwritten.result lists
    (record { spent = tt; lacks = λ blame. c.in-Err-flush.ensures.calls.lacks known_e (c.unwritten.ensures.device.1 blame) }) (omega arith)
