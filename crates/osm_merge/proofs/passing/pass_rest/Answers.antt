use Rattle.std.proofs.Common.{arith}
use Rattle.std.specs.Prelude.{codes}
use Rattle.osm_blocks.specs.Calls.{reads_ahead}
use Rattle.osm_blocks.specs.Places.{left_of}
use Rattle.osm_save.specs.Head.{most_counted}
use Rattle.osm_save.specs.Reading.{counts_at}
use Rattle.osm_merge.specs.Mirrors.{both_at, end_at}
use Rattle.osm_merge.proofs.CallLemmas.{advances_fails, advances_first, advances_then}
use Rattle.osm_merge.proofs.FrameLemmas.{has_still}
use Rattle.osm_merge.proofs.LineLemmas.{refuses_all}
use Rattle.osm_merge.proofs.ListLemmas.{both_after, both_none, both_read, both_unended}
use Rattle.osm_merge.proofs.passing.pass_rest.Goals as goal

pub returns-in-Err-clause-refused : goal.returns-in-Err-clause-refused
returns-in-Err-clause-refused g c = λ file has.
    let most = most_counted c.args.opening.now.head in
    let bytes = left_of c.args.source.now file in
    refuses_all file c.in-Err.fault (counts_at (codes "users ") most bytes) (both_at most bytes) (c.in-Err.ensures.refused file has) (both_none most bytes)

pub returns-in-Err-pass_list-clause-refused : goal.returns-in-Err-pass_list-clause-refused
returns-in-Err-pass_list-clause-refused g c = λ file has.
    let most = most_counted c.args.opening.now.head in
    let bytes = left_of c.args.source.now file in
    let after = left_of c.pass_list.new.source file in
    let has_b = has_still (g.S.Store.state c.args.store.now) (g.S.Store.state c.pass_list.new.store) tt c.args.name.now file c.in-Ok.ensures.frame has in
    let us = c.in-Ok.ensures.passed file has in
    refuses_all file c.in-Err-pass_list.fault (counts_at (codes "changesets ") most after) (both_at most bytes)
    (c.in-Err-pass_list.ensures.refused file has_b) (both_after most bytes after us.value us.read)

pub returns-in-Ok-end-clause-passed : goal.returns-in-Ok-end-clause-passed
returns-in-Ok-end-clause-passed g c = λ file has.
    let a = g.S.Store.state c.args.store.now in
    let b = g.S.Store.state c.pass_list.new.store in
    let d = g.S.Store.state c.pass_list-2.new.store in
    let has_b = has_still a b tt c.args.name.now file c.in-Ok.ensures.frame has in
    let has_d = has_still b d tt c.args.name.now file c.in-Ok-pass_list.ensures.frame has_b in
    let us = c.in-Ok.ensures.passed file has in
    let ss = c.in-Ok-pass_list.ensures.passed file has_b in
    record {
      value = (us.value, ss.value);
      read = both_read (most_counted c.args.opening.now.head) (left_of c.args.source.now file) (left_of c.pass_list.new.source file)
          (left_of c.pass_list-2.new.source file) us.value ss.value us.read ss.read (c.in-Ok-end.ensures.read file has_d);
    }

pub returns-in-Err-end-clause-refused : goal.returns-in-Err-end-clause-refused
returns-in-Err-end-clause-refused g c = λ file has.
    let a = g.S.Store.state c.args.store.now in
    let b = g.S.Store.state c.pass_list.new.store in
    let d = g.S.Store.state c.pass_list-2.new.store in
    let most = most_counted c.args.opening.now.head in
    let bytes = left_of c.args.source.now file in
    let has_b = has_still a b tt c.args.name.now file c.in-Ok.ensures.frame has in
    let has_d = has_still b d tt c.args.name.now file c.in-Ok-pass_list.ensures.frame has_b in
    let us = c.in-Ok.ensures.passed file has in
    let ss = c.in-Ok-pass_list.ensures.passed file has_b in
    refuses_all file c.in-Err-end.fault (end_at (left_of c.pass_list-2.new.source file)) (both_at most bytes) (c.in-Err-end.ensures.read file has_d)
    (both_unended most bytes (left_of c.pass_list.new.source file) (left_of c.pass_list-2.new.source file) us.value ss.value us.read ss.read)

pub returns-in-Err-clause-calls : goal.returns-in-Err-clause-calls
returns-in-Err-clause-calls g c = λ file has.
    advances_first (reads_ahead c.args.source.now file) (λ x. 0) (g.S.Store.state c.args.store.now) (g.S.Store.state c.pass_list.new.store) c.in-Err.fault
    (c.in-Err.ensures.calls file has) (omega arith)

pub returns-in-Err-pass_list-clause-calls : goal.returns-in-Err-pass_list-clause-calls
returns-in-Err-pass_list-clause-calls g c = λ file has.
    let a = g.S.Store.state c.args.store.now in
    let b = g.S.Store.state c.pass_list.new.store in
    let has_b = has_still a b tt c.args.name.now file c.in-Ok.ensures.frame has in
    advances_fails (reads_ahead c.args.source.now file) (λ x. 0) a b (g.S.Store.state c.pass_list-2.new.store) tt c.in-Err-pass_list.fault
    (c.in-Ok.ensures.calls file has) (c.in-Err-pass_list.ensures.calls file has_b) (omega arith)

pub returns-in-Ok-end-clause-calls : goal.returns-in-Ok-end-clause-calls
returns-in-Ok-end-clause-calls g c = λ file has.
    let a = g.S.Store.state c.args.store.now in
    let b = g.S.Store.state c.pass_list.new.store in
    let d = g.S.Store.state c.pass_list-2.new.store in
    let has_b = has_still a b tt c.args.name.now file c.in-Ok.ensures.frame has in
    let has_d = has_still b d tt c.args.name.now file c.in-Ok-pass_list.ensures.frame has_b in
    let both = advances_then {V = Unit {0}} (reads_ahead c.args.source.now file) (λ x. reads_ahead c.pass_list-2.new.source file) a b d tt tt tt
    (c.in-Ok.ensures.calls file has) (c.in-Ok-pass_list.ensures.calls file has_b) (omega arith) in
    advances_then (reads_ahead c.args.source.now file) (λ x. 0) a d (g.S.Store.state c.end.new.store) tt tt tt both (c.in-Ok-end.ensures.calls file has_d)
    (omega arith)

pub returns-in-Err-end-clause-calls : goal.returns-in-Err-end-clause-calls
returns-in-Err-end-clause-calls g c = λ file has.
    let a = g.S.Store.state c.args.store.now in
    let b = g.S.Store.state c.pass_list.new.store in
    let d = g.S.Store.state c.pass_list-2.new.store in
    let has_b = has_still a b tt c.args.name.now file c.in-Ok.ensures.frame has in
    let has_d = has_still b d tt c.args.name.now file c.in-Ok-pass_list.ensures.frame has_b in
    let both = advances_then {V = Unit {0}} (reads_ahead c.args.source.now file) (λ x. reads_ahead c.pass_list-2.new.source file) a b d tt tt tt
    (c.in-Ok.ensures.calls file has) (c.in-Ok-pass_list.ensures.calls file has_b) (omega arith) in
    advances_fails (reads_ahead c.args.source.now file) (λ x. 0) a d (g.S.Store.state c.end.new.store) tt c.in-Err-end.fault both
    (c.in-Err-end.ensures.calls file has_d) (omega arith)
