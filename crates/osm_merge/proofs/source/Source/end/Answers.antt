use Rattle.std.proofs.Common.{◌≡◌, length, true, false, arith, lit≤}
use Rattle.std.specs.Prelude.{◌==◌, Err, Ok, codes}
use Rattle.osm_blocks.specs.Places.{left_of}
use Rattle.osm_save.specs.Reading.{fixed_at}
use Rattle.osm_merge.specs.Mirrors.{end_at}
use Rattle.osm_merge.proofs.FrameLemmas.{has_still}
use Rattle.osm_merge.proofs.LineLemmas.{refuses_all}
use Rattle.osm_merge.proofs.ListLemmas.{end_done, end_left, end_none, ends_refused}
use Rattle.osm_merge.proofs.ObjectLemmas.{bad_refuses}
use Rattle.osm_merge.proofs.CallLemmas.{advances_fails, advances_of, advances_then}
use Rattle.osm_blocks.specs.Calls.{reads_ahead}
use Rattle.osm_merge.proofs.CallLemmas.{bad_blames}
use Rattle.osm_merge.proofs.source.Source.end.Goals as goal

pub returns-in-Err-clause-read : goal.returns-in-Err-clause-read
returns-in-Err-clause-read g c = λ file has.
    refuses_all file c.in-Err.fault (fixed_at (codes "end") (left_of c.args.self.now file)) (end_at (left_of c.args.self.now file))
    (c.in-Err.ensures.read file has (lit≤ tt)) (end_none (left_of c.args.self.now file))

pub returns-in-Err-is_ended-clause-read : goal.returns-in-Err-is_ended-clause-read
returns-in-Err-is_ended-clause-read g c = λ file has.
    ends_refused file c.fixed.new.self c.in-Err-is_ended.fault (end_at (left_of c.args.self.now file))
    (c.in-Err-is_ended.ensures.ended file
    (has_still (g.S.Store.state c.args.store.now) (g.S.Store.state c.fixed.new.store) tt c.args.name.now file c.in-Ok.ensures.frame has))

pub returns-then-not-is_ended-clause-read : goal.returns-then-not-is_ended-clause-read
returns-then-not-is_ended-clause-read g c = λ file has.
    let ended : (length (left_of c.fixed.new.self file) == 0) ≡ false =
    rw c.if-not-is_ended.true at (c.in-Ok-is_ended.ensures.ended file
    (has_still (g.S.Store.state c.args.store.now) (g.S.Store.state c.fixed.new.store) tt c.args.name.now file c.in-Ok.ensures.frame has)) in
    bad_refuses file c.wrong.result (end_at (left_of c.args.self.now file)) c.wrong.ensures
    (end_left (left_of c.args.self.now file) (left_of c.fixed.new.self file) (c.in-Ok.ensures.read file has (lit≤ tt)) ended)

pub returns-clause-read : goal.returns-clause-read
returns-clause-read g c = λ file has.
    let ended : (length (left_of c.fixed.new.self file) == 0) ≡ true =
    rw c.if-not-is_ended.false at (c.in-Ok-is_ended.ensures.ended file
    (has_still (g.S.Store.state c.args.store.now) (g.S.Store.state c.fixed.new.store) tt c.args.name.now file c.in-Ok.ensures.frame has)) in
    end_done (left_of c.args.self.now file) (left_of c.fixed.new.self file) (c.in-Ok.ensures.read file has (lit≤ tt)) ended

pub returns-in-Err-clause-calls : goal.returns-in-Err-clause-calls
returns-in-Err-clause-calls g c = λ file has. record { spent = tt; lacks = (c.in-Err.ensures.calls file has).lacks }

pub returns-in-Err-is_ended-clause-calls : goal.returns-in-Err-is_ended-clause-calls
returns-in-Err-is_ended-clause-calls g c = λ file has.
    let a = g.S.Store.state c.args.store.now in
    let b = g.S.Store.state c.fixed.new.store in
    let d = g.S.Store.state c.is_ended.new.store in
    let known = (has_still a b tt c.args.name.now file c.in-Ok.ensures.frame has).known in
    advances_fails (reads_ahead c.args.self.now file) (λ x. 0) a b d tt c.in-Err-is_ended.fault (c.in-Ok.ensures.calls file has)
    (advances_of 1 b d (Err c.in-Err-is_ended.fault) known c.in-Err-is_ended.ensures.calls) (omega arith)

pub returns-clause-calls : goal.returns-clause-calls
returns-clause-calls g c = λ file has.
    let a = g.S.Store.state c.args.store.now in
    let b = g.S.Store.state c.fixed.new.store in
    let d = g.S.Store.state c.is_ended.new.store in
    let known = (has_still a b tt c.args.name.now file c.in-Ok.ensures.frame has).known in
    advances_then (reads_ahead c.args.self.now file) (λ x. 0) a b d tt c.in-Ok-is_ended.is_ended tt (c.in-Ok.ensures.calls file has)
    (advances_of 1 b d (Ok c.in-Ok-is_ended.is_ended) known c.in-Ok-is_ended.ensures.calls) (omega arith)

pub returns-then-not-is_ended-clause-calls : goal.returns-then-not-is_ended-clause-calls
returns-then-not-is_ended-clause-calls g c = λ file has. record { spent = tt; lacks = bad_blames c.wrong.result c.wrong.ensures }
