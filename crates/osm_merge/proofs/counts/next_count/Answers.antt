use Rattle.std.proofs.Common.{◌≡◌, ◌+◌, Some, None, take, sym}
use Rattle.osm_blocks.specs.Places.{left_of, past}
use Rattle.osm_save.specs.Reading.{count_at}
use Rattle.osm_save.proofs.CountLemmas.{count_takes}
use Rattle.osm_merge.specs.Laying.{next_at}
use Rattle.osm_merge.proofs.LineLemmas.{refused_by}
use Rattle.osm_merge.proofs.CountLemmas.{count_long}
use Rattle.osm_merge.proofs.ObjectLemmas.{bad_refuses, next_is, next_none}
use Rattle.osm_merge.proofs.CallLemmas.{bad_blames}
use Rattle.osm_merge.proofs.counts.next_count.Goals as goal

pub returns-in-Err-clause-read : goal.returns-in-Err-clause-read
returns-in-Err-clause-read g c = λ file has.
    refused_by file c.args.source.now c.next.new.self c.in-Err.fault (next_at (count_at c.args.most) c.args.last (left_of c.args.source.now file))
    (c.in-Err.ensures.found file has) (next_none (count_at c.args.most) c.args.last (left_of c.args.source.now file))
    (count_long c.args.most c.args.last (left_of c.args.source.now file) c.requires)

pub returns-in_default-clause-read : goal.returns-in_default-clause-read
returns-in_default-clause-read g c = λ file has.
    let read : None ≡ count_at c.args.most c.args.last c.line.result.now = c.in_default.ensures in
    bad_refuses file c.wrong.result (next_at (count_at c.args.most) c.args.last (left_of c.args.source.now file)) c.wrong.ensures
    (next_is (count_at c.args.most) c.args.last (left_of c.args.source.now file) (take c.in-Ok.length c.next.new.self.unread)
    (left_of (past (c.in-Ok.length + 1) c.next.new.self) file) None (c.in-Ok.ensures.found file has) (rw c.line.ensures at read))

pub returns-clause-read : goal.returns-clause-read
returns-clause-read g c = λ file has.
    let read : Some c.in-Some.count ≡ count_at c.args.most c.args.last c.line.result.now = c.in-Some.ensures in
    rw c.pass.ensures (next_is (count_at c.args.most) c.args.last (left_of c.args.source.now file) (take c.in-Ok.length c.next.new.self.unread)
    (left_of (past (c.in-Ok.length + 1) c.next.new.self) file) (Some c.in-Some.count) (c.in-Ok.ensures.found file has) (rw c.line.ensures at read))

pub returns-clause-limit : goal.returns-clause-limit
returns-clause-limit g c = (count_takes c.args.most c.args.last c.line.result.now c.in-Some.count (sym c.in-Some.ensures)).few

pub returns-in-Err-clause-calls : goal.returns-in-Err-clause-calls
returns-in-Err-clause-calls g c = λ file has. record { spent = tt; lacks = (c.in-Err.ensures.calls file has).lacks }

pub returns-in_default-clause-calls : goal.returns-in_default-clause-calls
returns-in_default-clause-calls g c = λ file has. record { spent = tt; lacks = bad_blames c.wrong.result c.wrong.ensures }

pub returns-clause-calls : goal.returns-clause-calls
returns-clause-calls g c = λ file has. rw c.pass.ensures (record { spent = (c.in-Ok.ensures.calls file has).spent; lacks = tt })
