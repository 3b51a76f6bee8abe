use Rattle.std.proofs.Common.{◌+◌, Some, None, take, sym}
use Rattle.osm_blocks.specs.Places.{left_of, past}
use Rattle.osm_save.specs.Reading.{object_at}
use Rattle.osm_merge.specs.Laying.{next_at}
use Rattle.osm_merge.specs.Taking.{Takes}
use Rattle.osm_merge.proofs.LineLemmas.{line_still, refused_by}
use Rattle.osm_merge.proofs.ObjectLemmas.{next_is, next_none, object_long}
use Rattle.osm_merge.proofs.objects.pass_object.Goals as goal

pub returns-in-Err-clause-refused : goal.returns-in-Err-clause-refused
returns-in-Err-clause-refused g c = λ file has.
    let last = c.args.between.last in
    refused_by file c.args.source.now c.next.new.self c.in-Err.fault (next_at (object_at c.args.filter.now) last (left_of c.args.source.now file))
    (c.in-Err.ensures.found file has) (next_none (object_at c.args.filter.now) last (left_of c.args.source.now file))
    (object_long c.args.filter.now last (left_of c.args.source.now file))

pub returns-in-Ok-Some-clause-passed : goal.returns-in-Ok-Some-clause-passed
returns-in-Ok-Some-clause-passed g c =
    let last = c.args.between.last in
    let bound = c.args.between.bound in
    let taken : Takes c.args.filter.now last bound c.line.result.now (g.T.LineTaker.ahead c.args.taker.now) (g.T.LineTaker.ahead c.take.new.self)
    (Some c.in-Ok-Some.key) = rw c.in-Ok-Some.field-0-is at c.in-Ok-Some.ensures in (
      taken.0,
      (λ file has.
          rw c.pass.ensures (next_is (object_at c.args.filter.now) last (left_of c.args.source.now file) (take c.in-Ok.count c.next.new.self.unread)
          (left_of (past (c.in-Ok.count + 1) c.next.new.self) file) (Some taken.0) (c.in-Ok.ensures.found file has) (sym (rw c.line.ensures at taken.1)))),
      taken.2,
      taken.3,
      taken.4,
    )

pub returns-in-Ok-None-clause-passed : goal.returns-in-Ok-None-clause-passed
returns-in-Ok-None-clause-passed g c =
    let last = c.args.between.last in
    let bound = c.args.between.bound in
    let left : Takes c.args.filter.now last bound c.line.result.now (g.T.LineTaker.ahead c.args.taker.now) (g.T.LineTaker.ahead c.take.new.self)
    None = rw c.in-Ok-None.field-0-is at c.in-Ok-None.ensures in
    ((λ file has. line_still file c.args.source.now c.next.new.self c.in-Ok.count c.in-Ok.ensures.line (c.in-Ok.ensures.found file has)), left.1)

pub returns-in-Err-clause-calls : goal.returns-in-Err-clause-calls
returns-in-Err-clause-calls g c = λ file has. record { spent = tt; lacks = (c.in-Err.ensures.calls file has).lacks }

pub returns-in-Ok-Some-clause-calls : goal.returns-in-Ok-Some-clause-calls
returns-in-Ok-Some-clause-calls g c = λ file has. rw c.pass.ensures (record { spent = (c.in-Ok.ensures.calls file has).spent; lacks = tt })
