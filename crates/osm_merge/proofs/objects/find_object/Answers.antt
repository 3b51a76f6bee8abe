use Rattle.std.proofs.Common.{◌≡◌, ◌+◌, Some, None, take, sym}
use Rattle.osm_blocks.specs.Places.{left_of, past}
use Rattle.osm_save.specs.Reading.{IsKeyOf, object_at, object_of}
use Rattle.osm_merge.specs.Laying.{next_at}
use Rattle.osm_merge.proofs.LineLemmas.{refused_by}
use Rattle.osm_merge.proofs.ObjectLemmas.{bad_refuses, key_spelled, next_is, next_none, object_long}
use Rattle.osm_merge.proofs.CallLemmas.{bad_blames}
use Rattle.osm_merge.proofs.objects.find_object.Goals as goal

pub returns-in-Err-clause-refused : goal.returns-in-Err-clause-refused
returns-in-Err-clause-refused g c = λ file has.
    refused_by file c.args.source.now c.next.new.self c.in-Err.fault (next_at (object_at c.args.filter.now) c.args.last (left_of c.args.source.now file))
    (c.in-Err.ensures.found file has) (next_none (object_at c.args.filter.now) c.args.last (left_of c.args.source.now file))
    (object_long c.args.filter.now c.args.last (left_of c.args.source.now file))

pub returns-in-Ok-Some-clause-read : goal.returns-in-Ok-Some-clause-read
returns-in-Ok-Some-clause-read g c = λ file has.
    let found : IsKeyOf c.args.filter.now c.args.last c.line.result.now (Some c.in-Ok-Some.key) = rw c.in-Ok-Some.field-0-is at c.in-Ok-Some.ensures in
    let read : Some (object_of c.line.result.now) ≡ object_at c.args.filter.now c.args.last c.line.result.now = sym found.read in
    next_is (object_at c.args.filter.now) c.args.last (left_of c.args.source.now file) (take c.in-Ok.count c.next.new.self.unread)
    (left_of (past (c.in-Ok.count + 1) c.next.new.self) file) (Some (object_of (take c.in-Ok.count c.next.new.self.unread)))
    (c.in-Ok.ensures.found file has) (rw c.line.ensures at read)

pub returns-in-Ok-Some-clause-spelled : goal.returns-in-Ok-Some-clause-spelled
returns-in-Ok-Some-clause-spelled g c =
    let found : IsKeyOf c.args.filter.now c.args.last c.line.result.now (Some c.in-Ok-Some.key) = rw c.in-Ok-Some.field-0-is at c.in-Ok-Some.ensures in
    rw c.line.ensures at (key_spelled c.args.filter.now c.args.last c.line.result.now c.in-Ok-Some.key found)

pub returns-in-Ok-None-clause-refused : goal.returns-in-Ok-None-clause-refused
returns-in-Ok-None-clause-refused g c = λ file has.
    let found : IsKeyOf c.args.filter.now c.args.last c.line.result.now None = rw c.in-Ok-None.field-0-is at c.in-Ok-None.ensures in
    let read : None ≡ object_at c.args.filter.now c.args.last c.line.result.now = sym found.read in
    bad_refuses file c.wrong.result (next_at (object_at c.args.filter.now) c.args.last (left_of c.args.source.now file)) c.wrong.ensures
    (next_is (object_at c.args.filter.now) c.args.last (left_of c.args.source.now file) (take c.in-Ok.count c.next.new.self.unread)
    (left_of (past (c.in-Ok.count + 1) c.next.new.self) file) None (c.in-Ok.ensures.found file has) (rw c.line.ensures at read))

pub returns-in-Err-clause-calls : goal.returns-in-Err-clause-calls
returns-in-Err-clause-calls g c = λ file has. record { spent = tt; lacks = (c.in-Err.ensures.calls file has).lacks }

pub returns-in-Ok-None-clause-calls : goal.returns-in-Ok-None-clause-calls
returns-in-Ok-None-clause-calls g c = λ file has. record { spent = tt; lacks = bad_blames c.wrong.result c.wrong.ensures }

pub returns-in-Ok-Some-clause-calls : goal.returns-in-Ok-Some-clause-calls
returns-in-Ok-Some-clause-calls g c = λ file has. record { spent = (c.in-Ok.ensures.calls file has).spent; lacks = tt }
