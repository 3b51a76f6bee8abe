use Rattle.std.proofs.Common.{◌≡◌, [], arith, drop, length}
use Rattle.std.proofs.lemmas.List.{drop_all}
use Rattle.osm_data.proofs.OplCountLemmas.{ended_total, none_left}
use Rattle.osm_data.proofs.opl_counting.OplCounterObjectCounter.pass.Goals as goal

pub lines-preserved : goal.lines-preserved
lines-preserved c = λ more total comes. c.pass_line-rest.ensures.counted more total (c.lines.invariant more total comes)

pub returns-clause-goes_on : goal.returns-clause-goes_on
returns-clause-goes_on c = λ more total comes.
    let all : drop (length c.args.bytes.now) c.args.bytes.now ≡ [] = drop_all (length c.args.bytes.now) c.args.bytes.now (omega arith) in
    let none : c.lines.rest.now ≡ [] = none_left c.lines.rest.now c.is_empty.result c.is_empty.ensures c.lines-test.false in
    rw all (rw none at (c.lines.invariant more total comes))

pub returns-clause-ends : goal.returns-clause-ends
returns-clause-ends c = λ total comes.
    let all : drop (length c.args.bytes.now) c.args.bytes.now ≡ [] = drop_all (length c.args.bytes.now) c.args.bytes.now (omega arith) in
    ended_total c.args.filter.now c.lines.self total (rw all at comes)
