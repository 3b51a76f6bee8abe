use Rattle.std.proofs.Common.{◌≡◌, length, arith, rules}
use Rattle.osm_opl.proofs.BeginFieldLemmas.{line_with}
use Rattle.osm_opl.proofs.written.read_written.Goals as goal

pub returns-then-is_empty : goal.returns-then-is_empty
returns-then-is_empty c =
    let none : length c.in-Some-3.rest.now ≡ 0 = search (arith, rules) in
    let meta = rw c.in-Some-2.is at c.in_ok-meta.ensures in
    let what = rw c.in-Some-3.is at c.in_ok-what.ensures in
    rw c.within_limits.ensures (line_with c.args.line.now c.in-Some.rest.now c.in-Some-2.rest.now c.in-Some-3.rest.now c.in-Some.key
    c.in-Some-2.meta c.in-Some-3.what c.in-Some.ensures.parts meta what none)
