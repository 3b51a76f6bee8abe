use Rattle.std.proofs.Common.{◌≡◌, ◌+◌, drop}
use Rattle.osm_opl.proofs.FractionLemmas.{after_first}
use Rattle.osm_opl.proofs.prepend.prepend_comma.Goals as goal

-- what follows the comma is what was there
pub returns-then-is_first-clause-written : goal.returns-then-is_first-clause-written
returns-then-is_first-clause-written c =
    let p = c.prepend-comma in
    let after : drop (p.result + 1) p.new.room ≡ drop c.args.end c.args.room.now =
    after_first p.new.room p.result 44 (drop c.args.end c.args.room.now) p.ensures.written in
    let end : p.result + 1 ≡ c.args.end = p.ensures.start in
    rw (c.if-is_first.true, ← end) (rw (← end) at after)
