use Rattle.std.proofs.Common.{rules, arith, ◌≤◌, lit<, ◌-◌, ◌^◌}
use Rattle.std.proofs.Math.Nat.{one-le-pow}
use Rattle.osm_opl.specs.Room.{LacksRoom}
use Rattle.osm_opl.specs.Written.{hex_digits}
use Rattle.osm_opl.proofs.RoomLemmas.{lacks_digit}
use Rattle.osm_opl.proofs.WrittenLemmas.{on_err}
use Rattle.osm_opl.proofs.WrittenLemmas.{hex_done, hex_more, hex_scale}
use Rattle.osm_opl.proofs.escapes.write_hex.Goals as goal

pub pow-requires : goal.pow-requires
pow-requires c = hex_scale (c.loop-left.left - 1) (let few : c.loop-left.left ≤ 6 = c.loop-left.invariant.0.few in omega arith)

pub nonzero_div-code : goal.nonzero_div-code
nonzero_div-code c = rw c.pow.ensures (let some : 1 ≤ 16 ^ (c.loop-left.left - 1) = one-le-pow (c.loop-left.left - 1) 16 (lit< tt) in omega arith)

pub loop-left-preserved : goal.loop-left-preserved
loop-left-preserved c = (
  hex_more c.args.out.now.items c.loop-left.out.items c.push.new.self.items c.args.code c.args.count c.loop-left.left
      c.loop-left.invariant.0 c.loop-left-test.true (search rules),
  search (arith, rules),
)

pub returns-clause-ok : goal.returns-clause-ok
returns-clause-ok c =
    hex_done c.args.out.now.items c.loop-left.out.items c.args.code c.args.count c.loop-left.left c.loop-left.invariant.0 (omega arith)

pub returns-in_err-push-clause-refused : goal.returns-in_err-push-clause-refused
returns-in_err-push-clause-refused c =
    on_err c.from_residual.result (LacksRoom c.args.out.now (hex_digits c.args.count c.args.code))
    (lacks_digit c.args.out.now c.loop-left.out c.args.code c.args.count c.loop-left.left c.loop-left.invariant.0
    (omega arith) c.loop-left.invariant.1 (search (arith, rules)))
