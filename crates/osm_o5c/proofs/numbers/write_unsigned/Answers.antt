use Rattle.std.proofs.Common.{arith}
use Rattle.osm_o5c.proofs.WriteLemmas.{varint_last}
use Rattle.osm_o5c.proofs.numbers.write_unsigned.Goals as goal

pub returns-then-number-lt128 : goal.returns-then-number-lt128
returns-then-number-lt128 c = varint_last 10 c.args.number c.args.out.now.items c.push.new.self.items (omega arith) (omega arith) c.in_ok-push.ensures.items
