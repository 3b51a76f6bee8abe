use Rattle.std.proofs.Common.{arith, w64}
use Rattle.std.proofs.lemmas.Int.{to_z-of_z}
use Rattle.osm_o5c.proofs.WriteLemmas.{on_ok, varint_last, varint_more, as_difference}
use Rattle.osm_o5c.proofs.numbers.write_wide_difference.Goals as goal

pub returns-then-zigzag-lt128 : goal.returns-then-zigzag-lt128
returns-then-zigzag-lt128 c =
    as_difference c.zigzag_difference-zigzag.result c.args.before c.args.value c.args.out.now.items
    c.push.new.self.items
    (rw (to_z-of_z w64 c.args.value c.ranges.value, to_z-of_z w64 c.args.before c.ranges.before) at
    c.zigzag_difference-zigzag.ensures.value)
    (varint_last 10 c.zigzag_difference-zigzag.result c.args.out.now.items c.push.new.self.items (omega arith) (omega arith) c.in_ok-push.ensures.items)

pub returns : goal.returns
returns c = on_ok c.write_varint.result c.write_varint.ensures
    (λ e. as_difference c.zigzag_difference-zigzag.result c.args.before c.args.value c.args.out.now.items
    c.write_varint.new.out.items
    (rw (to_z-of_z w64 c.args.value c.ranges.value, to_z-of_z w64 c.args.before c.ranges.before) at
    c.zigzag_difference-zigzag.ensures.value)
    (varint_more 10 c.zigzag_difference-zigzag.result c.args.out.now.items c.push-2.new.self.items
    c.write_varint.new.out.items (omega arith) (omega arith) c.in_ok-push-2.ensures.items e))
