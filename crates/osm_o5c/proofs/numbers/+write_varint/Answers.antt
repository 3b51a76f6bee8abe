use Rattle.std.proofs.Common.{rules, arith, ◌≡◌}
use Rattle.osm_o5c.proofs.WriteLemmas.{on_ok, varint_none, varint_last, varint_more}
use Rattle.osm_o5c.proofs.numbers.+write_varint.Goals as goal

pub returns-then-most-eq0 : goal.returns-then-most-eq0
returns-then-most-eq0 t c =
    let none : c.args.most ≡ 0 = search rules in
    rw none (varint_none c.args.number c.args.out.now.items)

pub returns-then-number-lt128 : goal.returns-then-number-lt128
returns-then-number-lt128 t c = varint_last c.args.most c.args.number c.args.out.now.items c.push.new.self.items
    (omega arith) (omega arith) c.in_ok-push.ensures.items

pub returns : goal.returns
returns t c = on_ok c.write_varint.result c.write_varint.ensures
    (λ e. varint_more c.args.most c.args.number c.args.out.now.items c.push-2.new.self.items
    c.write_varint.new.out.items (omega arith) (omega arith) c.in_ok-push-2.ensures.items e)
