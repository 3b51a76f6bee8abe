use Rattle.std.proofs.Common.{arith, ◌/◌}
use Rattle.osm_o5c.proofs.WriteLemmas.{on_ok, varint_last, varint_more}
use Rattle.osm_o5c.proofs.numbers.write_long.Goals as goal

pub returns-then-second-lt128 : goal.returns-then-second-lt128
returns-then-second-lt128 c =
    let n = c.args.number in
    let one = c.push_reserved.new.self.items in
    let new = c.push_reserved-then-second-lt128.new.self.items in
    varint_more 10 n c.args.out.now.items one new (omega arith) (omega arith) c.push_reserved.ensures.items
    (varint_last 9 (n / 128) one new (omega arith) (omega arith) c.push_reserved-then-second-lt128.ensures.items)

pub returns-then-third-lt128 : goal.returns-then-third-lt128
returns-then-third-lt128 c =
    let n = c.args.number in
    let one = c.push_reserved.new.self.items in
    let two = c.push_reserved-2.new.self.items in
    let new = c.push_reserved-then-third-lt128.new.self.items in
    varint_more 10 n c.args.out.now.items one new (omega arith) (omega arith) c.push_reserved.ensures.items
    (varint_more 9 (n / 128) one two new (omega arith) (omega arith) c.push_reserved-2.ensures.items
    (varint_last 8 (n / 128 / 128) two new (omega arith) (omega arith) c.push_reserved-then-third-lt128.ensures.items))

pub returns-then-fourth-lt128 : goal.returns-then-fourth-lt128
returns-then-fourth-lt128 c =
    let n = c.args.number in
    let one = c.push_reserved.new.self.items in
    let two = c.push_reserved-2.new.self.items in
    let three = c.push_reserved-3.new.self.items in
    let new = c.push_reserved-then-fourth-lt128.new.self.items in
    varint_more 10 n c.args.out.now.items one new (omega arith) (omega arith) c.push_reserved.ensures.items
    (varint_more 9 (n / 128) one two new (omega arith) (omega arith) c.push_reserved-2.ensures.items
    (varint_more 8 (n / 128 / 128) two three new (omega arith) (omega arith) c.push_reserved-3.ensures.items
    (varint_last 7 (n / 128 / 128 / 128) three new (omega arith) (omega arith) c.push_reserved-then-fourth-lt128.ensures.items)))

pub returns-then-fifth-lt128 : goal.returns-then-fifth-lt128
returns-then-fifth-lt128 c =
    let n = c.args.number in
    let one = c.push_reserved.new.self.items in
    let two = c.push_reserved-2.new.self.items in
    let three = c.push_reserved-3.new.self.items in
    let four = c.push_reserved-4.new.self.items in
    let new = c.push_reserved-then-fifth-lt128.new.self.items in
    varint_more 10 n c.args.out.now.items one new (omega arith) (omega arith) c.push_reserved.ensures.items
    (varint_more 9 (n / 128) one two new (omega arith) (omega arith) c.push_reserved-2.ensures.items
    (varint_more 8 (n / 128 / 128) two three new (omega arith) (omega arith) c.push_reserved-3.ensures.items
    (varint_more 7 (n / 128 / 128 / 128) three four new (omega arith) (omega arith) c.push_reserved-4.ensures.items
    (varint_last 6 (n / 128 / 128 / 128 / 128) four new (omega arith) (omega arith) c.push_reserved-then-fifth-lt128.ensures.items))))

pub returns : goal.returns
returns c =
    let n = c.args.number in
    let one = c.push_reserved.new.self.items in
    let two = c.push_reserved-2.new.self.items in
    let three = c.push_reserved-3.new.self.items in
    let four = c.push_reserved-4.new.self.items in
    let new = c.write_varint-2.new.out.items in
    on_ok c.write_varint-2.result c.write_varint-2.ensures (λ e.
    varint_more 10 n c.args.out.now.items one new (omega arith) (omega arith) c.push_reserved.ensures.items
    (varint_more 9 (n / 128) one two new (omega arith) (omega arith) c.push_reserved-2.ensures.items
    (varint_more 8 (n / 128 / 128) two three new (omega arith) (omega arith) c.push_reserved-3.ensures.items
    (varint_more 7 (n / 128 / 128 / 128) three four new (omega arith) (omega arith) c.push_reserved-4.ensures.items e))))
