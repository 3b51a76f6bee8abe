use Rattle.std.proofs.Common.{rules, arith, ◌≤◌, length}
use Rattle.osm_o5c.proofs.VarintLemmas.{varint_none}
use Rattle.osm_o5c.proofs.numbers.last_index.Goals as goal

pub returns-in-None-clause-none : goal.returns-in-None-clause-none
returns-in-None-clause-none c _ =
    let past : length c.args.bytes.now ≤ c.loop-index.index = search rules in
    varint_none 10 c.args.bytes.now (λ k few within. c.loop-index.invariant.high k (omega arith))

pub returns-clause-none : goal.returns-clause-none
returns-clause-none c _ = varint_none 10 c.args.bytes.now (λ k few within. c.loop-index.invariant.high k (omega arith))
