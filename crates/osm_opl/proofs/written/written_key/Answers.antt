use Rattle.std.proofs.Common.{◌≡◌, length, arith, rules}
use Rattle.osm_opl.proofs.BeginFieldLemmas.{line_is}
use Rattle.osm_opl.proofs.written.written_key.Goals as goal

pub returns : goal.returns
returns c =
    let none : length c.in_ok-rest.rest.now ≡ 0 = search (arith, rules) in
    line_is c.args.line.now c.in_ok-key.rest.now c.in_ok-after_head.field-0.now c.in_ok-rest.rest.now c.in_ok-key.key
    c.in_ok-key.ensures.parts c.in_ok-key.ensures.limits c.in_ok-after_head.ensures c.in_ok-rest.ensures none
