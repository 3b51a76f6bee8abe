use Rattle.std.proofs.Common.{◌≡◌, length, arith, rules}
use Rattle.osm_opl.proofs.FlatLemmas.{line_flat}
use Rattle.osm_opl.proofs.flat.flat_line.Goals as goal

pub returns : goal.returns
returns c =
    let none : length c.in_ok-tags.rest.now ≡ 0 = search (arith, rules) in
    line_flat c.args.line.now c.in_ok-key.rest.now c.in_ok-numbers.rest.now c.split_bare.result.1.now c.in_ok-tags.rest.now (record {
      key = c.in_ok-key.key;
      numbers = c.in_ok-numbers.numbers;
      user = c.split_bare.result.0;
      tags = c.in_ok-tags.tags;
      what = c.in_ok-tags.what;
    }) c.in_ok-key.ensures.parts c.in_ok-key.ensures.limits c.in_ok-numbers.ensures c.split_bare.ensures c.in_ok-tags.ensures none
