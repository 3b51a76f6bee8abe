use Rattle.std.proofs.Common.{◌≡◌, length, arith, rules}
use Rattle.osm_save.proofs.ObjectLemmas.{key_again}
use Rattle.osm_save.proofs.objects.plain_key.Goals as goal

pub returns : goal.returns
returns c =
    let none : length c.args.filter.now.keys ≡ 0 = search (arith, rules) in
    key_again c.args.filter.now c.args.last c.args.line.now c.in_ok-key.key none c.in_ok-key.ensures (search rules) (search rules)
