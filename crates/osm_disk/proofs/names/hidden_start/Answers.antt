use Rattle.std.proofs.Common.{◌≡◌, ◌≤◌, ◌++◌, IfOk, length, rules, arith}
use Rattle.std.specs.Prelude.{codes, string_bytes}
use Rattle.osm_disk.proofs.NameLemmas.{made, named_short}
use Rattle.osm_disk.proofs.names.hidden_start.Goals as goal

pub returns-clause-short : goal.returns-clause-short
returns-clause-short c =
    let text = codes "." ++ (c.args.name.now ++ codes ".osmrepl-") in
    let is : IfOk c.format.result (λ s. string_bytes s ≡ text) = search rules in
    let fits : length c.args.name.now ≤ 235 = search rules in
    made string_bytes c.format.result text (λ t. length t ≤ 245) is (named_short c.args.name.now fits)
