use Rattle.std.proofs.Common.{◌≡◌, ◌+◌, ◌≤◌, ◌++◌, IfOk, length, rules}
use Rattle.std.specs.Prelude.{string_bytes}
use Rattle.osm_disk.specs.Names.{hidden_text}
use Rattle.osm_disk.proofs.NameLemmas.{hidden_short, made}
use Rattle.osm_disk.proofs.names.hidden.Goals as goal

pub returns-clause-short : goal.returns-clause-short
returns-clause-short c =
    let is : IfOk c.format.result (λ s. string_bytes s ≡ hidden_text c.args.name.now c.args.process.now) = search rules in
    made string_bytes c.format.result (hidden_text c.args.name.now c.args.process.now)
    (λ t. length t ≤ 245 + length c.args.process.now) is (hidden_short c.args.name.now c.args.process.now)
