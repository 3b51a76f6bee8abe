use Rattle.std.proofs.Common.{◌≡◌, ◌≤◌, IfOk, length, rules}
use Rattle.std.specs.Prelude.{string_bytes}
use Rattle.osm_disk.specs.Names as names
use Rattle.osm_disk.proofs.NameLemmas.{digest_short, made}
use Rattle.osm_disk.proofs.names.digest_start.Goals as goal

pub returns-clause-short : goal.returns-clause-short
returns-clause-short c =
    let is : IfOk c.format.result (λ s. string_bytes s ≡ names.digest_start c.args.name.now) = search rules in
    made string_bytes c.format.result (names.digest_start c.args.name.now) (λ t. length t ≤ 245) is (digest_short c.args.name.now)
