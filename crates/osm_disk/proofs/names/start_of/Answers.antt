use Rattle.std.proofs.Common.{◌≡◌, IfOk, rules}
use Rattle.std.specs.Prelude.{string_bytes}
use Rattle.osm_disk.specs.Names.{IsBare, IsIn, IsStartOf, hidden_start, of_bare, of_below}
use Rattle.osm_disk.proofs.NameLemmas.{made}
use Rattle.osm_disk.proofs.names.start_of.Goals as goal

pub returns-in-None : goal.returns-in-None
returns-in-None c =
    let bare : IsBare c.args.path.now = search rules in
    let is : IfOk c.hidden_start.result (λ s. string_bytes s ≡ hidden_start c.args.path.now) = search rules in
    made string_bytes c.hidden_start.result (hidden_start c.args.path.now) (IsStartOf c.args.path.now) is (of_bare bare)

pub returns-in-Some : goal.returns-in-Some
returns-in-Some c =
    let below : IsIn c.in-Some.field-0-0.now c.in-Some.name.now c.args.path.now = search rules in
    let is : IfOk c.hidden_start-in-Some.result (λ s. string_bytes s ≡ hidden_start c.in-Some.name.now) = search rules in
    made string_bytes c.hidden_start-in-Some.result (hidden_start c.in-Some.name.now) (IsStartOf c.args.path.now) is
    (of_below c.in-Some.field-0-0.now c.in-Some.name.now below)
