use Rattle.std.proofs.Common.{◌≡◌, ◌++◌, IfOk, rules}
use Rattle.std.specs.Prelude.{codes, string_bytes}
use Rattle.osm_disk.specs.Names.{IsBare, IsIn, IsTemporary, hidden_name, hidden, hidden_below}
use Rattle.osm_disk.proofs.NameLemmas.{made}
use Rattle.osm_disk.proofs.names.temporary_of.Goals as goal

pub returns-in-None : goal.returns-in-None
returns-in-None c =
    let bare : IsBare c.args.path.now = search rules in
    let text = hidden_name c.args.path.now c.args.process in
    let is : IfOk c.hidden.result (λ s. string_bytes s ≡ text) = search rules in
    made string_bytes c.hidden.result text (IsTemporary c.args.path.now c.args.process) is (hidden bare)

pub returns-in-Some : goal.returns-in-Some
returns-in-Some c =
    let below : IsIn c.in-Some.folder.now c.in-Some.name.now c.args.path.now = search rules in
    let text = c.in-Some.folder.now ++ codes "/" ++ hidden_name c.in-Some.name.now c.args.process in
    let is : IfOk c.hidden_below.result (λ s. string_bytes s ≡ text) = search rules in
    made string_bytes c.hidden_below.result text (IsTemporary c.args.path.now c.args.process) is (hidden_below c.in-Some.folder.now c.in-Some.name.now below)
