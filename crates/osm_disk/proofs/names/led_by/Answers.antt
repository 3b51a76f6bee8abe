use Rattle.std.proofs.Common.{◌≡◌, ◌++◌, IfOk, rules}
use Rattle.std.specs.Prelude.{codes, slice_index, string_bytes}
use Rattle.std.specs.Path.{slash}
use Rattle.osm_disk.specs.Names.{IsBare, IsIn, LeadsTo, from_root, from_here, from_folder}
use Rattle.osm_disk.proofs.NameLemmas.{made}
use Rattle.osm_disk.proofs.names.led_by.Goals as goal

pub returns-then-begins_at_root : goal.returns-then-begins_at_root
returns-then-begins_at_root c =
    let first : slice_index c.args.text.now 0 ≡ slash = search rules in
    let is : IfOk c.from_str.result (λ s. string_bytes s ≡ c.args.text.now) = search rules in
    made string_bytes c.from_str.result c.args.text.now (LeadsTo c.args.link.now c.args.text.now) is (from_root first)

pub returns-in-None : goal.returns-in-None
returns-in-None c =
    let bare : IsBare c.args.link.now = search rules in
    let is : IfOk c.from_str-in-None.result (λ s. string_bytes s ≡ c.args.text.now) = search rules in
    made string_bytes c.from_str-in-None.result c.args.text.now (LeadsTo c.args.link.now c.args.text.now) is (from_here bare)

pub returns-in-Some : goal.returns-in-Some
returns-in-Some c =
    let below : IsIn c.in-Some.folder.now c.in-Some.field-0-1.now c.args.link.now = search rules in
    let other : slice_index c.args.text.now 0 ≡ slash → ⊥ = search rules in
    let text = c.in-Some.folder.now ++ codes "/" ++ c.args.text.now in
    let is : IfOk c.join.result (λ s. string_bytes s ≡ text) = search rules in
    made string_bytes c.join.result text (LeadsTo c.args.link.now c.args.text.now) is (from_folder c.in-Some.folder.now c.in-Some.field-0-1.now below other)
