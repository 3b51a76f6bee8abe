use Rattle.std.proofs.Common.{rules, ◌≡◌, ◌∙◌, Some, None}
use Rattle.osm_reading.specs.Pieces.{cut_at}
use Rattle.osm_o5c.proofs.StringLemmas.{until_nul_is, until_takes}
use Rattle.osm_o5c.proofs.file_string.until_nul.Goals as goal

pub returns : goal.returns
returns c =
    let found : cut_at 0 c.args.bytes.now ≡ Some (c.cut.result.0.now, c.in-Some.rest.now) = search rules in
    until_nul_is c.args.bytes.now ∙ found

pub invariant_of-result : goal.invariant_of-result
invariant_of-result c =
    let found : cut_at 0 c.args.bytes.now ≡ Some (c.cut.result.0.now, c.in-Some.rest.now) = search rules in
    (until_takes c.args.bytes.now (c.cut.result.0.now, c.in-Some.rest.now) (until_nul_is c.args.bytes.now ∙ found)).no_nul

pub returns-in_default : goal.returns-in_default
returns-in_default c =
    let none : cut_at 0 c.args.bytes.now ≡ None = search rules in
    until_nul_is c.args.bytes.now ∙ none
