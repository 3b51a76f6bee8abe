use Rattle.std.proofs.Common.{rules}
use Rattle.std.proofs.lemmas.Str.{IsUtf8-from_ascii}
use Rattle.osm_model.specs.Text.{IsText}
use Rattle.osm_o5c.proofs.file_string.is_short_utf8.Goals as goal

pub returns-then-is_ascii : goal.returns-then-is_ascii
returns-then-is_ascii c =
    let text : IsText c.args.bytes.now = record {
      utf8 = IsUtf8-from_ascii c.args.bytes.now c.if-is_ascii.ensures.cases;
      no_nul = search rules;
      short = search rules;
    } in
    (λ _. text, λ _. c.if-is_ascii.true)
