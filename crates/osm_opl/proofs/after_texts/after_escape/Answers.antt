use Rattle.std.proofs.Common.{◌≡◌, ◌∷◌, ◌+◌, arith, rules}
use Rattle.std.proofs.lemmas.List.{take_rest}
use Rattle.osm_opl.proofs.BeginTextLemmas.{escape_part}
use Rattle.osm_opl.proofs.after_texts.after_escape.Goals as goal

pub returns-clause-part : goal.returns-clause-part
returns-clause-part c =
    let parts : c.args.bytes.now ≡ 37 ∷ c.in-Some-eq37-default.digits.now = search rules in
    rw (take_rest c.in-Some-eq37-default.digits.now (c.leading_hex-code.result.1 + 1), c.len_utf8.ensures.len)
    (escape_part c.args.bytes.now c.in-Some-eq37-default.digits.now c.in_ok-character.character c.leading_hex-code.result.0
    c.leading_hex-code.result.1 parts c.leading_hex-code.ensures.digits (omega arith) (omega arith) c.in_ok-character.ensures)
