use Rattle.std.proofs.Common.{◌≡◌, ◌∷◌, arith, rules}
use Rattle.osm_opl.proofs.PlainLemmas.{plain_positive}
use Rattle.osm_reading.specs.Pieces.{pieces_after}
use Rattle.osm_opl.proofs.metadata.plain_field.Goals as goal

pub returns-clause-value : goal.returns-clause-value
returns-clause-value c =
    let parts : c.in-Some.fields.now ≡ c.in-Some-split_first.first.now ∷ c.in-Some-split_first.content.now = search rules in
    let same : c.in-Some-split_first.first.now ≡ c.args.letter = omega arith in
    rw (c.in-Some.is, parts, same)
    (plain_positive c.args.letter c.in-Some-split_first.content.now c.in_ok-number.number
    (pieces_after 32 c.in_ok-number.rest) c.requires c.in_ok-number.ensures.value (omega arith) (omega arith))
