use Rattle.std.proofs.Common.{◌≡◌, ◌∷◌, FitsSigned, w64, rules}
use Rattle.std.proofs.lemmas.Int.{to_z-of_z}
use Rattle.osm_opl.proofs.PlainLemmas.{plain_key}
use Rattle.osm_reading.specs.Pieces.{pieces_after}
use Rattle.osm_opl.proofs.lines.plain_key.Goals as goal

pub returns-clause-value : goal.returns-clause-value
returns-clause-value c =
    let parts : c.args.line.now ≡ c.in-Some.letter.now ∷ c.in-Some.id.now = search rules in
    let fits : FitsSigned w64 c.in_ok-id.id = search rules in
    rw (parts, to_z-of_z w64 c.in_ok-id.id fits)
    (plain_key c.in-Some.letter.now c.in-Ok.kind c.in-Some.id.now c.in_ok-id.id (pieces_after 32 c.in_ok-id.rest) c.in-Ok.ensures c.in_ok-id.ensures.value)
