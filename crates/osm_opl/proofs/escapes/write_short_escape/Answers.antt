use Rattle.std.proofs.Common.{◌≡◌, ◌∷◌, ◌/◌, ◌%◌, [], arith, rules}
use Rattle.std.specs.Char.{digit_char}
use Rattle.osm_opl.specs.Written.{hex_count, hex_digits}
use Rattle.osm_opl.specs.Room.{LacksRoom}
use Rattle.osm_opl.proofs.WrittenLemmas.{on_err}
use Rattle.osm_opl.proofs.WrittenLemmas.{two_hex_digits}
use Rattle.osm_opl.proofs.escapes.write_short_escape.Goals as goal

pub returns-clause-ok : goal.returns-clause-ok
returns-clause-ok c =
    let two : hex_digits (hex_count c.args.code) c.args.code ≡ digit_char (c.args.code / 16) ∷ digit_char
    (c.args.code % 16) ∷ [] = two_hex_digits c.args.code c.requires in
    rw two (search rules)

pub returns-in_err-extend_from_slice-clause-refused : goal.returns-in_err-extend_from_slice-clause-refused
returns-in_err-extend_from_slice-clause-refused c =
    let two : hex_digits (hex_count c.args.code) c.args.code ≡ digit_char (c.args.code / 16) ∷ digit_char
    (c.args.code % 16) ∷ [] = two_hex_digits c.args.code c.requires in
    rw two (on_err c.from_residual.result
    (LacksRoom c.args.out.now (37 ∷ digit_char (c.args.code / 16) ∷ digit_char (c.args.code % 16) ∷ 37 ∷ []))
    (record { less = search (arith, rules) }))
