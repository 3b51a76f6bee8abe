use Rattle.std.proofs.Common.{◌+◌, refl}
use Rattle.std.proofs.lemmas.List.{take_rest}
use Rattle.osm_reading.proofs.PieceLemmas.{found_cut, nowhere_cut, pieces_whole}
use Rattle.osm_reading.proofs.pieces.cut.Goals as goal

pub returns-in-Some-clause-first : goal.returns-in-Some-clause-first
returns-in-Some-clause-first c =
    rw (take_rest c.args.bytes.now (c.in-Some.at + 1)) (found_cut c.args.separator c.args.bytes.now c.in-Some.at c.in-Some.ensures.0 c.in-Some.ensures.1).first

pub returns-in-Some-clause-pieces : goal.returns-in-Some-clause-pieces
returns-in-Some-clause-pieces c =
    rw (take_rest c.args.bytes.now (c.in-Some.at + 1)) (found_cut c.args.separator c.args.bytes.now c.in-Some.at c.in-Some.ensures.0 c.in-Some.ensures.1).pieces

pub returns-in-None-clause-first : goal.returns-in-None-clause-first
returns-in-None-clause-first c = (nowhere_cut c.args.separator c.args.bytes.now c.in-None.ensures, refl)

pub returns-in-None-clause-pieces : goal.returns-in-None-clause-pieces
returns-in-None-clause-pieces c =
    pieces_whole c.args.separator c.args.bytes.now (nowhere_cut c.args.separator c.args.bytes.now c.in-None.ensures)
