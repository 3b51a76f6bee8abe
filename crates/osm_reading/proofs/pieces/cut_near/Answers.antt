use Rattle.std.proofs.Common.{◌≡◌, ◌+◌, ◌<◌, length, get_or, refl, rules}
use Rattle.std.proofs.lemmas.List.{take_rest}
use Rattle.osm_reading.proofs.PieceLemmas.{cut_found, cut_none}
use Rattle.osm_reading.proofs.pieces.cut_near.Goals as goal

pub returns-then-bytes-at-clause-first : goal.returns-then-bytes-at-clause-first
returns-then-bytes-at-clause-first c =
    let within : c.loop-at.at < length c.args.bytes.now = search rules in
    let here : get_or c.args.bytes.now c.loop-at.at 0 ≡ c.args.separator = search rules in
    rw (take_rest c.args.bytes.now (c.loop-at.at + 1))
    (cut_found c.args.separator c.args.bytes.now c.loop-at.at within here c.loop-at.invariant)

pub returns-clause-first : goal.returns-clause-first
returns-clause-first c =
    (cut_none c.args.separator c.args.bytes.now (λ k lt. c.loop-at.invariant k (search rules)), refl)
