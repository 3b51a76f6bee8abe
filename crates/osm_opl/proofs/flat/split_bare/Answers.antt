use Rattle.std.proofs.Common.{◌≡◌, ◌≤◌, length, take, arith}
use Rattle.std.proofs.lemmas.List.{length-take-le, take_rest}
use Rattle.osm_opl.proofs.BeginTextLemmas.{bare_with}
use Rattle.osm_opl.proofs.flat.split_bare.Goals as goal

pub returns : goal.returns
returns c =
    let size : length (take c.bare_count-count.result c.args.bytes.now) ≡ c.bare_count-count.result =
    length-take-le c.bare_count-count.result c.args.bytes.now c.bare_count-count.ensures.few.1 in
    let short : length (take c.bare_count-count.result c.args.bytes.now) ≤ 1020 = omega (arith, c.bare_count-count.ensures.few.0) in
    rw (take_rest c.args.bytes.now c.bare_count-count.result)
    (bare_with c.args.bytes.now c.bare_count-count.result c.bare_count-count.ensures.bare short)
