use Rattle.std.proofs.Common.{◌≡◌, ◌+◌, ◌<◌, ap, arith, length, length-append, rules, take, vec_capacity, vec_len}
use Rattle.std.specs.List.{flat_map}
use Rattle.std.proofs.lemmas.List.Folds.{length-flat_map-take}
use Rattle.osm_reading.specs.NumberLines.{count_line}
use Rattle.osm_reading.proofs.number_lines.write_count_lines.Goals as goal

pub returns-in_err-write_count-clause-refused : goal.returns-in_err-write_count-clause-refused
returns-in_err-write_count-clause-refused c =
    let part = length-flat_map-take count_line c.args.counts.now c.loop-number.number-index (0, 0) c.loop-number-test.true in
    let many = ap length c.loop-number.invariant.text in
    let joined = length-append c.args.text.now.items (flat_map count_line (take c.loop-number.number-index c.args.counts.now)) in
    let before : vec_len c.loop-number.text ≡ length c.loop-number.text.items = c.loop-number.text.ok.0 in
    let first : vec_len c.args.text.now ≡ length c.args.text.now.items = c.args.text.now.ok.0 in
    let fact : vec_capacity c.args.text.now < vec_len c.args.text.now + length (flat_map count_line c.args.counts.now) =
    omega (
      arith,
      part,
      many,
      joined,
      before,
      first,
      c.loop-number.invariant.room,
      c.in_err-write_count.ensures.refused,
    ) in
    search (rules, fact)
