use Rattle.std.proofs.Common.{w64}
use Rattle.std.proofs.lemmas.Int.{to_z-of_z}
use Rattle.osm_o5c.proofs.WriteLemmas.{on_ok, as_difference}
use Rattle.osm_o5c.proofs.numbers.write_difference.Goals as goal

pub returns : goal.returns
returns c = on_ok c.write_unsigned.result c.write_unsigned.ensures
    (λ e. as_difference c.in-Some.zigzag c.args.before c.args.value c.args.out.now.items c.write_unsigned.new.out.items
    (rw (to_z-of_z w64 c.args.value c.ranges.value, to_z-of_z w64 c.args.before c.ranges.before) at
    c.in-Some.ensures) e)
