use Rattle.std.proofs.Common.{◌≡◌, ◌∷◌, ◌++◌, drop, rules, arith, false, refl}
use Rattle.std.specs.Prelude.{◌==◌}
use Rattle.std.proofs.lemmas.Bool.Decides.{nat_tests}
use Rattle.std.proofs.lemmas.Fmt.{length-decimal-le}
use Rattle.std.proofs.lemmas.List.{drop-set}
use Rattle.osm_opl.specs.Written.{decimals}
use Rattle.osm_opl.proofs.FractionLemmas.{after_first}
use Rattle.osm_opl.proofs.coordinates.prepend_fraction.Goals as goal

pub returns-then-part-eq0-clause-written : goal.returns-then-part-eq0-clause-written
returns-then-part-eq0-clause-written c = rw c.if-part-eq0.true refl

pub write_digits-start-requires : goal.write_digits-start-requires
write_digits-start-requires c =
    let long = length-decimal-le 8 c.one_before.result (omega arith) c.one_before.ensures.limit (omega arith) in
    (omega arith, search rules)

pub returns-clause-start : goal.returns-clause-start
returns-clause-start c =
    let long = length-decimal-le 8 c.one_before.result (omega arith) c.one_before.ensures.limit (omega arith) in
    (omega arith, omega arith)

-- the point replaces the 1
pub returns-clause-written : goal.returns-clause-written
returns-clause-written c =
    let w = c.write_digits-start in
    let after = drop c.args.end c.args.room.now in
    let digits : drop w.result w.new.buf ≡ 49 ∷ decimals 7 c.args.part ++ after =
    rw c.one_before.ensures.digits at w.ensures.written in
    let test : (c.args.part == 0) ≡ false = grind (arith, nat_tests) in
    rw (drop-set w.new.buf w.result 46 (search rules), test, after_first w.new.buf w.result 49 (decimals 7 c.args.part ++ after) digits) refl
