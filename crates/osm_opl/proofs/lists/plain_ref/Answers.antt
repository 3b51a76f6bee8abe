use Rattle.std.proofs.Common.{◌≡◌, ◌∷◌, arith, rules}
use Rattle.osm_opl.proofs.PlainLemmas.{plain_refs}
use Rattle.osm_opl.proofs.lists.plain_ref.Goals as goal

pub returns-in-Some-eq110-default-clause-value : goal.returns-in-Some-eq110-default-clause-value
returns-in-Some-eq110-default-clause-value c =
    let first : c.in-Some-eq110-default.field-0-0.now ≡ 110 = omega arith in
    let split : c.args.items.now ≡ c.in-Some-eq110-default.field-0-0.now ∷ c.in-Some-eq110-default.id.now = search rules in
    let parts : c.args.items.now ≡ 110 ∷ c.in-Some-eq110-default.id.now = rw first at split in
    plain_refs c.leading_id.result c.args.items.now c.in-Some-eq110-default.id.now parts c.leading_id.ensures.value
