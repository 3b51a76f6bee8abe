use Rattle.std.proofs.Common.{refl}
use Rattle.osm_publishing.proofs.CompareLemmas.{one_batch}
use Rattle.osm_publishing.proofs.compare.check_bytes.Goals as goal

pub returns-then-not-are_same-clause-stops : goal.returns-then-not-are_same-clause-stops
returns-then-not-are_same-clause-stops c = (
  refl,
  λ holds. absurd
      (let same = one_batch c.args.form c.args.bytes.now c.in-Ok.held c.args.batch.now c.in-Ok.ensures.spelled holds.1 in
      let yes = c.are_same.ensures.1 same in
      let no = c.if-not-are_same.true in cc),
)
