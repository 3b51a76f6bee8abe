use Rattle.std.proofs.Common.{refl}
use Rattle.osm_asking.proofs.SumLemmas.{sum_more}
use Rattle.osm_asking.proofs.sum.Sum.count_one.Goals as goal

pub returns-clause-sum : goal.returns-clause-sum
returns-clause-sum c = λ before objects x s.
    sum_more c.args.self.now (record { hasher = c.args.self.now.hasher; count = c.in-Some.count }) before objects x refl c.in-Some.ensures.1 s
