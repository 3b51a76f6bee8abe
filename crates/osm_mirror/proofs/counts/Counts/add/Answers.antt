use Rattle.std.proofs.Common.{arith}
use Rattle.osm_mirror.proofs.EntryLemmas.{counts_kept}
use Rattle.osm_mirror.proofs.counts.Counts.add.Goals as goal

pub invariant_of-self : goal.invariant_of-self
invariant_of-self c = counts_kept c.count_more.result _ _ _ _ (record { low = omega arith; high = omega arith })
    (omega arith) c.self.invariant c.count_more.ensures.entries c.count_more.ensures.unchanged
