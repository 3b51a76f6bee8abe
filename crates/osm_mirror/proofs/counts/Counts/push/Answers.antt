use Rattle.std.proofs.Common.{arith, ◌∷◌, ◌++◌, [], map}
use Rattle.std.specs.List.Sorted.{IsStrictlySortedBy}
use Rattle.std.specs.Ordering.{nat_cmp}
use Rattle.osm_mirror.specs.Mirror.{Counted}
use Rattle.osm_mirror.proofs.EntryLemmas.{count_last, counts-insert_entry}
use Rattle.osm_mirror.proofs.counts.Counts.push.Goals as goal

pub invariant_of-self-2 : goal.invariant_of-self-2
invariant_of-self-2 c =
    rw c.in_ok-insert.ensures.entries (counts-insert_entry _ _ _ (record { low = omega arith; high = omega arith })
    c.requires.count c.self.invariant)

pub returns-clause-pushed : goal.returns-clause-pushed
returns-clause-pushed c =
    let rising : IsStrictlySortedBy nat_cmp (map (λ (e : Counted). e.0) c.self.inside.counts.entries
    ++ c.args.number ∷ []) = rw c.self.view_is c.requires.rising in
    rw (c.in_ok-insert.ensures.entries, ← c.self.view_is) (count_last c.self.inside.counts.entries c.args.number c.args.count rising)
