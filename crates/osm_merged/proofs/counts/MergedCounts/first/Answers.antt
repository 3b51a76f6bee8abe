use Rattle.std.proofs.Common.{◌≡◌, None, Some, rules}
use Rattle.std.specs.Ordering.{nat_cmp}
use Rattle.std.specs.declared.cmp.Ordering.TheVariants.{Less, Equal, Greater}
use Rattle.osm_merged.proofs.FirstLemmas.{counted_above, counted_alone, counted_at, counted_below, counted_last}
use Rattle.osm_merged.proofs.counts.MergedCounts.first.Goals as goal

pub returns-in_default-clause-given : goal.returns-in_default-clause-given
returns-in_default-clause-given c = λ bytes.
    let i = c.self.inside in
    rw (← c.self.view_is, c.take.ensures.value, c.take.ensures.after, c.in_default.ensures)
    (counted_last i.most i.lines i.last bytes i.held (rw (← c.self.view_is) at c.requires))

pub returns-in_default-held-clause-given : goal.returns-in_default-held-clause-given
returns-in_default-held-clause-given c = λ bytes.
    let i = c.self.inside in
    let none : i.held ≡ None = search rules in
    let filled : i.held ≡ None → i.lines ≡ 0 = rw (← c.self.view_is) at c.requires in
    rw (← c.self.view_is, none, c.in-Some.ensures)
    (counted_alone i.most i.lines i.last bytes (c.in-Some.number, c.in-Some.more) c.in-Some.after.now (filled none))

pub returns-in-Less-clause-given : goal.returns-in-Less-clause-given
returns-in-Less-clause-given c = λ bytes.
    let i = c.self.inside in
    let less : nat_cmp c.in-Some.number c.in-Some-held.count.0 ≡ Less = search rules in
    let held : i.held ≡ Some c.in-Some-held.count = search rules in
    rw (← c.self.view_is, held, c.in-Some.ensures)
    (counted_below i.most i.lines i.last bytes (c.in-Some.number, c.in-Some.more) c.in-Some.after.now c.in-Some-held.count less)

pub returns-in-Equal-clause-given : goal.returns-in-Equal-clause-given
returns-in-Equal-clause-given c = λ bytes.
    let i = c.self.inside in
    let equal : nat_cmp c.in-Some.number c.in-Some-held.count.0 ≡ Equal = search rules in
    let held : i.held ≡ Some c.in-Some-held.count = search rules in
    rw (← c.self.view_is, held, c.in-Some.ensures)
    (counted_at i.most i.lines i.last bytes (c.in-Some.number, c.in-Some.more) c.in-Some.after.now c.in-Some-held.count equal)

pub returns-in-Greater-clause-given : goal.returns-in-Greater-clause-given
returns-in-Greater-clause-given c = λ bytes.
    let i = c.self.inside in
    let greater : nat_cmp c.in-Some.number c.in-Some-held.count.0 ≡ Greater = search rules in
    let held : i.held ≡ Some c.in-Some-held.count = search rules in
    rw (← c.self.view_is, held, c.in-Some.ensures)
    (counted_above i.most i.lines i.last bytes (c.in-Some.number, c.in-Some.more) c.in-Some.after.now c.in-Some-held.count greater)
