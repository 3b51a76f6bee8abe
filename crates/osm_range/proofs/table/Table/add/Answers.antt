use Rattle.std.proofs.Common.{ap, refl, subst, sym}
use Rattle.osm_range.specs.Steps.Counting.{IsBelow, counted_in}
use Rattle.osm_range.proofs.CountLemmas.{counts-after, room_below}
use Rattle.osm_range.proofs.table.Table.add.Goals as goal
use Rattle.osm_runs.proofs.ResultLemmas.{on_ok_map}

pub count_in-requires : goal.count_in-requires
count_in-requires c =
    subst (λ k. IsBelow (counted_in c.args.self.now.rows k)) (sym (ap (λ p. p.0) c.pair_of-pair.ensures))
    (room_below c.args.self.now.columns c.args.self.now c.args.change.now refl c.requires)

pub returns-clause-counted : goal.returns-clause-counted
returns-clause-counted c =
    on_ok_map c.note_name.result c.note_name.ensures (λ names before counts.
    counts-after before c.args.change.now c.pair_of-pair.result c.in_ok-is_first.is_first c.args.self.now _ refl c.pair_of-pair.ensures
    c.in_ok-is_first.ensures.first c.in_ok-count_in.ensures c.in_ok-is_first.ensures.noted names counts)
