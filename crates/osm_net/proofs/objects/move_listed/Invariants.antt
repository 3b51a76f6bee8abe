use Rattle.std.proofs.Common.{◌≡◌, ◌++◌, ◌≤◌, length, reverse}
use Rattle.std.specs.Vec.Iter.{into_iter_items}
use Rattle.osm_net.specs.Steps.Entries.{of_kind, paired}
use Rattle.osm_net.proofs.objects.move_listed.Given as goal

abbrev pub invariant-loop-id : goal.invariant-loop-id
invariant-loop-id l = record {
  many : length (into_iter_items l.id-iterator) ≡ length l.lefts.items;
  few : length (into_iter_items l.id-iterator) ≤ length l.fn.ids.items;
  moved : l.entries.items ++ of_kind l.kind (paired (into_iter_items l.id-iterator) (reverse l.lefts.items))
      ≡ l.initial.entries.items ++ of_kind l.kind (paired l.fn.ids.items l.fn.lefts.items);
}
