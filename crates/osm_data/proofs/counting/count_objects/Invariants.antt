use Rattle.std.proofs.Common.{◌-◌}
use Rattle.osm_data.proofs.CountLemmas.{Counting}
use Rattle.osm_data.proofs.counting.count_objects.Given as goal

abbrev pub invariant-blocks-2 : goal.invariant-blocks-2
invariant-blocks-2 g l =
    Counting g.C.ObjectCounter.comes_to l.filter (g.S.Store.state l.fn.store) (g.S.Store.state l.store) l.fn.name l.fn.counter l.counter l.reader

abbrev pub decreases-blocks-2 : goal.decreases-blocks-2
decreases-blocks-2 g l = 18446744073709551615 - l.reader.from
