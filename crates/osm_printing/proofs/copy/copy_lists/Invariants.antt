use Rattle.std.proofs.Common.{◌-◌}
use Rattle.osm_printing.proofs.CopyLemmas.{Copies}
use Rattle.osm_printing.proofs.copy.copy_lists.Given as goal

abbrev pub invariant-blocks-2 : goal.invariant-blocks-2
invariant-blocks-2 g l = Copies (g.S.Store.state l.fn.store) (g.S.Store.state l.store) l.fn.save l.fn.place l.from (g.W.Write.contents l.fn.writer)
    (g.W.Write.contents l.writer)

abbrev pub decreases-blocks-2 : goal.decreases-blocks-2
decreases-blocks-2 g l = 18446744073709551615 - l.from
