use Rattle.std.proofs.Common.{subst, sym}
use Rattle.osm_kept.specs.Refusal.{IsOfOtherJournal}
use Rattle.osm_kept.proofs.AgainLemmas.{reads_again}
use Rattle.osm_kept.proofs.heads.read_heads.Goals as goal

pub returns-in-Err-OtherJournal-clause-frame : goal.returns-in-Err-OtherJournal-clause-frame
returns-in-Err-OtherJournal-clause-frame g c =
    let other : IsOfOtherJournal c.in-Err-OtherJournal.field-0 = subst IsOfOtherJournal (sym c.in-Err-OtherJournal.field-0-is) tt in
    reads_again (g.S.Store.state c.args.store.now) (g.S.Store.state c.read_once.new.store) (g.S.Store.state c.read_again.new.store)
    c.in-Err-OtherJournal.field-0 c.read_again.result c.in-Err-OtherJournal.ensures.frame (c.in-Err-OtherJournal.ensures.spends other)
    c.read_again.ensures.never c.read_again.ensures.frame
