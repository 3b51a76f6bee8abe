use Rattle.std.proofs.Common.{◌≡◌, List, ℕ, subst, sym}
use Rattle.std.specs.Prelude.{Bool, IsTrue, false, true}
use Rattle.osm_journal.specs.Journal.{SpellsJournal, journal_of}
use Rattle.osm_store.specs.Frames.{IsKnown}
use Rattle.osm_kept.specs.Kept.{BelongsTo}
use Rattle.osm_beginning.proofs.KeepingLemmas.{ends_at, not_own}
use Rattle.osm_beginning.proofs.journal.read_due.Goals as goal

-- a journal of such a save that isn't one of the save that is there
pub returns-in-Ok-false-clause-due : goal.returns-in-Ok-false-clause-due
returns-in-Ok-false-clause-due g c = λ yes.
    let a = g.S.Store.state c.args.store.now in
    let b = g.S.Store.state c.read_bytes.new.store in
    let known : IsKnown b = subst IsTrue (sym c.in_ok-bytes.ensures.frame.makes.known) yes in
    let i = journal_of c.in-Ok.found in
    let spells : SpellsJournal c.in_ok-bytes.bytes.items i =
    subst (λ (l : List ℕ). SpellsJournal l i) c.as_slice.ensures.value c.in-Ok.ensures.spelled in
    let other : BelongsTo i (a.files c.args.wanted.now.save.now) → ◌≡◌ {A = Bool} false true =
    rw (c.in_ok-bytes.ensures.frame.files, c.in-Ok-false.field-0-test) at (c.in-Ok-false.ensures.tells known).1 in (
      (λ j has. not_own (a.files c.args.wanted.now.save.now) (a.files c.args.journal.now) c.in_ok-bytes.bytes.items i j (c.in_ok-bytes.ensures.read yes) spells
          (λ belongs. (let bad : false ≡ true = other belongs in cc)) has),
      ends_at (a.files c.args.journal.now) c.in_ok-bytes.bytes.items i _ (c.in_ok-bytes.ensures.read yes) spells
          (rw c.as_slice-2.ensures.value at c.place_reached-last.ensures.number),
    )
