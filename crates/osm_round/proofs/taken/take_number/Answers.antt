use Rattle.std.proofs.Common.{◌≡◌, ap, subst, sym}
use Rattle.std.specs.Prelude.{List, Some}
use Rattle.osm_model.specs.Change.{ChangeValue}
use Rattle.osm_save.specs.declared.head.Head.{Head}
use Rattle.osm_store.specs.Frames.{IsKnown}
use Rattle.osm_round.specs.News.{IsMore}
use Rattle.osm_round.specs.declared.taken.Taken.{Taken}
use Rattle.osm_round.proofs.NewsLemmas.{number_taken}
use Rattle.osm_round.proofs.taken.take_number.Goals.{then-gathered+in_ok-hold, else-gathered+in_ok-take}
use Rattle.osm_round.proofs.taken.take_number.Goals as goal

-- held or taken, the changes come after what was new before
pub returns-clause-taken : goal.returns-clause-taken
returns-clause-taken g c =
    let a = g.S.Store.state c.args.store.now in
    let f = c.args.filter.now in
    let old = c.args.taken.now in
    let read = rw c.in-Some.is at c.in_ok-numbered.ensures.read in
    let size = rw c.in-Some.is at c.in_ok-numbered.ensures.size in
    let changes = c.in-Some.numbered.changes.items in
    let same : c.in_ok-changes.changes.items ≡ changes = c.in_ok-changes.ensures.same in
    let more : IsMore f changes old.news c.if-gathered.taken.news = elim c.if-gathered.branch [
      | then-gathered+in_ok-hold w ↦ subst (λ (t : Taken). IsMore f changes old.news t.news) (sym w.taken-is)
          (subst (λ (cs : List ChangeValue). IsMore f cs old.news w.hold.new.self) same (w.in_ok-hold.ensures f))
      | else-gathered+in_ok-take w ↦ subst (λ (t : Taken). IsMore f changes old.news t.news) (sym w.taken-is)
          (subst (λ (cs : List ChangeValue). IsMore f cs old.news w.take.new.self) same w.in_ok-take.ensures.more)
    ] in
    let head : c.if-gathered.taken.head ≡ old.head = elim c.if-gathered.branch [
      | then-gathered+in_ok-hold w ↦ ap (λ (t : Taken). t.head) w.taken-is
      | else-gathered+in_ok-take w ↦ ap (λ (t : Taken). t.head) w.taken-is
    ] in
    let time = c.in-Some.numbered.time in
    number_taken (IsKnown a) a.files c.args.dir.now c.args.number time c.in-Some.numbered.size f old (record {
      head = record { number = c.args.number; base = c.if-gathered.taken.head.base; time = Some time };
      news = c.if-gathered.taken.news;
    }) changes c.args.gathered.now c.add.new.self read (ap (λ (h : Head). record { number = c.args.number; base = h.base; time = Some time }) head)
    c.requires.orderly more size c.in_ok-changes.ensures.grown
