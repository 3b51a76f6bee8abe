use Rattle.std.proofs.Common.{◌≡◌, ◌≤◌, ℕ, Option, Some, None, arith, ap, inl, inr, length, refl, rules, subst, sym}
use Rattle.std.proofs.lemmas.Bool.Decides.{nat_tests}
use Rattle.osm_kept.specs.Names.{journal_name_of}
use Rattle.osm_kept.specs.Reaching.{FindsEnds}
use Rattle.osm_kept.specs.declared.found.Ends.{Ends}
use Rattle.osm_kept.specs.declared.found.Reach.{Reach}
use Rattle.osm_store.specs.Files.{Puts}
use Rattle.osm_store.specs.Frames.{IsKnown}
use Rattle.osm_round.specs.Gathering.{Gathers, KeepsUpTo}
use Rattle.osm_round.specs.Keeping.{IsLongWith, head_in}
use Rattle.osm_round.specs.KeepingSteps.{AreEnds, bound_of}
use Rattle.osm_round.specs.News.{came_to}
use Rattle.osm_round.proofs.BothLemmas.{ends_are, keeps_appended, neither, puts_save, puts_still}
use Rattle.osm_round.proofs.KeepingLemmas.{are_at, begun_saves, due_long}
use Rattle.osm_round.proofs.TextLemmas.{appended_free, text_batches, text_some}
use Rattle.osm_round.proofs.keeping.put_kept.Goals as goal
use Rattle.osm_runs.proofs.ResultLemmas.{on_ok_map}

-- ---- there was no save

pub begin-requires-clause-none : goal.begin-requires-clause-none
begin-requires-clause-none g c = λ yes.
    neither c.args.save.now (g.S.Store.state c.args.store.now).files c.args.ends (c.requires.ends.found yes) c.in_default.is

pub returns-in_default-clause-puts : goal.returns-in_default-clause-puts
returns-in_default-clause-puts g c =
    let files = (g.S.Store.state c.args.store.now).files in
    let new = (g.S.Store.state c.begin.new.store).files in
    let f = c.args.filter.now in
    let save = c.args.save.now in
    on_ok_map c.begin.result c.begin.ensures.puts (λ puts yes.
    let none = (neither save files c.args.ends (c.requires.ends.found yes) c.in_default.is).none in
    puts_save c.args.most f save (came_to f c.args.intake.taken) c.args.intake.gathered files new (puts yes) (λ most. inl none)
    (begun_saves c.args.most f save c.args.intake.gathered files new none))

-- ---- nothing is new

pub returns-then-is_some-clause-puts : goal.returns-then-is_some-clause-puts
returns-then-is_some-clause-puts g c = λ yes.
    let a = g.S.Store.state c.args.store.now in
    let f = c.args.filter.now in
    let same : c.args.intake.taken.head.number ≡ c.in-Some.reach.head.number = grind (arith, nat_tests) in
    let at : (head_in c.args.ends.kept).number ≡ c.in-Some.reach.head.number = ap (λ (k : Option Reach). (head_in k).number) c.in-Some.is in
    let number = c.requires.taken.1.number in
    let some : c.args.most ≡ None → ⊥ = search rules in
    puts_still c.laws_of_kept.ensures.named f c.args.save.now a.files c.args.most c.args.intake.gathered a.files (head_in c.args.ends.kept)
    (came_to f c.args.intake.taken) (are_at f c.args.save.now a.files (IsKnown a) c.args.ends c.requires.ends c.requires.under yes)
    (c.requires.taken.1.none (omega (arith, number, same, at))) refl (c.requires.ends.free yes) (λ none. absurd (some none))

pub returns-then-taken-reach-clause-puts : goal.returns-then-taken-reach-clause-puts
returns-then-taken-reach-clause-puts g c =
    let a = g.S.Store.state c.args.store.now in
    let f = c.args.filter.now in
    let same : c.args.intake.taken.head.number ≡ c.in-Some.reach.head.number = grind (arith, nat_tests) in
    let at : (head_in c.args.ends.kept).number ≡ c.in-Some.reach.head.number = ap (λ (k : Option Reach). (head_in k).number) c.in-Some.is in
    let number = c.requires.taken.1.number in
    on_ok_map c.check.result c.check.ensures.checked (λ is yes.
    puts_still c.laws_of_kept.ensures.named f c.args.save.now a.files c.args.most c.args.intake.gathered (g.S.Store.state c.check.new.store).files
    (head_in c.args.ends.kept) (came_to f c.args.intake.taken)
    (are_at f c.args.save.now a.files (IsKnown a) c.args.ends c.requires.ends c.requires.under yes)
    (c.requires.taken.1.none (omega (arith, number, same, at))) c.check.ensures.frame.files (c.requires.ends.free yes) (λ none. inr (is yes)))

-- ---- the journal is written

pub returns-in-Ok-Some-clause-puts : goal.returns-in-Ok-Some-clause-puts
returns-in-Ok-Some-clause-puts g c =
    let a = g.S.Store.state c.args.store.now in
    let new = (g.S.Store.state c.write_journal.new.store).files in
    let f = c.args.filter.now in
    let save = c.args.save.now in
    let reach = c.in-Some.reach in
    let file = c.args.ends.journal in
    let gathered = c.args.intake.gathered in
    let law = c.laws_of_kept.ensures in
    let bytes = c.in-Ok-Some.text.items in
    let gathers : Gathers f reach.head (bound_of c.args.most) (came_to f c.args.intake.taken) gathered = rw c.in-Some.is at c.requires.gathers in
    let keeps = rw (c.in-Ok-Some.field-0-is, c.unwrap_or.ensures) at c.in-Ok-Some.ensures.text in
    let text = rw c.in-Ok-Some.field-0-is at c.in-Ok-Some.ensures.journal in
    let short : length bytes ≤ bound_of c.args.most = rw (c.in-Ok-Some.field-0-is, c.unwrap_or.ensures) at c.in-Ok-Some.ensures.short in
    on_ok_map c.write_journal.result c.write_journal.ensures.written (λ written yes.
    let found = subst (λ (e : Ends). FindsEnds (a.files save) (a.files (journal_name_of save)) e) (ends_are c.args.ends reach c.in-Some.is)
    (c.requires.ends.found yes) in
    let put = subst (λ t. Puts a.files (journal_name_of save) (Some t) new) c.as_slice.ensures.value (written yes) in
    let same = put.others save (λ same. law.named save (sym same)) in
    record {
      kept = keeps_appended law.named f save a.files new reach file (came_to f c.args.intake.taken) bytes gathers.batches found
          (rw c.in-Some.is at (are_at f save a.files (IsKnown a) c.args.ends c.requires.ends c.requires.under yes))
          gathers.after (keeps gathers.batches gathers.keeps) put;
      alone = inl same;
      whole = λ none. absurd (text_some (a.files save) (a.files (journal_name_of save)) reach file gathered bytes found text (rw none at short));
      stays = inl same;
      short = inr (bytes, put.there, short);
      batches = text_batches save reach file gathered bytes a.files new found text put.there;
      free = appended_free law.named save a.files new reach file gathered bytes law.own found text put;
    })

-- ---- the save is

pub merge_both-requires-clause-ends : goal.merge_both-requires-clause-ends
merge_both-requires-clause-ends g c =
    let a = g.S.Store.state c.args.store.now in
    subst (λ (e : Ends). AreEnds (IsKnown a) c.args.save.now a.files e) (ends_are c.args.ends c.in-Some.reach c.in-Some.is) c.requires.ends

pub returns-in-Ok-None-clause-puts : goal.returns-in-Ok-None-clause-puts
returns-in-Ok-None-clause-puts g c =
    let a = g.S.Store.state c.args.store.now in
    let f = c.args.filter.now in
    let save = c.args.save.now in
    let gathered = c.args.intake.gathered in
    let is = ends_are c.args.ends c.in-Some.reach c.in-Some.is in
    let most : c.unwrap_or.result ≡ bound_of c.args.most = c.unwrap_or.ensures in
    let long = (rw c.in-Ok-None.field-0-is at c.in-Ok-None.ensures.long) refl in
    on_ok_map c.merge_both.result c.merge_both.ensures.puts (λ puts yes.
    puts_save c.args.most f save (came_to f c.args.intake.taken) gathered a.files (g.S.Store.state c.merge_both.new.store).files (puts yes).0
    (λ none. (puts yes).1.whole) (inr (record {
      was = (puts yes).1;
      due = due_long c.args.most (a.files save) (a.files (journal_name_of save)) gathered
          (λ batches keeps. subst (λ (n : ℕ). IsLongWith n (a.files save) (a.files (journal_name_of save)) batches) most
          (long batches (subst (λ (n : ℕ). KeepsUpTo n batches gathered gathered.is_whole) (sym most) keeps) (a.files save) (a.files (journal_name_of save))
          (subst (λ (e : Ends). FindsEnds (a.files save) (a.files (journal_name_of save)) e) is (c.requires.ends.found yes))));
    })))
