-- What a run does that goes on from what a save and its journal keep.
use Rattle.std.proofs.Common.{◌≡◌, ℕ, ◌+◌, ◌-◌, ◌≤◌, List, [], ◌∷◌, length, Option, Some, None, inl, inr}
use Rattle.std.proofs.Common.{arith, refl, sym, ap, subst, ◌∙◌}
use Rattle.std.specs.Prelude.{◌⊎◌, IfSome}
use Rattle.std.specs.List.{AllByRecursion}
use Rattle.osm_model.specs.Filter.{FilterValue}
use Rattle.osm_model.specs.Limits.{max_file, max_sequence}
use Rattle.osm_mirror.specs.Mirror.{IsOrderly}
use Rattle.osm_save.specs.Head.{head_of}
use Rattle.osm_save.specs.declared.head.Head.{Head}
use Rattle.osm_save.specs.declared.save.Saved.{Saved}
use Rattle.osm_state.specs.State.{StateValue}
use Rattle.osm_store.specs.Files.{Files, IsOver}
use Rattle.osm_journal.specs.Journal.{BatchValue, Follow}
use Rattle.osm_kept.specs.Kept.{AddsBatches, ComesTo, Keeps}
use Rattle.osm_kept.specs.Laws.{OneIsKept}
use Rattle.osm_kept.specs.Names.{journal_name_of}
use Rattle.osm_kept.specs.Reaching.{IsReachIn, IsReached as IsReachedBy, ReachesAs}
use Rattle.osm_kept.specs.declared.found.JournalFile.{JournalFile}
use Rattle.osm_runs.specs.Following.{AddsAll, bytes_of, last_number, no_save}
use Rattle.osm_runs.specs.Keeping.{IsKept, KeptIn}
use Rattle.osm_runs.specs.Reports.{report_of}
use Rattle.osm_runs.specs.declared.options.FollowOptions.{FollowOptions}
use Rattle.osm_runs.proofs.InStepLemmas.{last_within}
use Rattle.osm_runs.proofs.KeepingLemmas.{one_is_kept}
use Rattle.osm_round.specs.Gathering.{GathersIn, IsWritten, KeepsUpTo}
use Rattle.osm_round.specs.Keeping.{GoesFrom, GoesOnKept, HasRightJournal, IsFree, IsKeptWithinRoom, IsLongWith, IsShortAfter, IsTooLong, StartsFrom}
use Rattle.osm_round.specs.Keeping.{IsUnder, ReportsFrom, StaysUnlessDue, head_in}
use Rattle.osm_round.specs.KeepingSteps.{AreAt, AreEnds, IsDue, IsMostBeside, KeepsAfter, SavesOnly, SavesOnlyIn, bound_of}
use Rattle.osm_round.specs.Putting.{saved_after}
use Rattle.osm_round.specs.Rounds.{IsPrepared, IsReport, outcome_of, progress_of, room_of}
use Rattle.osm_round.specs.Taking.{LeavesRoom}
use Rattle.osm_round.specs.declared.gathered.Gathered.{Gathered}
use Rattle.osm_round.specs.declared.kept.Sizes.{Sizes}
use Rattle.osm_round.specs.declared.round.Ending.{Ending}
use Rattle.osm_round.specs.declared.round.Ending.TheVariants as endings
use Rattle.osm_round.specs.declared.round.Prepared.{Prepared}
use Rattle.osm_round.specs.News.{TakenValue, came_to}
use Rattle.osm_kept.specs.declared.found.Ends.{Ends}
use Rattle.osm_kept.specs.declared.found.Reach.{Reach}
use Rattle.osm_round.proofs.PutLemmas.{orderly_nothing}
use Rattle.osm_round.proofs.RoundLemmas.{limit_is, none_lost}
use Rattle.osm_round.proofs.TakenLemmas.{adds_all}

-- ---- what is kept

adds_orderly : (bs : List BatchValue) (old new : Saved) → IsOrderly old.mirror → AddsBatches bs old new → IsOrderly new.mirror
adds_orderly [] old new orderly same = subst (λ (v : Saved). IsOrderly v.mirror) (sym same) orderly
adds_orderly (b ∷ bs) old new orderly (between, one, rest) = adds_orderly bs between new one.applied.orderly rest

comes_orderly : (told journal : Option (List ℕ)) (start v : Saved) → IsOrderly start.mirror → ComesTo told journal start v → IsOrderly v.mirror
comes_orderly told journal start v orderly (inl (silent, same)) = subst (λ (x : Saved). IsOrderly x.mirror) (sym same) orderly
comes_orderly told journal start v orderly (inr (j, has, adds)) = adds_orderly j.batches start v orderly adds

keeps_orderly : (told journal : Option (List ℕ)) (v : Saved) → Keeps told journal v → IsOrderly v.mirror
keeps_orderly told journal v k = comes_orderly told journal k.start v k.spells.savable.mirror.orderly k.comes

pub kept_orderly : (given : FilterValue) (told journal : Option (List ℕ)) (v : Saved) → KeptIn given told journal v → IsOrderly v.mirror
kept_orderly given None journal v same = subst (λ (x : Saved). IsOrderly x.mirror) (sym same) orderly_nothing
kept_orderly given (Some file) journal v kept = keeps_orderly (Some file) journal v kept

-- whatever is kept has the head that was read and, if that was tested, the given filter
pub are_at : (given : FilterValue) (save : List ℕ) (files : Files) (known : Type 0) (ends : Ends) → AreEnds known save files ends
    → IsUnder given ends.kept → known → AreAt given save files (head_in ends.kept)
are_at given save files known ends are under sure start kept =
    by_kept ends.kept (files save) (are.found sure).reached under kept
  where
    journal : Option (List ℕ)
    journal = files (journal_name_of save)

    by_told : (reach : Reach) (told : Option (List ℕ)) → ReachesAs told journal reach → reach.start.filter ≡ given → KeptIn given told journal start
        → (head_of start ≡ reach.head) × (start.filter ≡ given)
    by_told reach None reached under kept = absurd (let bad = reached.starts.there in cc)
    by_told reach (Some file) reached under kept = let is = reached.only start kept in (is.0, is.1 ∙ under)

    by_kept : (o : Option Reach) (told : Option (List ℕ)) → IsReachedBy told journal o → IsUnder given o → KeptIn given told journal start
        → (head_of start ≡ head_in o) × (start.filter ≡ given)
    by_kept None told none under kept =
        let same : start ≡ no_save given = subst (λ (t : Option (List ℕ)). KeptIn given t journal start) none kept in
        (ap head_of same, ap (λ (v : Saved). v.filter) same)
    by_kept (Some reach) told reached under kept = by_told reach told reached under kept

-- ---- what is done

module _ (known : Type 0) (options : FollowOptions) (dir save : List ℕ) (old new : Files) (start : Head) (at : AreAt options.filter save old start)
    (p : Prepared) (sure : known) (is : IsPrepared known options dir old start p)
    (keeps : KeepsAfter options.filter save (came_to options.filter p.taken) old new) where
  goes_from : (v : Saved) → IsKept options.filter save old v → GoesFrom known options dir save old new (progress_of p.report p.ending) v
  goes_from v kept = by_ending p.ending of_start.report
    where
      head_is : head_of v ≡ start
      head_is = (at v kept).0

      filter_is : v.filter ≡ options.filter
      filter_is = (at v kept).1

      of_start : IsPrepared known options dir old (head_of v) p
      of_start = subst (λ (h : Head). IsPrepared known options dir old h p) (sym head_is) is

      top : StateValue
      top = of_start.top

      count : ℕ
      count = of_start.taken.count

      starts : StartsFrom options.filter dir old v top
      starts = record { filter_is = filter_is; top_is = of_start.top_is sure }

      added : AddsAll old dir count v (saved_after v (came_to options.filter p.taken))
      added = adds_all old dir options.filter v count (came_to options.filter p.taken) filter_is
          (kept_orderly options.filter (old save) (old (journal_name_of save)) v kept) (of_start.taken.advances sure)

      number_is : p.taken.head.number ≡ v.number + count
      number_is = of_start.taken.is.number

      within : last_number options.limit v.number top.sequence ≤ top.sequence
      within = last_within options.limit v.number top.sequence

      by_ending : (e : Ending) → IsReport known options.layout old dir (head_of v) top (last_number options.limit v.number top.sequence) count p.taken.head e
          p.report → GoesFrom known options dir save old new (progress_of p.report e) v
      by_ending endings.Whole (missing, reached, named, gap, report) = record {
        top = top;
        starts = starts;
        count = count;
        reached = saved_after v (came_to options.filter p.taken);
        goes_on = record { added = added; number = number_is; until = of_start.until; far = reached sure };
        kept = keeps.kept v kept;
        report_is = report ∙ ap (λ (ms : List ℕ). report_of options.layout None (outcome_of p.taken.head top (head_of v) count ms)) (named sure);
      }
      by_ending (endings.Part applied taken) (count_is, some, in_lines, below, enough, applied_is, report) = rw count_is (record {
        goes = record {
          top = top;
          starts = starts;
          count = count;
          reached = saved_after v (came_to options.filter p.taken);
          goes_on = record {
            added = added;
            number = number_is;
            until = rw (limit_is count v.number top.sequence (omega (arith, below, within, number_is))) (omega (arith, number_is));
            far = inl (number_is ∙ sym (limit_is count v.number top.sequence (omega (arith, below, within, number_is))));
          };
          kept = keeps.kept v kept;
          report_is = report ∙ ap (λ (ms : List ℕ). report_of options.layout None (outcome_of p.taken.head top (head_of v) count ms))
              (sym (rw (limit_is count v.number top.sequence (omega (arith, below, within, number_is)), number_is)
              (none_lost old dir (v.number + count))));
        };
        count_is = refl;
        below = omega (arith, below, number_is);
        enough = enough sure;
      })
      by_ending (endings.Before fault) (said, some, below, content, stops, report) = record {
        top = top;
        starts = starts;
        count = count;
        some = some;
        reached = saved_after v (came_to options.filter p.taken);
        added = added;
        below = below;
        content = content;
        stops = stops;
        kept = keeps.kept v kept;
        said = said;
        report_is = report;
      }

  -- what is kept now has the number that the run came to
  reached_number : OneIsKept → (before reached : Saved) → IsKept options.filter save old before → IsKept options.filter save new reached
      → reached.number ≡ p.taken.head.number
  reached_number one before reached kept kept_now = ap (λ (v : Saved). v.number)
      (one_is_kept one options.filter save new reached (saved_after before (came_to options.filter p.taken)) kept_now (keeps.kept before kept))

  pub goes_on_kept : OneIsKept → IsFree save old → HasRightJournal save old → ReportsFrom known options dir save old (progress_of p.report p.ending)
      → (p.taken.head.number ≡ start.number → new ≡ old) → IsFree save new → GoesOnKept known options dir save old new (progress_of p.report p.ending)
  goes_on_kept one free_before right_before reports still free = record {
    free_before = free_before;
    right_before = right_before;
    reports = reports;
    from = goes_from;
    there = keeps.there;
    still = λ before reached kept kept_now same.
        still (sym (reached_number one before reached kept kept_now) ∙ (same ∙ ap (λ (h : Head). h.number) (at before kept).0));
    others = keeps.others;
    free = free;
  }

  -- the numbers between what was kept and what is kept are those that it took
  pub kept_within_room : OneIsKept → IsKeptWithinRoom options dir save old new
  kept_within_room one =
      let number_is = is.taken.is.number in
      record {
        room = λ before reached kept kept_now.
            let from : before.number ≡ start.number = ap (λ (h : Head). h.number) (at before kept).0 in
            let end = reached_number one before reached kept kept_now in
            let count_is : reached.number - before.number - 1 ≡ is.taken.count - 1 = omega (arith, from, end, number_is) in
            subst (λ (n : ℕ). LeavesRoom (room_of options.layout) (bytes_of old dir n (reached.number - before.number - 1))) (sym from)
            (subst (λ (n : ℕ). LeavesRoom (room_of options.layout) (bytes_of old dir start.number n)) (sym count_is) (is.room sure));
      }

-- ---- which of the two files was written

pub written_surely : (known : Type 0) (files : Files) (dir : List ℕ) (bs : List BatchValue) → known → AllByRecursion (IsWritten known files dir) bs
    → AllByRecursion (IsWritten (Unit {0}) files dir) bs
written_surely known files dir [] sure all = tt
written_surely known files dir (b ∷ bs) sure all =
    (record { changes = all.0.changes; text = all.0.text; there = λ t. all.0.there sure }, written_surely known files dir bs sure all.1)

pub saves_only_in : (known : Type 0) (given : FilterValue) (dir save : List ℕ) (old new : Files) (head : Head) (taken : TakenValue) (g : Gathered)
    (most : Option ℕ) → known → AreAt given save old head → GathersIn known old dir given head (bound_of most) taken g
    → KeepsAfter given save taken old new → SavesOnly most given save g old new → SavesOnlyIn most given dir save old new
saves_only_in known given dir save old new head taken g most sure at gathers keeps (inl same) = inl same
saves_only_in known given dir save old new head taken g None sure at gathers keeps (inr c) = inr (record { was = c.was; due = tt })
saves_only_in known given dir save old new head taken g (Some most) sure at gathers keeps (inr c) =
    inr (record { was = c.was; due = by_due (c.due gathers.gathers.batches gathers.gathers.keeps) })
  where
    by_due : (old save ≡ None) ⊎ IsLongWith most (old save) (old (journal_name_of save)) gathers.gathers.batches
        → (old save ≡ None) ⊎ IsTooLong most given dir save old new
    by_due (inl none) = inl none
    by_due (inr long) =
        let number : c.was.start.number ≡ head.number = ap (λ (h : Head). h.number) (at c.was.start c.was.kept).0 in
        inr (record {
          start = c.was.start;
          kept = c.was.kept;
          reached = saved_after c.was.start taken;
          kept_now = keeps.kept c.was.start c.was.kept;
          batches = gathers.gathers.batches;
          follow = subst (λ (n : ℕ). Follow n gathers.gathers.batches) (sym number) gathers.gathers.after.follow;
          all = gathers.gathers.after.number ∙ ap (λ (n : ℕ). n + length gathers.gathers.batches) (sym number);
          written = written_surely known old dir gathers.gathers.batches sure gathers.written;
          long = long;
        })

-- the same of all saves, small or large
pub small_none : (sizes : Sizes) (told : Option (List ℕ)) (most : Option ℕ) → IsMostBeside sizes told most → (IsOver sizes.small told → ⊥) → most ≡ None
small_none sizes told None beside small = refl
small_none sizes told (Some most) beside small = absurd (small beside.1)

pub stays_beside : (sizes : Sizes) (given : FilterValue) (dir save : List ℕ) (old new : Files) (most : Option ℕ) → IsMostBeside sizes (old save) most
    → SavesOnlyIn most given dir save old new → StaysUnlessDue sizes given dir save old new
stays_beside sizes given dir save old new most beside (inl same) = inl same
stays_beside sizes given dir save old new None beside (inr c) = inr (record { was = c.was; due = inl beside })
stays_beside sizes given dir save old new (Some most) beside (inr c) = inr (record { was = c.was; due = by_due c.due })
  where
    by_due : (old save ≡ None) ⊎ IsTooLong most given dir save old new
        → (IsOver sizes.small (old save) → ⊥) ⊎ IsTooLong sizes.most given dir save old new
    by_due (inl none) = inl (λ over. (let bad : None ≡ Some over.bytes = sym none ∙ over.there in cc))
    by_due (inr long) = inr (subst (λ (n : ℕ). IsTooLong n given dir save old new) beside.0 long)

pub short_beside : (sizes : Sizes) (save : List ℕ) (old new : Files) (most : Option ℕ) → IsMostBeside sizes (old save) most
    → IsShortAfter (bound_of most) save old new → IsShortAfter sizes.most save old new
short_beside sizes save old new most beside (inl same) = inl same
short_beside sizes save old new None beside (inr (bytes, there, few)) = inr (bytes, there, omega (arith, few))
short_beside sizes save old new (Some most) beside (inr (bytes, there, few)) = inr (bytes, there, subst (λ (n : ℕ). length bytes ≤ n) beside.0 few)

-- a save is due if its journal would be too long
pub due_long : (most : Option ℕ) (told journal : Option (List ℕ)) (g : Gathered)
    → ((batches : List BatchValue) → KeepsUpTo (bound_of most) batches g g.is_whole → IsLongWith (bound_of most) told journal batches)
    → IsDue most told journal g
due_long None told journal g long = tt
due_long (Some most) told journal g long = λ batches keeps. inr (long batches keeps)

-- a save that is made where there was none is due
pub begun_saves : (most : Option ℕ) (given : FilterValue) (save : List ℕ) (g : Gathered) (old new : Files) → old save ≡ None
    → SavesOnly most given save g old new
begun_saves None given save g old new none = inr (record {
  was = record {
    start = no_save given;
    kept = subst (λ t. KeptIn given t (old (journal_name_of save)) (no_save given)) (sym none) refl;
    whole = inl none;
  };
  due = tt;
})
begun_saves (Some most) given save g old new none = inr (record {
  was = record {
    start = no_save given;
    kept = subst (λ t. KeptIn given t (old (journal_name_of save)) (no_save given)) (sym none) refl;
    whole = inl none;
  };
  due = λ batches keeps. inl none;
})

-- ---- limits

pub bound_low : (most : Option ℕ) → IfSome most (λ b. b ≤ max_file) → bound_of most ≤ max_file
bound_low None low = omega arith
bound_low (Some most) low = low

pub head_low : (journal : JournalFile) (o : Option Reach) → IsReachIn journal o → (head_in o).number ≤ max_sequence
head_low journal None is = omega arith
head_low journal (Some reach) is = is.limit

-- what was prepared is within the limits
pub prepared_low : (known : Type 0) (options : FollowOptions) (dir : List ℕ) (files : Files) (start : Head) (p : Prepared)
    → IsPrepared known options dir files start p → p.taken.head.number ≤ max_sequence
prepared_low known options dir files start p is =
    let until = is.until in
    let within = last_within options.limit start.number is.top.sequence in
    let most = is.most in
    omega (arith, until, within, most)
