-- A run that goes on from what a save and its journal keep, over the folder of published sequences.
use Rattle.std.proofs.Common.{◌≡◌, ℕ, zero, suc, ◌+◌, ◌<◌, ◌≤◌, List, [], ◌∷◌, length, Option, Some, None, inl, inr, arith, refl, sym, ap, subst, ◌∙◌}
use Rattle.std.proofs.lemmas.Option.{same_Some}
use Rattle.std.specs.Prelude.{◌⊎◌, Bool, false, true, IsTrue, ◌↔◌, Result, Ok, Err, IfErr, IfOk}
use Rattle.osm_model.specs.Filter.{FilterValue}
use Rattle.osm_save.specs.Save.{SpellsSave}
use Rattle.osm_save.specs.declared.head.Head.{Head}
use Rattle.osm_save.specs.declared.save.Saved.{Saved}
use Rattle.osm_state.specs.State.{StateValue}
use Rattle.osm_state.specs.StateLaws.{NoFaultBesideState}
use Rattle.osm_state.specs.declared.paths.Suffix.TheVariants.{O5c, Opl, State}
use Rattle.osm_publisher.specs.Published.{PublishedValue, sequence_at, time_at}
use Rattle.osm_store.specs.Files.{Files, HasFewer, SpendsAtMost}
use Rattle.osm_store.specs.Frames.{IsKnown, MakesAtMost, StoreState}
use Rattle.osm_store.proofs.FrameLemmas.{fewer_after}
use Rattle.osm_runs.specs.declared.json_line.Standing.{Standing}
use Rattle.osm_merge.specs.Checking.{IsHugeFile, IsNoSave}
use Rattle.osm_journal.specs.Journal.{BatchValue}
use Rattle.osm_kept.specs.Kept.{AddsBatches, ComesTo, Keeps}
use Rattle.osm_kept.specs.Laws.{BadKeepsNothing, OneIsKept}
use Rattle.osm_kept.specs.Names.{journal_name_of}
use Rattle.osm_runs.specs.Checking.{IsTooLarge}
use Rattle.osm_runs.specs.Folder.{IsFolderOf}
use Rattle.osm_runs.specs.Following.{AddsAll, IsInStep, IsOnward, MissingStops, NumberStops, end_of, last_number, limited, lost_numbers, ranges}
use Rattle.osm_runs.specs.Following.{no_save, standing_at, standing_of}
use Rattle.osm_runs.specs.Keeping.{HasNoBadJournal, IsKept, IsKeptOf, KeptIn}
use Rattle.osm_runs.specs.Names.{top_name_of}
use Rattle.osm_runs.specs.Progress.{IsOfContent}
use Rattle.osm_runs.specs.Progress as progress
use Rattle.osm_runs.specs.Reports.{Outcome, ReportValue, report_of}
use Rattle.osm_runs.specs.Runs.{IsDeviceFault}
use Rattle.osm_runs.specs.declared.fault.FileName.TheVariants.{Journal, Save, Sequence, Top}
use Rattle.osm_runs.specs.declared.fault.RunFault.{RunFault}
use Rattle.osm_runs.specs.declared.fault.RunFault.TheVariants.{Absent, BadChange, BadJournal, BadSave, BadState, Changed, Mismatch, OlderNumber}
use Rattle.osm_runs.specs.declared.fault.RunFault.TheVariants.{OtherFilter, OtherJournal, ReadFault, TooLarge, TopBehind, WantOfMemory, WriteFault}
use Rattle.osm_runs.specs.declared.options.FollowOptions.{FollowOptions}
use Rattle.osm_runs.specs.declared.progress.Progress.{Progress}
use Rattle.osm_runs.specs.declared.progress.Progress.TheVariants.{Before, Part, Whole}
use Rattle.osm_runs.proofs.InStepLemmas.{all_in_step, last_within, onward_at, top_number, top_time}
use Rattle.osm_runs.proofs.KeepingLemmas.{no_bad_journal, one_is_kept}
use Rattle.osm_runs.proofs.TopLemmas.{good_top, none_published, small_top}
use Rattle.osm_runs.proofs.TakingLemmas.{adds_number}
use Rattle.osm_round.specs.Keeping.{GoesOnFrom, GoesOnKept, GoesUpTo}
use Rattle.osm_round.specs.KeepingOver.{GoesOnOver, IsKeptAfter, KeepingStopsOver, kept_calls}
use Rattle.osm_round.specs.KeepingSteps.{AreAt}
use Rattle.osm_round.specs.KeepingStops.{BeginningStops, HasManyAfter, IsFirstKept, KeepingStops}
use Rattle.osm_round.specs.Over.{HasMany}
use Rattle.osm_round.specs.Starting.{BeginsOther}
use Rattle.osm_round.proofs.OverLemmas.{right_number}

-- ---- what it does

pub all_base : (files : Files) (dir : List ℕ) (count : ℕ) (old new : Saved) → AddsAll files dir count old new → new.base ≡ old.base
all_base files dir zero old new add = ap (λ (v : Saved). v.base) add
all_base files dir (suc count) old new (between, before, last) = last.base ∙ all_base files dir count old between before

abbrev came_to : Standing → List (ℕ × ℕ) → List ℕ → Outcome
came_to standing applied missing = record { standing = standing; applied = applied; missing = missing }

outcome_is : (ps : List PublishedValue) (base number : ℕ) (dir : List ℕ) (files : Files) (count : ℕ) (start reached : Saved) (top : StateValue)
    (end last : ℕ) → start.number ≡ number → reached.number ≡ number + count → reached.time ≡ time_at ps (number + count) → reached.base ≡ base
    → top.sequence ≡ length ps → top.time ≡ (sequence_at ps (length ps)).time → end ≡ last
    → came_to (standing_of reached top) (ranges start.number count) (lost_numbers files dir reached.number end)
    ≡ came_to (standing_at ps base (number + count)) (ranges number count) (lost_numbers files dir (number + count) last)
outcome_is ps base number dir files count start reached top end last s n t b q w e = rw (s, n, t, b, q, w, e) refl

module _ (nothing : BadKeepsNothing) (ps : List PublishedValue) (options : FollowOptions) (base number : ℕ) (dir save : List ℕ) (old new : Files)
    (folder : IsFolderOf ps old dir) (before : IsKeptOf ps options.filter base number save old) where
  -- the journal isn't bad then: it is as it was, if there is no save
  right_after : (reached : Saved) → IsKept options.filter save new reached → (new save ≡ None → new ≡ old) → HasNoBadJournal save new
  right_after reached kept still = by_save (new save) refl
    where
      by_save : (told : Option (List ℕ)) → new save ≡ told → HasNoBadJournal save new
      by_save None none = subst (HasNoBadJournal save) (sym (still none)) before.right
      by_save (Some file) there = no_bad_journal nothing options.filter save file new reached there kept

  pub kept_after : (under : FollowOptions) (report : ReportValue) → under.filter ≡ options.filter
      → GoesOnFrom under dir save old new report before.value → {known : Type 0} {progress : Progress}
      → GoesOnKept known options dir save old new progress → IsKeptAfter ps under base number dir save old new report
  kept_after under report same run done =
      let start_is : before.value.number ≡ number = before.number_is in
      let top_is : run.top.sequence ≡ length ps = top_number ps (old (top_name_of dir)) run.top folder.sequences folder.top run.starts.top_is in
      let top_at : run.top.time ≡ (sequence_at ps (length ps)).time = top_time ps (old (top_name_of dir)) run.top folder.top run.starts.top_is in
      let end_is : end_of under before.value run.top ≡ last_number under.limit number (length ps) = rw (start_is, top_is) refl in
      let within = last_within under.limit number (length ps) in
      let until = run.goes_on.until in
      let sum = run.goes_on.number in
      let value_is : run.reached.number ≡ number + run.count = rw start_is at sum in
      let base_is : run.reached.base ≡ base = all_base old dir run.count before.value run.reached run.goes_on.added ∙ before.base_is in
      let step : IsInStep ps under.filter before.value = rw same before.in_step in
      let reached_step : IsInStep ps under.filter run.reached =
      all_in_step under.filter ps old dir run.count before.value run.reached folder (omega (arith, sum, until, end_is, within)) run.goes_on.added step in
      let time_is : run.reached.time ≡ time_at ps (number + run.count) = reached_step.time ∙ ap (time_at ps) value_is in
      let kept : IsKept options.filter save new run.reached = rw (← same) run.kept in
      let still : run.reached.number ≡ before.value.number → new ≡ old = done.still before.value run.reached before.kept kept in
      record {
        count = run.count;
        kept = record {
          value = run.reached;
          kept = run.kept;
          right = right_after run.reached kept (λ none. still (no_number none (done.there none) before.value run.reached before.kept kept));
          base_is = base_is;
          number_is = value_is;
          in_step = reached_step;
        };
        far = elim run.goes_on.far [
          | inl top ↦ inl (sym value_is ∙ (top ∙ end_is))
          | inr lost ↦ inr (rw (← value_is) lost)
        ];
        report_is = run.report_is ∙ ap (λ x. report_of under.layout None x) (outcome_is ps base number dir old run.count before.value run.reached run.top
            (end_of under before.value run.top) (last_number under.limit number (length ps)) start_is value_is time_is base_is top_is top_at end_is);
        others = done.others;
        still = λ none. still (omega (arith, value_is, start_is, none));
      }
    where
      no_number : new save ≡ None → old save ≡ None → (v w : Saved) → IsKept options.filter save old v → IsKept options.filter save new w
          → w.number ≡ v.number
      no_number none gone v w kept kept_now =
          let start_is : v ≡ no_save options.filter = subst (λ t. KeptIn options.filter t (old (journal_name_of save)) v) gone kept in
          let end_is : w ≡ no_save options.filter = subst (λ t. KeptIn options.filter t (new (journal_name_of save)) w) none kept_now in
          ap (λ (x : Saved). x.number) (end_is ∙ sym start_is)

-- ---- why it is refused

-- what is kept is under the filter of the save
adds_filter : (bs : List BatchValue) (old new : Saved) → AddsBatches bs old new → old.filter ≡ new.filter
adds_filter [] old new same = sym (ap (λ (v : Saved). v.filter) same)
adds_filter (b ∷ bs) old new (between, one, rest) = sym one.same_filter ∙ adds_filter bs between new rest

comes_filter : (told journal : Option (List ℕ)) (start v : Saved) → ComesTo told journal start v → start.filter ≡ v.filter
comes_filter told journal start v (inl (silent, same)) = sym (ap (λ (x : Saved). x.filter) same)
comes_filter told journal start v (inr (j, has, adds)) = adds_filter j.batches start v adds

kept_filter : (bytes : List ℕ) (journal : Option (List ℕ)) (v : Saved) → (kept : Keeps (Some bytes) journal v) → kept.start.filter ≡ v.filter
kept_filter bytes journal v kept = comes_filter (Some bytes) journal kept.start v kept.comes

no_bad_kept : (given : FilterValue) (told journal : Option (List ℕ)) (v : Saved) → KeptIn given told journal v → IsNoSave told → ⊥
no_bad_kept given None journal v kept none = (let bad = none.there in cc)
no_bad_kept given (Some bytes) journal v kept none =
    none.none kept.start (subst (λ l. SpellsSave l kept.start) (same_file bytes none.file kept.file none.there kept.there) kept.spells)
  where
    same_file : (all a b : List ℕ) → Some all ≡ Some a → Some all ≡ Some b → b ≡ a
    same_file all a b p q = sym (same_Some all b q) ∙ same_Some all a p

module _ (law : NoFaultBesideState) (one : OneIsKept) (options : FollowOptions) (ps : List PublishedValue) (base number : ℕ) (dir save : List ℕ)
    (files : Files) (folder : IsFolderOf ps files dir) (before : IsKeptOf ps options.filter base number save files) where
  many_over : HasManyAfter options dir save files → HasMany ps options.filter
  many_over m =
      let same : m.start ≡ before.value = one_is_kept one options.filter save files m.start before.value m.kept before.kept in
      let step : IsInStep ps options.filter m.start = rw same before.in_step in
      let top_is = top_number ps (files (top_name_of dir)) m.top folder.sequences folder.top m.starts.top_is in
      let within = last_within options.limit m.start.number m.top.sequence in
      let until = m.until in
      let sum = adds_number files dir m.count m.start m.reached m.added in
      record {
        value = m.reached;
        in_step = all_in_step options.filter ps files dir m.count m.start m.reached folder (omega (arith, sum, until, within, top_is)) m.added step;
        many = m.many;
      }

  no_other : BeginsOther options.filter (files save) → ⊥
  no_other o = by_kept (files save) o before.kept
    where
      by_kept : (told : Option (List ℕ)) → BeginsOther options.filter told → KeptIn options.filter told (files (journal_name_of save)) before.value → ⊥
      by_kept None o kept = (let bad = o.there in cc)
      by_kept (Some bytes) o kept = (let same : kept.file ≡ o.bytes = sym (same_Some bytes kept.file kept.there) ∙ same_Some bytes o.bytes o.there in
          o.other kept.start (subst (λ l. SpellsSave l kept.start) same kept.spells) (kept_filter bytes (files (journal_name_of save)) before.value kept
          ∙ before.in_step.filter_is))

  begin_refuses : (known : Type 0) (fault : RunFault) → known → BeginningStops known options dir save files fault
      → KeepingStopsOver ps options.filter (files save) (files (journal_name_of save)) fault
  begin_refuses known WantOfMemory sure h = tt
  begin_refuses known (ReadFault name) sure h = tt
  begin_refuses known (WriteFault Save) sure h = tt
  begin_refuses known (WriteFault Journal) sure h = tt
  begin_refuses known (Changed Save) sure h = h sure
  begin_refuses known (Absent Save) sure h = absurd (h sure)
  begin_refuses known (TooLarge Save) sure h = by_reason (h sure)
    where
      by_reason : IsTooLarge (files save) ⊎ HasManyAfter options dir save files → IsHugeFile (files save) ⊎ HasMany ps options.filter
      by_reason (inl (inl huge)) = inl huge
      by_reason (inl (inr none)) = absurd (no_bad_kept options.filter (files save) (files (journal_name_of save)) before.value before.kept none)
      by_reason (inr many) = inr (many_over many)
  begin_refuses known (TooLarge Journal) sure h = h sure
  begin_refuses known (BadSave line) sure h = no_bad_kept options.filter (files save) (files (journal_name_of save)) before.value before.kept (h sure)
  begin_refuses known (BadJournal line) sure h = before.right line (h sure)
  begin_refuses known (OtherJournal last) sure h = h sure
  begin_refuses known OtherFilter sure h = no_other (h sure)
  begin_refuses known (Absent Top) sure h = none_published ps (files (top_name_of dir)) folder.top (h sure).1
  begin_refuses known (TooLarge Top) sure h = absurd (small_top ps (files (top_name_of dir)) folder.top (h sure).1)
  begin_refuses known (BadState Top cause) sure h = good_top law ps (files (top_name_of dir)) cause folder.top (h sure).1
  begin_refuses known TopBehind sure h =
      let b = h sure in
      let below = (b.below before.value before.kept).1 in
      let top_is = top_number ps (files (top_name_of dir)) b.top folder.sequences folder.top b.top_is in
      let within = before.in_step.within in
      omega (arith, top_is, within, below)
  begin_refuses known fault sure h = absurd h

  number_refuses : (known : Type 0) (before_it : Option ℕ) (k : ℕ) (fault : RunFault) → known → 0 < k → k ≤ length ps
      → NumberStops known dir files before_it k fault → (IsOfContent fault k → IsOnward before_it (sequence_at ps k).time)
      → KeepingStopsOver ps options.filter (files save) (files (journal_name_of save)) fault
  number_refuses known before_it k WantOfMemory sure above within h onward = tt
  number_refuses known before_it k (ReadFault name) sure above within h onward = tt
  number_refuses known before_it k (TooLarge (Sequence j s)) sure above within h onward =
      absurd (right_number law ps dir files folder known k (TooLarge (Sequence j s)) j before_it sure above within h (onward h.0) refl)
  number_refuses known before_it k (BadState (Sequence j State) cause) sure above within h onward =
      right_number law ps dir files folder known k (BadState (Sequence j State) cause) j before_it sure above within h (onward h.0) refl
  number_refuses known before_it k (Mismatch j) sure above within h onward =
      right_number law ps dir files folder known k (Mismatch j) j before_it sure above within h (onward h.0) refl
  number_refuses known before_it k (OlderNumber j) sure above within h onward =
      right_number law ps dir files folder known k (OlderNumber j) j before_it sure above within h (onward h.0) refl
  number_refuses known before_it k (BadChange (Sequence j O5c) place why) sure above within h onward =
      right_number law ps dir files folder known k (BadChange (Sequence j O5c) place why) j before_it sure above within h (onward h.0) refl
  number_refuses known before_it k (BadChange (Sequence j Opl) place why) sure above within h onward =
      right_number law ps dir files folder known k (BadChange (Sequence j Opl) place why) j before_it sure above within h (onward h.0) refl
  number_refuses known before_it k fault sure above within h onward = absurd h

  missing_refuses : (known : Type 0) (reached last : ℕ) (fault : RunFault) → MissingStops known dir files reached last fault
      → KeepingStopsOver ps options.filter (files save) (files (journal_name_of save)) fault
  missing_refuses known reached last WantOfMemory h = tt
  missing_refuses known reached last (ReadFault (Sequence k s)) h = tt
  missing_refuses known reached last fault h = absurd h

  pub kept_refuses : (known : Type 0) (fault : RunFault) → known → KeepingStops known options dir save files fault
      → KeepingStopsOver ps options.filter (files save) (files (journal_name_of save)) fault
  kept_refuses known fault sure (inl h) = begin_refuses known fault sure h
  kept_refuses known fault sure (inr (inl h)) =
      let c = h.comes sure before.value before.kept in
      let above = c.above in
      let until = c.until in
      let end = last_within options.limit before.value.number h.top.sequence in
      let top_is = top_number ps (files (top_name_of dir)) h.top folder.sequences folder.top (h.top_is sure) in
      let within : h.number ≤ length ps = omega (arith, top_is, until, end) in
      number_refuses known h.before h.number fault sure (omega (arith, above)) within h.stops
      (λ content. (let next = h.next sure content before.value before.kept in
      let number = next.0 in
      rw (next.1 ∙ before.in_step.time, next.0) (onward_at ps before.value.number folder.rising (omega (arith, number, within)))))
  kept_refuses known fault sure (inr (inr h)) = missing_refuses known h.reached h.last fault h.stops

  -- no number of theirs is faulty
  never_up_to : (known : Type 0) (new : Files) (fault : RunFault) (report : ReportValue) → known
      → GoesUpTo known options dir save files new fault report before.value → ⊥
  never_up_to known new fault report sure b =
      let below = b.below in
      let end = last_within options.limit before.value.number b.top.sequence in
      let top_is = top_number ps (files (top_name_of dir)) b.top folder.sequences folder.top b.starts.top_is in
      let within : b.reached.number < length ps = omega (arith, below, end, top_is) in
      let sum = adds_number files dir b.count before.value b.reached b.added in
      let step = all_in_step options.filter ps files dir b.count before.value b.reached folder (omega (arith, sum, within)) b.added before.in_step in
      right_number law ps dir files folder known (b.reached.number + 1) fault (b.reached.number + 1) b.reached.time sure (omega arith)
      (omega (arith, within)) b.stops
      (subst (λ o. IsOnward o (sequence_at ps (b.reached.number + 1)).time) (sym step.time) (onward_at ps b.reached.number folder.rising within)) b.content

  -- what is kept has the number that they say
  pub at_number : (head : Head) → AreAt options.filter save files head → head.number ≡ number
  at_number head at = sym (ap (λ (h : Head). h.number) (at before.value before.kept).0) ∙ before.number_is

  -- and its time
  pub at_time : (head : Head) → AreAt options.filter save files head → head.time ≡ time_at ps number
  at_time head at = sym (ap (λ (h : Head). h.time) (at before.value before.kept).0) ∙ (before.in_step.time ∙ ap (time_at ps) before.number_is)

-- a run over them, by what it does over any files
pub over_kept : NoFaultBesideState → OneIsKept → BadKeepsNothing → (options : FollowOptions) (ps : List PublishedValue) (base number : ℕ)
    (dir save : List ℕ) (old new : StoreState) (r : Result Progress RunFault) → IsKnown old → IsFolderOf ps old.files dir
    → IsKeptOf ps options.filter base number save old.files
    → IfOk r (λ p. IsKnown old → GoesOnKept (IsKnown old) options dir save old.files new.files p)
    → IfErr r (KeepingStops (IsKnown old) options dir save old.files)
    → MakesAtMost IsDeviceFault (kept_calls ps number (old.files save)) old new r
    → progress.IsWhole options r (λ under. GoesOnOver ps under base number dir save old new)
over_kept law one nothing options ps base number dir save old new (Ok (Whole report)) sure folder before done stops calls =
    let d = done sure in
    record {
      in_step = kept_after nothing ps options base number dir save old.files new.files folder before options report refl (d.from before.value before.kept) d;
      refuses = tt;
      calls = record { spent = calls.spent; lacks = tt };
    }
over_kept law one nothing options ps base number dir save old new (Ok (Part report applied count)) sure folder before done stops calls =
    let d = done sure in
    record {
      in_step = kept_after nothing ps options base number dir save old.files new.files folder before (limited count options) report refl
          (d.from before.value before.kept).goes d;
      refuses = tt;
      calls = record { spent = calls.spent; lacks = tt };
    }
over_kept law one nothing options ps base number dir save old new (Ok (Before report fault)) sure folder before done stops calls =
    never_up_to law one options ps base number dir save old.files folder before (IsKnown old) new.files fault report sure
    ((done sure).from before.value before.kept)
over_kept law one nothing options ps base number dir save old new (Err fault) sure folder before done stops calls = record {
  in_step = tt;
  refuses = kept_refuses law one options ps base number dir save old.files folder before (IsKnown old) fault sure stops;
  calls = record { spent = tt; lacks = calls.lacks };
}

-- ---- a fault over the folder of published sequences is one of the device, if nothing is published, and if no fault comes before it

pub lacks_then : (ps : List PublishedValue) (given : FilterValue) (told journal : Option (List ℕ)) (i j k : ℕ) (a b : Option ℕ) (fault : RunFault)
    → i + j ≤ k → KeepingStopsOver ps given told journal fault → (IsFirstKept fault → ⊥) → (fault ≡ Absent Top → SpendsAtMost i a b)
    → (IsDeviceFault fault → HasFewer k a) → HasFewer j b → HasFewer k a
lacks_then ps given told journal i j k a b WantOfMemory within h first spent lacks after = absurd (first tt)
lacks_then ps given told journal i j k a b (ReadFault name) within h first spent lacks after = lacks tt
lacks_then ps given told journal i j k a b (WriteFault name) within h first spent lacks after = lacks tt
lacks_then ps given told journal i j k a b (Absent Top) within h first spent lacks after = fewer_after i j k a b within (spent refl) after
lacks_then ps given told journal i j k a b (TooLarge Save) within h first spent lacks after = absurd (first tt)
lacks_then ps given told journal i j k a b (TooLarge Journal) within h first spent lacks after = absurd (first tt)
lacks_then ps given told journal i j k a b (OtherJournal last) within h first spent lacks after = absurd (first tt)
lacks_then ps given told journal i j k a b fault within h first spent lacks after = absurd h

pub not_first_kept : (fault : RunFault) (t : Bool) → (IsTrue t ↔ IsFirstKept fault) → t ≡ false → IsFirstKept fault → ⊥
not_first_kept fault t same isnt first = (let is : t ≡ true = same.1 first in let bad : true ≡ false = sym is ∙ isnt in cc)
