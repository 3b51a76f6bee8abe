-- A run of the follower while the file of a published sequence is spoiled.
use Rattle.std.proofs.Common.{◌≡◌, ℕ, zero, suc, ◌+◌, ◌-◌, ◌<◌, ◌≤◌, List, [], ◌∷◌, length}
use Rattle.std.proofs.Common.{true, false, Option, Some, None, inl, inr, arith, refl, sym, ap, ◌∙◌, subst}
use Rattle.std.specs.Prelude.{◌⊎◌, filter, is_none, min}
use Rattle.std.proofs.lemmas.Bool.{cases_eq, cases_lt}
use Rattle.std.proofs.lemmas.List.Elements.{filter-append}
use Rattle.std.proofs.lemmas.Option.{same_Some}
use Rattle.osm_model.specs.Filter.{FilterValue}
use Rattle.osm_model.specs.Limits.{max_sequence}
use Rattle.osm_save.specs.Save.{SpellsSave}
use Rattle.osm_save.specs.declared.save.Saved.{Saved}
use Rattle.osm_state.specs.State.{StateValue}
use Rattle.osm_state.specs.StateLaws.{NoFaultBesideState}
use Rattle.osm_state.specs.declared.paths.Suffix.{Suffix}
use Rattle.osm_state.specs.declared.paths.Suffix.TheVariants.{O5c, Opl, State}
use Rattle.osm_publisher.specs.Published.{PublishedValue, sequence_at}
use Rattle.osm_follow.specs.Reach.{numbers}
use Rattle.osm_store.specs.Files.{Files, IsOver}
use Rattle.osm_runs.specs.Folder.{IsAbsentOr, IsApart, IsFile, IsFolderOf, IsStateFile, IsThere}
use Rattle.osm_runs.specs.Following.{HasEarlier, HasState, IsInStep, IsOnward, IsReached, IsSaved, IsTopState, MissingStops}
use Rattle.osm_runs.specs.Keeping.{IsKept, IsKeptOf}
use Rattle.osm_runs.specs.Following.{NamesOther, NumberStops, bytes_of, is_lost, last_number, limit_of, plainly, ranges}
use Rattle.osm_runs.specs.Names.{file_name_of, top_name_of}
use Rattle.osm_runs.specs.Progress.{IsOfContent}
use Rattle.osm_runs.specs.Reports.{ReportValue, follow_report_of}
use Rattle.osm_runs.specs.declared.fault.FileName.TheVariants.{Journal, Top, Sequence, Save}
use Rattle.osm_runs.specs.declared.fault.RunFault.{RunFault}
use Rattle.osm_runs.specs.declared.fault.RunFault.TheVariants.{WantOfMemory, ReadFault, WriteFault, TooLarge, Absent}
use Rattle.osm_runs.specs.declared.fault.RunFault.TheVariants.{BadJournal, BadState, Changed, Mismatch, OlderNumber, BadChange, BadSave, OtherFilter}
use Rattle.osm_runs.specs.declared.fault.RunFault.TheVariants.{OtherJournal, TopBehind}
use Rattle.osm_runs.specs.declared.options.FollowOptions.{FollowOptions}
use Rattle.osm_runs.specs.declared.options.Layout.TheVariants.{Lines}
use Rattle.osm_runs.proofs.InStepLemmas.{all_in_step, last_within, not_bad, not_earlier, not_faulty, not_faulty_opl, not_other, not_over, onward_at}
use Rattle.osm_runs.proofs.InStepLemmas.{stops_number, top_number}
use Rattle.osm_runs.proofs.KeepingLemmas.{one_is_kept}
use Rattle.osm_runs.proofs.TopLemmas.{good_top, none_published, small_top}
use Rattle.osm_runs.proofs.NameLemmas.{top_is_no_file}
use Rattle.osm_runs.proofs.TakingLemmas.{adds_number}
use Rattle.osm_merge.specs.Checking.{IsHugeFile}
use Rattle.osm_round.specs.Keeping.{GoesOnFrom, GoesOnInPart, GoesUpTo, StartsFrom}
use Rattle.osm_round.specs.KeepingOver.{KeepingStopsOver}
use Rattle.osm_round.specs.KeepingStops.{BeginningStops, HasManyAfter, KeepingStops}
use Rattle.osm_round.specs.Over.{HasMany}
use Rattle.osm_round.specs.Rounds.{max_round}
use Rattle.osm_runs.specs.Checking.{IsTooLarge}
use Rattle.osm_round.proofs.OverLemmas.{no_bad_save}
use Rattle.osm_round.proofs.OnwardLemmas.{all_base}
use Rattle.osm_kept.specs.Names.{journal_name_of}
use Rattle.osm_kept.specs.Refusal.{IsOther}
use Rattle.osm_operations.specs.Alone.{IsInStepAlone}
use Rattle.osm_operations.specs.Stepping.{KeptLaws}
use Rattle.osm_operations.proofs.AgreeLemmas.{is_kept_same, right_same}
use Rattle.osm_operations.proofs.KeptLemmas.{IsOwn, own}
use Rattle.osm_operations.specs.Spoiling.{IsSpoiledFault, spoiled}
use Rattle.osm_operations.proofs.SpoiledLemmas.{IsSpoiled, lost_alike, no_state, other_number, other_suffix, suffix_cases, there_same}
use Rattle.osm_operations.proofs.SpoiledLemmas.{bytes_alike, unread_among, unspoiled_all}
use Rattle.osm_operations.proofs.FollowLemmas.{some_there, taken_there}

-- when a file of number k is read, if its turn comes: a change file only if the state is there, and the OPL file only if
-- there is no o5c file
abbrev pub IsReadAt : Files → List ℕ → ℕ → Suffix → Type 0
IsReadAt files dir k State = Unit {0}
IsReadAt files dir k O5c = is_none (files (file_name_of dir k State)) ≡ false
IsReadAt files dir k Opl =
    (is_none (files (file_name_of dir k State)) ≡ false) × (is_none (files (file_name_of dir k O5c)) ≡ true)

short : (s : Suffix) (told : Option (List ℕ)) → told ≡ Some spoiled → IsOver (limit_of s) told → ⊥
short State told e over =
    let long = ap length (same_Some spoiled over.bytes (sym e ∙ over.there)) in
    let past = over.over in
    omega (arith, long, past)
short O5c told e over =
    let long = ap length (same_Some spoiled over.bytes (sym e ∙ over.there)) in
    let past = over.over in
    omega (arith, long, past)
short Opl told e over =
    let long = ap length (same_Some spoiled over.bytes (sym e ∙ over.there)) in
    let past = over.over in
    omega (arith, long, past)

-- a run under the filter that reports in lines, up to that limit, if it has one
abbrev pub up_to : FilterValue → Option ℕ → FollowOptions
up_to given limit = record { filter = given; limit = limit; layout = Lines; any_time = false }

-- what is kept after a run that came to the number before the spoiled file, and what it reports
pub record IsSpoiledBefore (given : FilterValue) (ps : List PublishedValue) (base number : ℕ) (dir save : List ℕ) (k : ℕ) (s : Suffix)
    (old after : Files) (fault : RunFault) (report : ReportValue) : Type 0 where
  pub count : ℕ
  pub some : 0 < count
  pub value : Saved
  pub kept : IsKept given save after value
  pub base_is : value.base ≡ base
  pub value_is : value.number ≡ number + count
  pub next_is : k ≡ number + count + 1
  pub in_step : IsInStep ps given value
  pub each : (j : ℕ) → number < j → j < k → is_lost old dir j ≡ false
  pub fault_is : IsSpoiledFault k s fault
  pub read : IsReadAt old dir k s
  pub report_is : report ≡ follow_report_of (ranges number count) [] (number + count)

-- what the file that is there saves
saved_here : (given : FilterValue) (told : Option (List ℕ)) (v : Saved) (bytes : List ℕ) → IsSaved given told v → told ≡ Some bytes → SpellsSave bytes v
saved_here given None v bytes s there = absurd (let bad : None ≡ Some bytes = there in cc)
saved_here given (Some text) v bytes s there = subst (λ (l : List ℕ). SpellsSave l v) (same_Some text bytes there) s

-- the folder, the save and the journal that a run finds, but for the spoiled file of number k
pub record IsSpoiledFolder (given : FilterValue) (ps : List PublishedValue) (base number : ℕ) (dir save : List ℕ) (k : ℕ) (s : Suffix)
    (old new : Files) : Type 0 where
  pub folder : IsFolderOf ps old dir
  pub saved : IsKeptOf ps given base number save old
  pub alone : IsInStepAlone ps given (old save)
  pub apart : IsApart dir save
  pub apart_journal : IsApart dir (journal_name_of save)
  pub above : 0 < k
  pub within : k ≤ length ps
  pub is : IsSpoiled dir k s old new

few_over : {given : FilterValue} {ps : List PublishedValue} {base number : ℕ} {dir save : List ℕ} {k : ℕ} {s : Suffix} {old new : Files}
    → IsSpoiledFolder given ps base number dir save k s old new → length ps ≤ max_sequence
few_over {ps = ps} o =
    let above = o.above in
    let within = o.within in
    (o.folder.sequences (length ps) (omega (arith, above, within)) (omega arith)).most

module _ (given : FilterValue) (ps : List PublishedValue) (base number : ℕ) (dir save : List ℕ) (k : ℕ) (s : Suffix)
    (old new : Files) (o : IsSpoiledFolder given ps base number dir save k s old new) where
  save_same : new save ≡ old save
  save_same = o.is.put.others save (λ e. o.apart.each k s o.is.most e)

  journal_same : new (journal_name_of save) ≡ old (journal_name_of save)
  journal_same = o.is.put.others (journal_name_of save) (λ e. o.apart_journal.each k s o.is.most e)

  top_same : new (top_name_of dir) ≡ old (top_name_of dir)
  top_same = o.is.put.others (top_name_of dir) (λ e. top_is_no_file dir k s e)

  -- what a run starts from is kept over the spoiled file too
  pub kept_here : IsKept given save new o.saved.value
  kept_here = is_kept_same given save old new o.saved.value (save_same, journal_same) o.saved.kept

  start_same : (top : StateValue) → StartsFrom given dir new o.saved.value top → StartsFrom given dir old o.saved.value top
  start_same top starts = record { filter_is = starts.filter_is; top_is = rw (← top_same) starts.top_is }

  -- it goes up to the last published one
  top_is : (top : StateValue) → IsTopState (new (top_name_of dir)) top → top.sequence ≡ length ps
  top_is top told = top_number ps (old (top_name_of dir)) top o.folder.sequences o.folder.top (rw (← top_same) told)

  -- ---- a run that isn't stopped by the spoiled file

  reached_same : (reached top : ℕ) → reached ≤ top → top ≤ max_sequence → IsReached new dir reached top → IsReached old dir reached top
  reached_same reached top until most far = elim (cases_lt reached top) [
    | inr past ↦ inl (omega (arith, until, past))
    | inl below ↦ elim far [
      | inl e ↦ inl e
      | inr lost ↦ inr (sym (lost_alike dir k (reached + 1) s old new o.is (omega (arith, below, most))) ∙ lost)
    ]
  ]

  lost_same : (n count : ℕ) → n + count ≤ max_sequence → filter (is_lost new dir) (numbers n count) ≡ filter (is_lost old dir) (numbers n count)
  lost_same n zero most = refl
  lost_same n (suc count) most =
      rw (
        filter-append (is_lost new dir) (numbers n count) ((n + suc count) ∷ []),
        filter-append (is_lost old dir) (numbers n count) ((n + suc count) ∷ []),
        lost_same n count (omega (arith, most)),
        lost_alike dir k (n + suc count) s old new o.is (omega (arith, most)),
      ) refl

  -- no number that a run took is past the last one
  few_taken : (limit : Option ℕ) (after : Files) (report : ReportValue) (run : GoesOnFrom (up_to given limit) dir save new after report o.saved.value)
      → o.saved.value.number + run.count ≤ max_sequence
  few_taken limit after report run =
      let most = few_over o in
      let top = top_is run.top run.starts.top_is in
      let until = run.goes_on.until in
      let sum = run.goes_on.number in
      let end = last_within limit o.saved.value.number run.top.sequence in
      omega (arith, sum, until, end, top, most)

  -- a run up to that limit, if it has one
  pub same_run : (limit : Option ℕ) (after g : Files) (report : ReportValue) → GoesOnFrom (up_to given limit) dir save new after report o.saved.value
      → ((v : Saved) → IsKept given save after v → IsKept given save g v) → GoesOnFrom (up_to given limit) dir save old g report o.saved.value
  same_run limit after g report run stays =
      let most = few_over o in
      let top = top_is run.top run.starts.top_is in
      let until = run.goes_on.until in
      let sum = run.goes_on.number in
      let n = run.reached.number in
      let last = last_number limit o.saved.value.number run.top.sequence in
      let end = last_within limit o.saved.value.number run.top.sequence in
      let low = min_within n last in
      record {
        top = run.top;
        starts = start_same run.top run.starts;
        count = run.count;
        reached = run.reached;
        goes_on = record {
          added = unspoiled_all dir k s old new run.count o.saved.value run.reached o.is (few_taken limit after report run) run.goes_on.added;
          number = sum;
          until = until;
          far = reached_same n last until (omega (arith, end, top, most)) run.goes_on.far;
        };
        kept = stays run.reached run.kept;
        report_is = run.report_is ∙ ap (λ xs. follow_report_of (ranges o.saved.value.number run.count) xs n)
            (lost_same n (min 64 (last - n)) (omega (arith, low, until, end, top, most)));
      }
    where
      min_within : (a b : ℕ) → min 64 (b - a) ≤ b - a
      min_within a b = grind (arith)

  -- the spoiled file isn't one that such a run reads
  pub unread : (limit : Option ℕ) (after : Files) (report : ReportValue) (run : GoesOnFrom (up_to given limit) dir save new after report o.saved.value)
      → number < k → k ≤ number + run.count → (s ≡ Opl) × (is_none (old (file_name_of dir k O5c)) ≡ false)
  unread limit after report run above until =
      let from = o.saved.number_is in
      unread_among dir k s old new run.count o.saved.value run.reached o.is (few_taken limit after report run) run.goes_on.added
      (omega (arith, from, above)) (omega (arith, from, until))

  -- a run that came to a part takes no other bytes
  pub same_part : (after g : Files) (report : ReportValue) (count : ℕ) → GoesOnInPart (plainly given) dir save new after report count o.saved.value
      → ((v : Saved) → IsKept given save after v → IsKept given save g v) → GoesOnInPart (plainly given) dir save old g report count o.saved.value
  unfolding same_run
  same_part after g report count run stays =
      let bytes : bytes_of new dir o.saved.value.number run.goes.count ≡ bytes_of old dir o.saved.value.number run.goes.count =
      bytes_alike dir k s old new run.goes.count o.saved.value run.goes.reached o.is (few_taken (Some count) after report run.goes) run.goes.goes_on.added in
      record {
        goes = same_run (Some count) after g report run.goes stays;
        count_is = run.count_is;
        below = run.below;
        enough = subst (λ sum. max_round ≤ sum)
            (subst (λ c. bytes_of new dir o.saved.value.number c ≡ bytes_of old dir o.saved.value.number c) run.count_is bytes) run.enough;
      }

  -- ---- faults in files

  -- a file of a published number is right, or it is the spoiled one
  right_or_spoiled : (j : ℕ) (t : Suffix) → 0 < j → j ≤ length ps
      → IsAbsentOr (new (file_name_of dir j t)) (IsFile t (sequence_at ps j))
      ⊎ ((j ≡ k) × (t ≡ s) × (new (file_name_of dir j t) ≡ Some spoiled))
  right_or_spoiled j t above until =
      let most = few_over o in
      let right : IsAbsentOr (old (file_name_of dir j t)) (IsFile t (sequence_at ps j)) = o.folder.each j t above until in
      elim (cases_eq j k) [
        | inr apart ↦ inl (rw (other_number dir k j s t old new o.is (omega (arith, until, most)) apart) right)
        | inl same ↦ elim (suffix_cases t s) [
          | inr apart ↦ inl (rw (other_suffix dir k j s t old new o.is (omega (arith, until, most)) apart) right)
          | inl too ↦ inr (same, too, rw (same, too) o.is.put.there)
        ]
      ]

  state_there : is_none (new (file_name_of dir k State)) ≡ false → (s ≡ State → ⊥) → is_none (old (file_name_of dir k State)) ≡ false
  state_there h apart = sym (ap is_none (other_suffix dir k k s State old new o.is o.is.most (λ e. apart (sym e)))) ∙ h

  state_at : (before_it : Option ℕ) (j : ℕ) → j ≡ k → HasState new dir before_it j → is_none (new (file_name_of dir k State)) ≡ false
  state_at before_it j same has =
      some_there (new (file_name_of dir k State)) (IsStateFile k has.0)
      (subst (λ n. IsThere (new (file_name_of dir n State)) (IsStateFile n has.0)) same has.1)

  o5c_gone : is_none (new (file_name_of dir k O5c)) ≡ true → is_none (old (file_name_of dir k O5c)) ≡ true
  o5c_gone h = sym (there_same dir k k s O5c old new o.is o.is.most) ∙ h

  -- what a file holds is a reason to stop only if it is the spoiled one, and was read
  pub content_stops : NoFaultBesideState → (known : Type 0) → known → (before_it : Option ℕ) (j : ℕ) → 0 < j → j ≤ length ps
      → IsOnward before_it (sequence_at ps j).time → (fault : RunFault) → NumberStops known dir new before_it j fault → (m : ℕ) → IsOfContent fault m
      → (j ≡ k) × IsSpoiledFault k s fault × IsReadAt old dir k s
  content_stops law known sure before_it j above until onward (TooLarge (Sequence i t)) h m content = elim (right_or_spoiled j t above until) [
    | inl right ↦ absurd (not_over (sequence_at ps j) t (new (file_name_of dir j t)) right (h.1 sure).1)
    | inr it ↦ absurd (short t (new (file_name_of dir j t)) it.2 (h.1 sure).1)
  ]
  content_stops law known sure before_it j above until onward (BadState (Sequence i State) cause) h m content = elim (right_or_spoiled j State above until) [
    | inl right ↦ absurd (not_bad law (sequence_at ps j) (new (file_name_of dir j State)) cause right (h.1 sure))
    | inr it ↦ (it.0, (h.0 ∙ it.0, sym it.1), subst (IsReadAt old dir k) it.1 tt)
  ]
  content_stops law known sure before_it j above until onward (Mismatch i) h m content = elim (right_or_spoiled j State above until) [
    | inl right ↦ absurd (not_other (sequence_at ps j) (new (file_name_of dir j State)) j (o.folder.sequences j above until).number_is right (h.1 sure))
    | inr it ↦ absurd (no_other (new (file_name_of dir j State)) j it.2 (h.1 sure))
  ]
    where
      no_other : (told : Option (List ℕ)) (n : ℕ) → told ≡ Some spoiled → NamesOther told n → ⊥
      no_other told n e other = no_state _ (rw e at other.3).names
  content_stops law known sure before_it j above until onward (OlderNumber i) h m content = elim (right_or_spoiled j State above until) [
    | inl right ↦ absurd (not_earlier (sequence_at ps j) (new (file_name_of dir j State)) before_it j onward right (h.1 sure))
    | inr it ↦ absurd (no_earlier (new (file_name_of dir j State)) j it.2 (h.1 sure))
  ]
    where
      no_earlier : (told : Option (List ℕ)) (n : ℕ) → told ≡ Some spoiled → HasEarlier told before_it n → ⊥
      no_earlier told n e earlier = no_state _ (rw e at earlier.2).names
  content_stops law known sure before_it j above until onward (BadChange (Sequence i O5c) place why) h m content = elim (right_or_spoiled j O5c above until) [
    | inl right ↦ absurd (not_faulty (sequence_at ps j) (new (file_name_of dir j O5c)) place right (h.1 sure).1)
    | inr it ↦ (
      it.0,
      (h.0 ∙ it.0, sym it.1),
      subst (IsReadAt old dir k) it.1 (state_there (state_at before_it j it.0 (h.1 sure).0) (λ e. let bad : O5c ≡ State = it.1 ∙ e in cc)),
    )
  ]
  content_stops law known sure before_it j above until onward (BadChange (Sequence i Opl) place why) h m content = elim (right_or_spoiled j Opl above until) [
    | inl right ↦ absurd (not_faulty_opl (sequence_at ps j) (new (file_name_of dir j Opl)) place right (h.1 sure).1)
    | inr it ↦ (
      it.0,
      (h.0 ∙ it.0, sym it.1),
      subst (IsReadAt old dir k) it.1 (
        state_there (state_at before_it j it.0 (h.1 sure).0.0) (λ e. let bad : Opl ≡ State = it.1 ∙ e in cc),
        o5c_gone (ap is_none (subst (λ n. new (file_name_of dir n O5c) ≡ None) it.0 (h.1 sure).0.1)),
      ),
    )
  ]
  content_stops law known sure before_it j above until onward (BadChange (Sequence i State) place why) h m content = absurd h
  content_stops law known sure before_it j above until onward fault h m content = absurd content

  -- what comes before the spoiled file
  pub before : NoFaultBesideState → (known : Type 0) → known → (after : Files) (fault : RunFault) (report : ReportValue)
      → GoesUpTo known (plainly given) dir save new after fault report o.saved.value
      → IsSpoiledBefore given ps base number dir save k s old after fault report
  before law known sure after fault report c =
      let most = few_over o in
      let top = top_is c.top c.starts.top_is in
      let from = o.saved.number_is in
      let sum = adds_number new dir c.count o.saved.value c.reached c.added in
      let below = c.below in
      let added = unspoiled_all dir k s old new c.count o.saved.value c.reached o.is (omega (arith, sum, below, top, most)) c.added in
      let step = all_in_step given ps old dir c.count o.saved.value c.reached o.folder (omega (arith, sum, below, top)) added o.saved.in_step in
      let faulty = content_stops law known sure c.reached.time (c.reached.number + 1) (omega arith) (omega (arith, below, top))
      (subst (λ t. IsOnward t (sequence_at ps (c.reached.number + 1)).time) (sym step.time) (onward_at ps c.reached.number o.folder.rising
      (omega (arith, below, top)))) fault c.stops (c.reached.number + 1) c.content in
      let at : c.reached.number + 1 ≡ k = faulty.0 in
      let value_is : c.reached.number ≡ number + c.count = omega (arith, sum, from) in
      record {
        count = c.count;
        some = c.some;
        value = c.reached;
        kept = c.kept;
        base_is = all_base old dir c.count o.saved.value c.reached added ∙ o.saved.base_is;
        value_is = value_is;
        next_is = omega (arith, at, value_is);
        in_step = step;
        each = λ j past under.
            taken_there old dir c.count o.saved.value c.reached added j (omega (arith, from, past)) (omega (arith, from, under, at, value_is));
        fault_is = faulty.1;
        read = faulty.2;
        report_is = c.report_is ∙ (ap (λ (n : ℕ). follow_report_of (ranges n c.count) [] c.reached.number) from
            ∙ ap (λ (n : ℕ). follow_report_of (ranges number c.count) [] n) value_is);
      }

  -- ---- why the word stops

  own_save : IsOwn ps given (old save)
  own_save = own ps given base number save old o.saved o.alone

  many_over : KeptLaws → HasManyAfter (plainly given) dir save new → HasMany ps given
  many_over laws m =
      let same : m.start ≡ o.saved.value = one_is_kept laws.one given save new m.start o.saved.value m.kept kept_here in
      let most = few_over o in
      let top = top_is m.top m.starts.top_is in
      let until = m.until in
      let sum = adds_number new dir m.count m.start m.reached m.added in
      record {
        value = m.reached;
        in_step = all_in_step given ps old dir m.count m.start m.reached o.folder (omega (arith, sum, until, top))
            (unspoiled_all dir k s old new m.count m.start m.reached o.is (omega (arith, sum, until, top, most)) m.added)
            (rw same o.saved.in_step);
        many = m.many;
      }

  start_over : KeptLaws → NoFaultBesideState → (known : Type 0) → known → (fault : RunFault) → BeginningStops known (plainly given) dir save new fault
      → KeepingStopsOver ps given (old save) (old (journal_name_of save)) fault
  start_over laws law known sure WantOfMemory h = tt
  start_over laws law known sure (ReadFault Save) h = tt
  start_over laws law known sure (ReadFault Journal) h = tt
  start_over laws law known sure (ReadFault Top) h = tt
  start_over laws law known sure (WriteFault Save) h = tt
  start_over laws law known sure (WriteFault Journal) h = tt
  start_over laws law known sure (Changed Save) h = absurd (h sure)
  start_over laws law known sure (Absent Save) h = absurd (h sure)
  start_over laws law known sure (TooLarge Save) h = by_reason (h sure)
    where
      by_reason : IsTooLarge (new save) ⊎ HasManyAfter (plainly given) dir save new → IsHugeFile (old save) ⊎ HasMany ps given
      by_reason (inl (inl huge)) = inl (rw (← save_same) huge)
      by_reason (inl (inr none)) = absurd (no_bad_save given (old save) own_save.saved.value own_save.saved.saved (rw (← save_same) none))
      by_reason (inr many) = inr (many_over laws many)
  start_over laws law known sure (TooLarge Journal) h = rw (← journal_same) (h sure)
  start_over laws law known sure (BadSave line) h =
      absurd (no_bad_save given (old save) own_save.saved.value own_save.saved.saved (rw (← save_same) (h sure)))
  start_over laws law known sure (BadJournal line) h =
      absurd (right_same save old new (save_same, journal_same) o.saved.right line (h sure))
  start_over laws law known sure (OtherJournal n) h =
      subst (λ o. IsOther o (old (journal_name_of save)) n) save_same (subst (λ o. IsOther (new save) o n) journal_same (h sure))
  start_over laws law known sure OtherFilter h =
      let b = h sure in
      let told : SpellsSave b.bytes own_save.saved.value =
      saved_here given (old save) own_save.saved.value b.bytes own_save.saved.saved (sym save_same ∙ b.there) in
      absurd (b.other own_save.saved.value told own_save.saved.in_step.filter_is)
  start_over laws law known sure (Absent Top) h = none_published ps (old (top_name_of dir)) o.folder.top (rw (← top_same) (h sure).1)
  start_over laws law known sure (TooLarge Top) h = absurd (small_top ps (old (top_name_of dir)) o.folder.top (rw (← top_same) (h sure).1))
  start_over laws law known sure (BadState Top cause) h =
      absurd (good_top law ps (old (top_name_of dir)) cause o.folder.top (rw (← top_same) (h sure).1))
  start_over laws law known sure TopBehind h =
      let b = h sure in
      let top = top_is b.top b.top_is in
      let below = (b.below o.saved.value kept_here).1 in
      let within = o.saved.in_step.within in
      absurd (omega (arith, top, below, within))
  start_over laws law known sure fault h = absurd h

  missing_refuses : (known : Type 0) (reached last : ℕ) (fault : RunFault) → MissingStops known dir new reached last fault
      → KeepingStopsOver ps given (old save) (old (journal_name_of save)) fault
  missing_refuses known reached last WantOfMemory h = tt
  missing_refuses known reached last (ReadFault (Sequence j t)) h = tt
  missing_refuses known reached last fault h = absurd h

  -- a file that is no reason to stop a run, or is the spoiled one of the next number
  abbrev IsNextSpoiled : RunFault → Type 0
  IsNextSpoiled fault = (k ≡ number + 1) × IsSpoiledFault k s fault × IsReadAt old dir k s

  next_spoiled : NoFaultBesideState → (known : Type 0) → known → (before_it : Option ℕ) (j : ℕ) → 0 < j → j ≤ length ps → (fault : RunFault)
      → NumberStops known dir new before_it j fault → IsOnward before_it (sequence_at ps j).time → (m : ℕ) → m ≡ j → IsOfContent fault m
      → m ≡ number + 1 → IsNextSpoiled fault
  next_spoiled law known sure before_it j above until fault h onward m same content next =
      let at = content_stops law known sure before_it j above until onward fault h m content in
      (sym at.0 ∙ (sym same ∙ next), at.1, at.2)

  number_refuses : NoFaultBesideState → (known : Type 0) → known → (before_it : Option ℕ) (j : ℕ) → 0 < j → j ≤ length ps → (fault : RunFault)
      → NumberStops known dir new before_it j fault
      → ((m : ℕ) → IsOfContent fault m → (m ≡ number + 1) × IsOnward before_it (sequence_at ps j).time)
      → KeepingStopsOver ps given (old save) (old (journal_name_of save)) fault ⊎ IsNextSpoiled fault
  number_refuses law known sure before_it j above until WantOfMemory h next = inl tt
  number_refuses law known sure before_it j above until (ReadFault (Sequence i t)) h next = inl tt
  number_refuses law known sure before_it j above until (TooLarge (Sequence i t)) h next =
      inr (next_spoiled law known sure before_it j above until (TooLarge (Sequence i t)) h (next i refl).1 i h.0 refl (next i refl).0)
  number_refuses law known sure before_it j above until (BadState (Sequence i State) cause) h next =
      inr (next_spoiled law known sure before_it j above until (BadState (Sequence i State) cause) h (next i refl).1 i h.0 refl (next i refl).0)
  number_refuses law known sure before_it j above until (Mismatch i) h next =
      inr (next_spoiled law known sure before_it j above until (Mismatch i) h (next i refl).1 i h.0 refl (next i refl).0)
  number_refuses law known sure before_it j above until (OlderNumber i) h next =
      inr (next_spoiled law known sure before_it j above until (OlderNumber i) h (next i refl).1 i h.0 refl (next i refl).0)
  number_refuses law known sure before_it j above until (BadChange (Sequence i O5c) place why) h next =
      inr (next_spoiled law known sure before_it j above until (BadChange (Sequence i O5c) place why) h (next i refl).1 i h.0 refl (next i refl).0)
  number_refuses law known sure before_it j above until (BadChange (Sequence i Opl) place why) h next =
      inr (next_spoiled law known sure before_it j above until (BadChange (Sequence i Opl) place why) h (next i refl).1 i h.0 refl (next i refl).0)
  number_refuses law known sure before_it j above until fault h next = absurd h

  -- for what stops a run over the folder, or for the spoiled file of the next number
  pub progress_stops : KeptLaws → NoFaultBesideState → (known : Type 0) → known → (fault : RunFault) → KeepingStops known (plainly given) dir save new fault
      → KeepingStopsOver ps given (old save) (old (journal_name_of save)) fault
      ⊎ ((k ≡ number + 1) × IsSpoiledFault k s fault × IsReadAt old dir k s)
  progress_stops laws law known sure fault (inl h) = inl (start_over laws law known sure fault h)
  progress_stops laws law known sure fault (inr (inl at)) =
      let c = at.comes sure o.saved.value kept_here in
      let above = c.above in
      let until = c.until in
      let top = top_is at.top (at.top_is sure) in
      let within : at.number ≤ length ps = omega (arith, until, top) in
      number_refuses law known sure at.before at.number (omega (arith, above)) within fault at.stops
      (λ m content. (
      let same : at.number ≡ m = stops_number known dir new at.before at.number m fault at.stops content in
      let next = at.next sure (subst (IsOfContent fault) (sym same) content) o.saved.value kept_here in
      let number_is = next.0 in (
        sym same ∙ (next.0 ∙ ap (λ (n : ℕ). n + 1) o.saved.number_is),
        rw (next.1 ∙ o.saved.in_step.time, next.0) (onward_at ps o.saved.value.number o.folder.rising (omega (arith, number_is, within))),
      )))
  progress_stops laws law known sure fault (inr (inr b)) = inl (missing_refuses known b.reached b.last fault b.stops)
