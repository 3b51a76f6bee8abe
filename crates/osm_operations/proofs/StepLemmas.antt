-- After each operation the files are as the history says.
use Rattle.std.proofs.Common.{◌≡◌, ℕ, ◌+◌, ◌-◌, ◌≤◌, List, [], ◌∷◌, ◌++◌, length, Bool, Option, true, false, Some}
use Rattle.std.proofs.Common.{None, inl, inr, arith, refl, sym, ap, subst, ◌∙◌, append-nil}
use Rattle.std.specs.Prelude.{◌⊎◌, ◌==◌, IsTrue, is_none, not, if◌then◌else◌, max, Result, Ok, Err}
use Rattle.std.specs.List.{zip}
use Rattle.std.proofs.lemmas.Bool.{eq-eqb, ne_eqb}
use Rattle.std.proofs.lemmas.List.{reverse-append}
use Rattle.osm_model.specs.Change.{ChangeValue}
use Rattle.osm_model.specs.Filter.{FilterValue}
use Rattle.osm_model.specs.Limits.{max_file, max_sequence}
use Rattle.osm_mirror.proofs.MirrorLemmas.{mirror_of-nil}
use Rattle.osm_state.specs.declared.paths.Suffix.{Suffix}
use Rattle.osm_state.specs.declared.paths.Suffix.TheVariants.{O5c, Opl, State}
use Rattle.osm_publisher.specs.Published.{PublishedValue, sequence_at}
use Rattle.osm_follow.specs.Reach.{numbers}
use Rattle.osm_beginning.specs.Beginning.{IsTimely}
use Rattle.osm_beginning.specs.Keeping.{IsBegunBoth, begin_kept_calls}
use Rattle.osm_kept.specs.Names.{journal_name_of}
use Rattle.osm_merge.specs.Calls.{bytes_in}
use Rattle.osm_store.specs.Files.{Files, IsOver}
use Rattle.osm_runs.specs.Folder.{IsStateFile}
use Rattle.osm_runs.specs.Following.{IsInStep, IsSaved, no_save, plainly, ranges}
use Rattle.osm_runs.specs.Keeping.{IsKept, IsKeptOf, KeptIn}
use Rattle.osm_round.specs.Keeping.{GoesOnFrom, GoesOnInPart}
use Rattle.osm_round.specs.KeepingOver.{KeepingStopsOver, kept_calls}
use Rattle.osm_runs.specs.Names.{file_name_of}
use Rattle.osm_publishing.specs.Numbered.{numbered_calls}
use Rattle.osm_runs.specs.Reports.{ReportValue, begin_report_of, convert_report_of, follow_report_of, publish_report_of}
use Rattle.osm_runs.specs.Runs.{LacksCalls}
use Rattle.osm_store.specs.Stores.{files_of}
use Rattle.osm_runs.specs.declared.fault.FileName.TheVariants.{Journal, Save}
use Rattle.osm_runs.specs.declared.fault.RunFault.{RunFault}
use Rattle.osm_runs.specs.declared.fault.RunFault.TheVariants.{WantOfMemory, OtherJournal, ReadFault, WriteFault}
use Rattle.osm_runs.specs.declared.progress.Progress.TheVariants.{Whole, Part, Before}
use Rattle.osm_operations.specs.Allowed.{AreAllowed, CutsAfter, IsNoNumber, IsRepeat, KilledFollowingStopsIn}
use Rattle.osm_operations.specs.Allowed.{KilledNumberedStopsIn, KilledPublicationStopsIn, NumberedCut, NumberedDone}
use Rattle.osm_operations.specs.Allowed.{HasBeginning, HasExport, HasTimelyExtract, IsCutAt, KilledBeginStopsIn, KilledExportStopsIn, following_report}
use Rattle.osm_operations.specs.Allowed.{AllowedFollowOther, IsFileThere, IsReadIn, KilledSpoiledStopsIn, NothingToSpoil}
use Rattle.osm_operations.specs.Allowed.{IsPart, SpoiledBefore, SpoiledDone, SpoiledPart, SpoiledStopsIn}
use Rattle.osm_operations.specs.Alone.{IsInStepAlone}
use Rattle.osm_operations.specs.Correct.{AreApart, IsNew, IsRun}
use Rattle.osm_operations.specs.History as hist
use Rattle.osm_operations.specs.Reported.{applied_in}
use Rattle.osm_operations.specs.Spoiling.{number_before}
use Rattle.osm_operations.specs.Stepping.{LacksExportCalls, most_to_export}
use Rattle.osm_operations.specs.Stepping.{BeginTo, ExportTo, IsNoOther, KeepsExported, LacksCallsToBegin, LeavesAll, OtherTo, StopsBeginning}
use Rattle.osm_operations.specs.Stepping.{state_name_of}
use Rattle.osm_operations.specs.Killing.{HasCalls}
use Rattle.osm_operations.specs.Stepping.{FollowTo, IsNoDevice, IsNumber, NumberedStep, PublishAsTo}
use Rattle.osm_operations.specs.Stepping.{PublishStep, PublishTo, ReturnForms, SpoiledStep, SpoiledTo, Step, form_back, named}
use Rattle.osm_operations.specs.declared.operation.Operation.{Operation}
use Rattle.osm_operations.specs.declared.operation.Operation.TheVariants.{Publish, PublishAs, Follow, FollowOther, FollowSpoiled}
use Rattle.osm_operations.specs.declared.operation.Operation.TheVariants.{Export, Begin, Lose, PutBack}
use Rattle.osm_operations.specs.declared.operation.Reply.{Reply}
use Rattle.osm_operations.specs.declared.operation.Reply.TheVariants.{Published, Followed, Refused, CutOff, Lost, IsBack, NotThere}
use Rattle.osm_operations.specs.declared.operation.Reply.TheVariants.{Exported, Begun, CutShort, FollowedBefore, FollowedPart}
use Rattle.osm_operations.specs.declared.world.World.{World}
use Rattle.osm_opl.specs.Written.{opl_text}
use Rattle.osm_operations.proofs.AgreeLemmas.{Agrees, IsFreeBut, changes_put, few, published_agrees, stopped_agrees}
use Rattle.osm_operations.proofs.KeptLemmas.{LeavesBoth, follows_leaves, leaves_save, refused_agrees}
use Rattle.osm_operations.proofs.RowLemmas.{never_refuses, no_device_lacks, not_killed, out_unlimited, stopped_row, unwritten_no_device, unwritten_row}
use Rattle.osm_operations.proofs.CutLemmas.{StayOrReturn, number_stopped, unrun_stays}
use Rattle.osm_operations.proofs.NumberLemmas.{AreGone, lost_alike, named_least, named_most, none_back}
use Rattle.osm_operations.proofs.NumberRows.{cut_unlimited, cuts_after, number_not_killed, number_unlimited, stopped_number, unwritten_number}
use Rattle.osm_operations.proofs.NumberedLemmas.{IsAgain, number_published, value_of, wrote_not}
use Rattle.osm_operations.proofs.FollowLemmas.{followed, followed_part, gone_on, not_killed_follow, stopped_follow}
use Rattle.osm_operations.proofs.ReportedLemmas.{reports_before, reports_more}
use Rattle.osm_operations.proofs.ExtractLemmas.{begin_agrees, begin_row, cut_agrees, cut_leaves, cut_row, export_agrees, export_row, has_export}
use Rattle.osm_operations.proofs.ExtractLemmas.{is_absent_not, not_killed_begin, not_killed_export, plain_leaves, state_name, state_there, timely_extract}
use Rattle.osm_operations.proofs.OtherLemmas.{not_before, not_followed, not_part, other_refused, same_kept}
use Rattle.osm_operations.proofs.SpoiledRunLemmas.{progress_stops}
use Rattle.osm_operations.proofs.SpoiledStepLemmas.{came_before, file_there, mended_leaves, mended_same, kept_beside, mended_beside, same_beside}
use Rattle.osm_operations.proofs.SpoiledStepLemmas.{not_read, not_read_part}
use Rattle.osm_operations.proofs.SpoiledStepLemmas.{over_spoiled, read_in, spoiled_followed, spoiled_part}
use Rattle.osm_operations.proofs.MoveLemmas.{back_agrees, kept_none, lost_agrees, not_false, not_true}

-- the files are those of the history, each reply is allowed, and the reports say each number once
pub record Holds (h : hist.History) (given : FilterValue) (dir save changes extract : List ℕ) (start : Files) (w : World) : Type 0 where
  pub agrees : Agrees (hist.published_of h) (hist.is_file_lost h) (hist.standing_of h) given dir save changes extract start (files_of w.store)
      (files_of w.lost) w.published
  pub allowed : AreAllowed given extract h
  pub reported : hist.reported_of h ≡ numbers (hist.base_of h) (hist.number_of h - hist.base_of h)
  pub exported : w.exported ≡ hist.beginning_of h

abbrev AgreesIn : List PublishedValue → (ℕ → Suffix → Bool) → hist.Standing → FilterValue → List ℕ → List ℕ → List ℕ → List ℕ → Files
    → World → Type 0
AgreesIn p lost m given dir save changes extract start w = Agrees p lost m given dir save changes extract start (files_of w.store) (files_of w.lost) w.published

quiet : (p : List PublishedValue) (lost : ℕ → Suffix → Bool) (m : hist.Standing) (given : FilterValue) (dir save changes extract : List ℕ) (start f l : Files)
    (n : ℕ) → Agrees p lost m given dir save changes extract start f l n → Agrees (p ++ []) lost m given dir save changes extract start f l n
quiet p lost m given dir save changes extract start f l n s =
    subst (λ q. Agrees q lost m given dir save changes extract start f l n) (sym (append-nil p)) s

renewed : (p : List PublishedValue) (lost : ℕ → Suffix → Bool) (m : hist.Standing) (given : FilterValue) (dir save changes extract : List ℕ)
    (start f l f' l' : Files) (n n' : ℕ) → f' ≡ f → l' ≡ l → n' ≡ n → Agrees p lost m given dir save changes extract start f l n
    → Agrees p lost m given dir save changes extract start f' l' n'
renewed p lost m given dir save changes extract start f l f' l' n n' a b c s =
    subst (λ (x : Files). Agrees p lost m given dir save changes extract start x l' n') (sym a)
    (subst (λ (x : Files). Agrees p lost m given dir save changes extract start f x n') (sym b)
    (subst (λ i. Agrees p lost m given dir save changes extract start f l i) (sym c) s))

publish_more : (left : Option ℕ) (p : List PublishedValue) (lost : ℕ → Suffix → Bool) (m : hist.Standing)
    (given : FilterValue) (dir save changes extract : List ℕ) (start : Files) (a b : World) (batch : List ChangeValue) (time : ℕ)
    (report : ReportValue) → AreApart dir save changes extract → AgreesIn p lost m given dir save changes extract start a
    → PublishTo left dir changes batch time (Published report) a b
    → AgreesIn (p ++ (record { number = length p + 1; changes = batch; time = time }) ∷ []) lost
    m given dir save changes extract start b × (report ≡ publish_report_of (length p + 1))
publish_more left p lost m given dir save changes extract start a b batch time report apart s step =
    let done = published_agrees p lost m given dir save changes extract start (files_of a.store) (files_of b.store)
    (files_of a.lost) a.published batch time report apart s step.0 in
    let most = few (p ++ (record { number = length p + 1; changes = batch; time = time }) ∷ []) done.0.folder.sequences in
    let n_is = done.0.number in (
      renewed (p ++ (record { number = length p + 1; changes = batch; time = time }) ∷ []) lost m given dir save changes extract
          start (files_of b.store) (files_of a.lost) (files_of b.store) (files_of b.lost) (a.published + 1) b.published
          refl (ap files_of step.1) (step.2 (omega (arith, n_is, most)))
          done.0,
      done.1,
    )

publish_stopped : (p : List PublishedValue) (lost : ℕ → Suffix → Bool) (m : hist.Standing) (given : FilterValue) (dir save changes extract : List ℕ)
    (start : Files) (a b : World) (batch : List ChangeValue) (time calls : ℕ) (fault : RunFault)
    → AreApart dir save changes extract → AgreesIn p lost m given dir save changes extract start a
    → PublishTo (Some calls) dir changes batch time (Refused fault) a b
    → AgreesIn (p ++ []) lost m given dir save changes extract start b × KilledPublicationStopsIn p batch time calls fault
publish_stopped p lost m given dir save changes extract start a b batch time calls fault apart s step =
    let done = by_step step.0 in (
      quiet p lost m given dir save changes extract start (files_of b.store) (files_of b.lost) b.published
          (renewed p lost m given dir save changes extract start (files_of b.store) (files_of a.lost) (files_of b.store)
          (files_of b.lost) a.published b.published refl (ap files_of step.1) step.2 done.0),
      done.1,
    )
  where
    by_step : PublishStep (Some calls) dir changes batch time (Err fault) (files_of a.store) (files_of b.store)
        → Agrees p lost m given dir save changes extract start (files_of b.store) (files_of a.lost) a.published
        × KilledPublicationStopsIn p batch time calls fault
    by_step (inl h) = (
      renewed p lost m given dir save changes extract start (files_of a.store) (files_of a.lost) (files_of b.store)
          (files_of a.lost) a.published a.published h.1 refl refl s,
      unwritten_row p batch time calls fault h.0,
    )
    by_step (inr run) =
        let mid = changes_put p lost m given dir save changes extract start (files_of a.store) run.middle
        (files_of a.lost) a.published (Some (opl_text batch)) apart run.there.put s in (
          stopped_agrees (Some calls) p lost m given dir save changes extract start (files_of a.store) (files_of b.store)
              (files_of a.lost) a.published batch time fault apart s run,
          stopped_row p dir changes run.now batch time calls (files_of a.store) run.middle (files_of b.store) fault
              mid.folder run.is_so.out run.shows run.is_text run.there run.is_so.stops (run.is_so.refuses p mid.folder),
        )

-- a run with no limit, as one that may make no call
unlimited : (dir changes : List ℕ) (batch : List ChangeValue) (time : ℕ) (fault : RunFault) (a b : World)
    → PublishTo None dir changes batch time (Refused fault) a b → PublishTo (Some 0) dir changes batch time
    (Refused fault) a b × IsNoDevice fault
unlimited dir changes batch time fault a b (inl h, lost, count) = ((inl h, lost, count), unwritten_no_device batch fault h.0)
unlimited dir changes batch time fault a b (inr run, lost, count) =
    let is = out_unlimited dir run.middle fault run.is_so.out in (
      (
        inr (record {
          now = run.now;
          middle = run.middle;
          shows = run.shows;
          is_text = run.is_text;
          there = run.there;
          is_so = record { stops = run.is_so.stops; refuses = run.is_so.refuses; keeps = run.is_so.keeps; out = is.0 };
          others = run.others;
        }),
        lost,
        count,
      ),
      is.1,
    )

saved_within : (p : List PublishedValue) (given : FilterValue) (base m : ℕ) (save : List ℕ) (f : Files) → IsKeptOf p given base m save f → m ≤ length p
saved_within p given base m save f s = let within = s.in_step.within in let is = s.number_is in omega (arith, within, is)

base_below : (p : List PublishedValue) (given : FilterValue) (base m : ℕ) (save : List ℕ) (f : Files) → IsKeptOf p given base m save f → base ≤ m
base_below p given base m save f s =
    let below = s.in_step.base in let base_is = s.base_is in let number_is = s.number_is in omega (arith, below, base_is, number_is)

-- nothing is reported from a number up to itself
none_reported : (n : ℕ) → [] ≡ numbers n (n - n)
none_reported n = let e : n - n ≡ 0 = omega arith in rw e refl

went_more : (h : hist.History) (given : FilterValue) (dir save changes extract : List ℕ) (start : Files) (a b : World) (report : ReportValue)
    → AreApart dir save changes extract
    → (s : AgreesIn (hist.published_of h) (hist.is_file_lost h) (hist.standing_of h) given dir save changes extract start a)
    → LeavesBoth given save (files_of a.store) (files_of b.store)
    → GoesOnFrom (plainly given) dir save (files_of a.store) (files_of b.store) report s.saved.save_is.value
    → b.lost ≡ a.lost → b.published ≡ a.published → AgreesIn (hist.published_of h ++ [])
    (hist.is_file_lost h) (gone_on (hist.standing_of h) (hist.count_after h (hist.number_of h))) given dir save changes extract start b
    × (report ≡ following_report h) × (hist.number_of h + hist.count_after h (hist.number_of h) ≤
    length (hist.published_of h))
went_more h given dir save changes extract start a b report apart s left run same_lost same_count =
    let done = followed (hist.published_of h) (hist.is_file_lost h) (hist.standing_of h) given dir save changes extract start
    (files_of a.store) (files_of b.store) (files_of a.lost) a.published report apart s left run in (
      subst (λ q. AgreesIn q (hist.is_file_lost h) (gone_on (hist.standing_of h) (hist.count_after h (hist.number_of h))) given dir save
          changes extract start b) (sym (append-nil (hist.published_of h)))
          (renewed (hist.published_of h) (hist.is_file_lost h) (gone_on (hist.standing_of h) (hist.count_after h (hist.number_of h)))
          given dir save changes extract start (files_of b.store) (files_of a.lost)
          (files_of b.store) (files_of b.lost) a.published b.published refl (ap files_of same_lost) same_count done.0),
      done.1,
      saved_within (hist.published_of h) given (hist.base_of h) (hist.number_of h + hist.count_after h (hist.number_of h)) save (files_of b.store)
          done.0.saved.save_is,
    )

follow_more : (h : hist.History) (given : FilterValue) (dir save changes extract : List ℕ) (start : Files) (a b : World) (report : ReportValue)
    → AreApart dir save changes extract → AgreesIn (hist.published_of h) (hist.is_file_lost h) (hist.standing_of h) given dir save
    changes extract start a → FollowTo given dir save (Followed report) a b → AgreesIn (hist.published_of h ++ [])
    (hist.is_file_lost h) (gone_on (hist.standing_of h) (hist.count_after h (hist.number_of h))) given dir save changes extract start b
    × (report ≡ following_report h) × (hist.number_of h + hist.count_after h (hist.number_of h) ≤
    length (hist.published_of h))
follow_more h given dir save changes extract start a b report apart s step =
    went_more h given dir save changes extract start a b report apart s
    (follows_leaves given dir save (Whole report) (files_of a.store) (files_of b.store) step.0)
    ((step.0.follows refl).goes_on.from s.saved.save_is.value s.saved.save_is.kept) step.1 step.2

-- it came to a part
went_part : (h : hist.History) (given : FilterValue) (dir save changes extract : List ℕ) (start : Files) (a b : World) (report : ReportValue)
    (count : ℕ) → AreApart dir save changes extract
    → (s : AgreesIn (hist.published_of h) (hist.is_file_lost h) (hist.standing_of h) given dir save changes extract start a)
    → LeavesBoth given save (files_of a.store) (files_of b.store)
    → GoesOnInPart (plainly given) dir save (files_of a.store) (files_of b.store) report count s.saved.save_is.value
    → b.lost ≡ a.lost → b.published ≡ a.published → AgreesIn (hist.published_of h ++ [])
    (hist.is_file_lost h) (gone_on (hist.standing_of h) count) given dir save changes extract start b × IsPart h report count
went_part h given dir save changes extract start a b report count apart s left run same_lost same_count =
    let done = followed_part (hist.published_of h) (hist.is_file_lost h) (hist.standing_of h) given dir save changes extract start
    (files_of a.store) (files_of b.store) (files_of a.lost) a.published report count apart s left run in (
      quiet (hist.published_of h) (hist.is_file_lost h) (gone_on (hist.standing_of h) count) given dir save changes extract start
          (files_of b.store) (files_of b.lost) b.published
          (renewed (hist.published_of h) (hist.is_file_lost h) (gone_on (hist.standing_of h) count) given dir save changes extract start
          (files_of b.store) (files_of a.lost) (files_of b.store) (files_of b.lost) a.published b.published refl (ap files_of same_lost) same_count
          done.agrees),
      record { some = done.some; within = done.within; below = done.below; report_is = done.report_is; enough = done.enough },
    )

follow_part : (h : hist.History) (given : FilterValue) (dir save changes extract : List ℕ) (start : Files) (a b : World) (report : ReportValue)
    (count : ℕ) → AreApart dir save changes extract → AgreesIn (hist.published_of h) (hist.is_file_lost h) (hist.standing_of h) given dir save
    changes extract start a → FollowTo given dir save (FollowedPart report count) a b → AgreesIn (hist.published_of h ++ [])
    (hist.is_file_lost h) (gone_on (hist.standing_of h) count) given dir save changes extract start b × IsPart h report count
follow_part h given dir save changes extract start a b report count apart s ((applied, answer), same_lost, same_count) =
    went_part h given dir save changes extract start a b report count apart s
    (follows_leaves given dir save (Part report applied count) (files_of a.store) (files_of b.store) answer)
    ((answer.follows refl).goes_on.from s.saved.save_is.value s.saved.save_is.kept) same_lost same_count

-- what it reports
part_reports : (h : hist.History) (given : FilterValue) (dir save changes extract : List ℕ) (start : Files) (a : World) (report : ReportValue)
    (count : ℕ) → AgreesIn (hist.published_of h) (hist.is_file_lost h) (hist.standing_of h) given dir save changes extract start a
    → hist.reported_of h ≡ numbers (hist.base_of h) (hist.number_of h - hist.base_of h) → IsPart h report count
    → hist.reported_of h ++ applied_in report.text ≡ numbers (hist.base_of h) (hist.number_of h + count - hist.base_of h)
part_reports h given dir save changes extract start a report count s so_far part =
    let most = few (hist.published_of h) s.folder.sequences in
    let below = part.below in
    reports_before h report count (hist.number_of h + count) refl (omega (arith, below, most))
    (base_below (hist.published_of h) given (hist.base_of h) (hist.number_of h) save (files_of a.store) s.saved.save_is) part.report_is so_far

follow_stopped : (p : List PublishedValue) (lost : ℕ → Suffix → Bool) (m : hist.Standing) (given : FilterValue) (dir save changes extract : List ℕ)
    (start : Files) (a b : World) (calls : ℕ) (fault : RunFault) → AreApart dir save changes extract
    → LacksCalls (kept_calls p m.number (files_of a.store save)) (Some calls) fault
    → AgreesIn p lost m given dir save changes extract start a → FollowTo given dir save (Refused fault) a b
    → AgreesIn (p ++ []) lost m given dir save changes extract start b × KilledFollowingStopsIn p given m.cut m.number calls fault
follow_stopped p lost m given dir save changes extract start a b calls fault apart lacks s (step, same_lost, same_count) = (
  quiet p lost m given dir save changes extract start (files_of b.store) (files_of b.lost) b.published
      (renewed p lost m given dir save changes extract start (files_of a.store) (files_of a.lost) (files_of b.store)
      (files_of b.lost) a.published b.published step.0 (ap files_of same_lost) same_count s),
  stopped_follow p given m.cut m.base m.number calls save (files_of a.store) s.saved.save_is s.saved.alone s.saved.short s.saved.free fault lacks
      (step.1 p m.base m.number s.folder s.saved.save_is),
)

-- a number that isn't published
no_number : (h : hist.History) (count n : ℕ) → count ≡ length (hist.published_of h) → length (hist.published_of h) ≤
    max_sequence → IsNumber false count n → IsNoNumber h n
no_number h count n is most (inl e) = inl e
no_number h count n is most (inr (inl e)) = inr (omega (arith, is, e))
no_number h count n is most (inr (inr e)) = inr (omega (arith, most, e))

-- nothing was done
still : (h : hist.History) (given : FilterValue) (dir save changes extract : List ℕ) (start : Files) (a b : World)
    → AgreesIn (hist.published_of h) (hist.is_file_lost h) (hist.standing_of h) given dir save changes extract start a
    → files_of b.store ≡ files_of a.store → files_of b.lost ≡ files_of a.lost → b.published ≡ a.published
    → AgreesIn (hist.published_of h ++ []) (hist.is_file_lost h) (hist.standing_of h) given dir save changes extract start b
still h given dir save changes extract start a b s files lost count =
    quiet (hist.published_of h) (hist.is_file_lost h) (hist.standing_of h) given dir save changes extract start (files_of b.store) (files_of b.lost) b.published
    (renewed (hist.published_of h) (hist.is_file_lost h) (hist.standing_of h) given dir save changes extract start (files_of a.store)
    (files_of a.lost) (files_of b.store) (files_of b.lost) a.published b.published files lost count s)

max_next : (a n : ℕ) → n ≡ a + 1 → max a n ≡ a + 1
max_next a n e = rw e grind (arith)

max_old : (a n : ℕ) → n ≤ a → max a n ≡ a
max_old a n e = grind (arith)

-- a publication by number is done
number_more : (left : Option ℕ) (h : hist.History) (given : FilterValue) (dir save changes extract : List ℕ) (start : Files) (a b : World)
    (batch : List ChangeValue) (time n : ℕ) (report : ReportValue) → AreApart dir save changes extract
    → AgreesIn (hist.published_of h) (hist.is_file_lost h) (hist.standing_of h) given dir save changes extract start a
    → PublishAsTo left dir changes batch time n (Published report) a b
    → AgreesIn (hist.published_of h ++ (if n == length (hist.published_of h) + 1 then value_of n batch time ∷ [] else
    [])) (λ k t. if hist.wrote n (length (hist.published_of h)) k then false else hist.is_file_lost h k t)
    (hist.standing_of h) given dir save changes extract start b × NumberedDone h batch time n report
    × HasCalls (numbered_calls n (length (hist.published_of h))) left
number_more left h given dir save changes extract start a b batch time n report apart s t = (
  (elim done.0 [
    | inl next ↦ rw (eq-eqb n (length p + 1) next.0)
        (renewed (p ++ value_of n batch time ∷ []) gone m given dir save changes extract start (files_of b.store) (files_of b.lost)
        (files_of b.store) (files_of b.lost) (a.published + 1) b.published refl refl
        (t.2 ∙ max_next a.published n (next.0 ∙ ap (λ i. i + 1) (sym s.number)))
        (lost_alike (p ++ value_of n batch time ∷ []) lost gone m given dir save changes extract start (files_of b.store) (files_of b.lost) (a.published + 1)
        (λ k u. rw (wrote_not n (length p) k (λ e. (let at = next.0 in omega (arith, e, at)))) refl) next.1))
    | inr old ↦ rw (ne_eqb n (length p + 1) (λ e. (let within = old.0.1 in omega (arith, e, within))), append-nil p)
        (renewed p gone m given dir save changes extract start (files_of b.store) (files_of b.lost) (files_of b.store) (files_of b.lost) a.published
        b.published refl refl (t.2 ∙ max_old a.published n (let within = old.0.1 in let at = s.number in omega (arith, within, at))) old.1)
  ]),
  (done.1, row done.0),
  done.2,
)
  where
    p : List PublishedValue
    p = hist.published_of h

    lost : ℕ → Suffix → Bool
    lost = hist.is_file_lost h

    m : hist.Standing
    m = hist.standing_of h

    gone : ℕ → Suffix → Bool
    gone k t = if hist.wrote n (length p) k then false else lost k t

    done : (((n ≡ length p + 1) × Agrees (p ++ value_of n batch time ∷ []) lost m given dir save changes extract start
        (files_of b.store) (files_of b.lost) (a.published + 1))
        ⊎ (IsAgain p lost n batch time × Agrees p (λ i u. if hist.wrote n (length p) i then false else lost i u) m given dir
        save changes extract start (files_of b.store) (files_of b.lost) a.published)) × (report ≡ publish_report_of n)
        × HasCalls (numbered_calls n (length p)) left
    done = number_published left p lost m given dir save changes extract start (files_of a.store) (files_of b.store) (files_of a.lost)
        (files_of b.lost) a.published batch time n report t.1.0 t.1.1 apart s t.0 t.1.2

    row : (((n ≡ length p + 1) × Agrees (p ++ value_of n batch time ∷ []) lost m given dir save changes extract start
        (files_of b.store) (files_of b.lost) (a.published + 1))
        ⊎ (IsAgain p lost n batch time × Agrees p (λ i u. if hist.wrote n (length p) i then false else lost i u) m given dir
        save changes extract start (files_of b.store) (files_of b.lost) a.published)) → (n ≡ length p + 1)
        ⊎ IsRepeat h batch time n
    row (inl next) = inl next.0
    row (inr old) = inr old.0

-- a publication by number is refused
number_refused : (h : hist.History) (given : FilterValue) (dir save changes extract : List ℕ) (start : Files) (a b : World) (batch : List ChangeValue)
    (time n calls : ℕ) (fault : RunFault) → AreApart dir save changes extract
    → AgreesIn (hist.published_of h) (hist.is_file_lost h) (hist.standing_of h) given dir save changes extract start a
    → PublishAsTo (Some calls) dir changes batch time n (Refused fault) a b → AgreesIn (hist.published_of h ++ [])
    (hist.is_file_lost h) (hist.standing_of h) given dir save changes extract start b × KilledNumberedStopsIn h batch time n calls
    fault
number_refused h given dir save changes extract start a b batch time n calls fault apart s (inl (why, same)) = (
  still h given dir save changes extract start a b s (ap (λ (w : World). files_of w.store) same)
      (ap (λ (w : World). files_of w.lost) same) (ap (λ (w : World). w.published) same),
  subst (KilledNumberedStopsIn h batch time n calls) (sym why) tt,
)
number_refused h given dir save changes extract start a b batch time n calls fault apart s (inr (inl unrun, back, count)) = (
  quiet (hist.published_of h) (hist.is_file_lost h) (hist.standing_of h) given dir save changes extract start (files_of b.store) (files_of b.lost) b.published
      (renewed (hist.published_of h) (hist.is_file_lost h) (hist.standing_of h) given dir save changes extract start (files_of b.store)
      (files_of b.lost) (files_of b.store) (files_of b.lost) a.published b.published refl refl count
      (unrun_stays (hist.published_of h) (hist.is_file_lost h) (hist.standing_of h) given dir save changes extract start
      (files_of a.store) (files_of b.store) (files_of a.lost) (files_of b.lost) a.published batch time n fault false
      false s unrun.1 back)),
  unwritten_number h batch time n calls fault unrun.0,
)
number_refused h given dir save changes extract start a b batch time n calls fault apart s (inr (inr run, back, count)) = (
  quiet (hist.published_of h) (hist.is_file_lost h) (hist.standing_of h) given dir save changes extract start (files_of b.store) (files_of b.lost) b.published
      (renewed (hist.published_of h) (hist.is_file_lost h) (hist.standing_of h) given dir save changes extract start (files_of b.store)
      (files_of b.lost) (files_of b.store) (files_of b.lost) a.published b.published refl refl count
      (number_stopped (Some calls) (hist.published_of h) (hist.is_file_lost h) (hist.standing_of h) given dir save changes extract start
      (files_of a.store) (files_of b.store) (files_of a.lost) (files_of b.lost) a.published batch time n fault false
      false apart s run back)),
  stopped_number h given dir save changes extract start (files_of a.store) (files_of b.store) (files_of a.lost) a.published (hist.standing_of h) batch
      time n calls fault run
      (changes_put (hist.published_of h) (hist.is_file_lost h) (hist.standing_of h) given dir save changes extract start
      (files_of a.store) run.middle (files_of a.lost) a.published (Some (opl_text batch)) apart run.there.put s),
)

-- a publication by number is cut off
number_cut : (h : hist.History) (given : FilterValue) (dir save changes extract : List ℕ) (start : Files) (a b : World) (batch : List ChangeValue)
    (time n calls : ℕ) (fault : RunFault) (o5c opl : Bool) (suffix : Suffix) → AreApart dir save changes extract
    → AgreesIn (hist.published_of h) (hist.is_file_lost h) (hist.standing_of h) given dir save changes extract start a
    → form_back o5c opl ≡ Some suffix → NumberedStep (Some calls) dir changes batch time n (Err fault)
    (files_of a.store) (files_of b.store) → ReturnForms o5c opl dir (named n) (files_of b.store) (files_of a.lost)
    (files_of b.lost) → b.published ≡ a.published → AgreesIn (hist.published_of h ++ [])
    (λ i t. if hist.same_file n suffix i t then false else hist.is_file_lost h i t) (hist.standing_of h) given dir save
    changes extract start b × ((count : ℕ) × CutsAfter n calls count fault × NumberedCut h batch time n fault suffix count)
number_cut h given dir save changes extract start a b batch time n calls fault o5c opl suffix apart s form (inl unrun) back count =
    absurd (let none = sym form ∙ ap2_form gone.first gone.second in (let bad : Some suffix ≡ None = none in cc))
  where
    gone : AreGone o5c opl (files_of a.lost) (files_of b.lost)
    gone = none_back (hist.published_of h) (hist.is_file_lost h) (hist.standing_of h) given dir save changes extract start
        (files_of a.store) (files_of b.store) (files_of a.lost) (files_of b.lost) a.published (named n) o5c opl s
        (named_least n) (named_most n)
        (λ t within. ap (λ (f : Files). f (file_name_of dir (named n) t)) unrun.1) back

    ap2_form : {x y : Bool} → x ≡ false → y ≡ false → form_back x y ≡ None
    ap2_form e d = rw (e, d) refl
number_cut h given dir save changes extract start a b batch time n calls fault o5c opl suffix apart s form (inr run) back count = (
  quiet (hist.published_of h) gone (hist.standing_of h) given dir save changes extract start (files_of b.store) (files_of b.lost) b.published
      (renewed (hist.published_of h) gone (hist.standing_of h) given dir save changes extract start (files_of b.store) (files_of b.lost)
      (files_of b.store) (files_of b.lost) a.published b.published refl refl count stays.0),
  (
    stays.4.0,
    cuts_after (hist.published_of h) dir run.is_so.sequence run.middle n calls stays.4.0 fault
        run.is_so.number_is mid.folder stays.1 stays.4.2 stays.4.3 run.is_so.out,
    (
      stays.1,
      stays.2,
      stays.3,
      stays.4.1,
      stays.4.2,
    ),
  ),
)
  where
    gone : ℕ → Suffix → Bool
    gone i t = if hist.same_file n suffix i t then false else hist.is_file_lost h i t

    mid : Agrees (hist.published_of h) (hist.is_file_lost h) (hist.standing_of h) given dir save changes extract start run.middle (files_of a.lost) a.published
    mid = changes_put (hist.published_of h) (hist.is_file_lost h) (hist.standing_of h) given dir save changes extract start
        (files_of a.store) run.middle (files_of a.lost) a.published (Some (opl_text batch)) apart run.there.put s

    stays : StayOrReturn (hist.published_of h) (hist.is_file_lost h) (hist.standing_of h) given dir save changes extract start
        (files_of b.store) (files_of b.lost) a.published batch time n fault (Some suffix)
    stays = subst (λ o. StayOrReturn (hist.published_of h) (hist.is_file_lost h) (hist.standing_of h) given dir save changes extract
        start (files_of b.store) (files_of b.lost) a.published batch time n fault o) form
        (number_stopped (Some calls) (hist.published_of h) (hist.is_file_lost h) (hist.standing_of h) given dir save changes extract
        start (files_of a.store) (files_of b.store) (files_of a.lost) (files_of b.lost) a.published batch time n
        fault o5c opl apart s run back)

-- a run with no limit, as one that may make no call
step_unlimited : (dir changes : List ℕ) (batch : List ChangeValue) (time n : ℕ) (fault : RunFault) (f g : Files)
    → NumberedStep None dir changes batch time n (Err fault) f g → NumberedStep (Some 0) dir changes batch time n
    (Err fault) f g × IsNoDevice fault
step_unlimited dir changes batch time n fault f g (inl h) = (inl h, unwritten_no_device batch fault h.0)
step_unlimited dir changes batch time n fault f g (inr run) =
    let is = number_unlimited dir run.is_so.sequence run.middle fault run.is_so.out in (
      inr (record {
        now = run.now;
        middle = run.middle;
        shows = run.shows;
        is_text = run.is_text;
        there = run.there;
        is_so = record {
          sequence = run.is_so.sequence;
          number_is = run.is_so.number_is;
          stops = run.is_so.stops;
          refuses = run.is_so.refuses;
          keeps = run.is_so.keeps;
          out = is.0;
        };
        others = run.others;
      }),
      is.1,
    )

refused_unlimited : (dir changes : List ℕ) (batch : List ChangeValue) (time n : ℕ) (fault : RunFault) (a b : World)
    → PublishAsTo None dir changes batch time n (Refused fault) a b → PublishAsTo (Some 0) dir changes batch time n
    (Refused fault) a b × IsNoDevice fault
refused_unlimited dir changes batch time n fault a b (inl (why, same)) = (inl (why, same), subst IsNoDevice (sym why) tt)
refused_unlimited dir changes batch time n fault a b (inr (step, back, count)) =
    let is = step_unlimited dir changes batch time n fault (files_of a.store) (files_of b.store) step in
    (inr (is.0, back, count), is.1)

-- an export is done
export_more : (h : hist.History) (given : FilterValue) (dir save changes extract : List ℕ) (start : Files) (a b : World) (report : ReportValue)
    → AreApart dir save changes extract → AgreesIn (hist.published_of h) (hist.is_file_lost h) (hist.standing_of h) given dir save
    changes extract start a → ExportTo save extract (Exported report) a b
    → AgreesIn (hist.published_of h ++ []) (hist.is_file_lost h) (hist.standing_after h (Exported report) (hist.standing_of h)) given dir save
    changes extract start b × (report ≡ convert_report_of) × HasExport h extract
    × (b.exported ≡ hist.number_of h)
export_more h given dir save changes extract start a b report apart s (done, lost, count, number) =
    let agrees = export_agrees (hist.published_of h) (hist.is_file_lost h) (hist.standing_of h) given dir save changes extract start
    (files_of a.store) (files_of b.store) (files_of a.lost) a.published report apart s done in
    let made = done.exported.made in
    let save_is = s.saved.save_is in (
      quiet (hist.published_of h) (hist.is_file_lost h) (hist.standing_after h (Exported report) (hist.standing_of h)) given dir save changes
          extract start (files_of b.store) (files_of b.lost) b.published
          (renewed (hist.published_of h) (hist.is_file_lost h) (hist.standing_after h (Exported report) (hist.standing_of h)) given dir save
          changes extract start (files_of b.store) (files_of a.lost) (files_of b.store) (files_of b.lost) a.published b.published refl
          (ap files_of lost) count agrees),
      done.report_is,
      has_export h save extract (files_of a.store) made s.saved.is_there,
      number done.free given save_is.value save_is.kept ∙ save_is.number_is,
    )

-- an export is refused
export_stopped : (h : hist.History) (given : FilterValue) (dir save changes extract : List ℕ) (start : Files) (a b : World) (calls : ℕ) (fault : RunFault)
    → LacksExportCalls save (Some calls) (files_of a.store) fault
    → AgreesIn (hist.published_of h) (hist.is_file_lost h) (hist.standing_of h) given dir save changes extract start a
    → ExportTo save extract (Refused fault) a b
    → AgreesIn (hist.published_of h ++ []) (hist.is_file_lost h) (hist.standing_of h) given dir save changes extract start b
    × KilledExportStopsIn given h extract calls fault
export_stopped h given dir save changes extract start a b calls fault lacks s (stops, lost, count) = (
  still h given dir save changes extract start a b s stops.0 (ap files_of lost) count,
  elim stops.1 [
    | inl want ↦ subst (KilledExportStopsIn given h extract calls) (sym want) tt
    | inr run ↦ export_row given h extract save calls (files_of a.store) s.saved.save_is s.saved.alone s.saved.short s.saved.free s.saved.is_there fault
        lacks run
  ],
)

-- the name of the state that a beginning reads
state_of : (h : hist.History) (given : FilterValue) (dir save changes extract : List ℕ) (start : Files) (a : World)
    → Holds h given dir save changes extract start a
    → state_name_of dir a.exported ≡ file_name_of dir (hist.beginning_of h) State
state_of h given dir save changes extract start a s =
    state_name dir a.exported (hist.beginning_of h) s.exported
    (let most = few (hist.published_of h) s.agrees.folder.sequences in let within = s.agrees.saved.within in omega (arith, most, within))

-- a beginning is done
begin_more : (h : hist.History) (given : FilterValue) (dir save changes extract : List ℕ) (start : Files) (a b : World) (report : ReportValue)
    → AreApart dir save changes extract → Holds h given dir save changes extract start a → BeginTo given dir save extract (Begun report) a b
    → AgreesIn (hist.published_of h ++ []) (hist.is_file_lost h) (hist.standing_after h (Begun report) (hist.standing_of h)) given dir save
    changes extract start b × (report ≡ begin_report_of (hist.beginning_of h)) × HasBeginning h extract
    × HasTimelyExtract (hist.published_of h) given (hist.beginning_of h) extract
begin_more h given dir save changes extract start a b report apart s (done, lost, count) =
    let run = subst (λ name. IsBegunBoth given extract name save (files_of a.store) (files_of b.store) report)
    (state_of h given dir save changes extract start a s) done.begun in
    let begun = run.beginning in
    let there = state_there h given dir save changes extract start (files_of a.store) (files_of a.lost) a.published 0 s.agrees
    (IsStateFile run.s.sequence run.s.time) begun.start.there in
    let agrees = begin_agrees (hist.published_of h) (hist.is_file_lost h) (hist.standing_of h) given dir save changes extract
    (file_name_of dir (hist.beginning_of h) State) start (files_of a.store) (files_of b.store) (files_of a.lost) a.published report apart
    s.agrees there.2 done.laws run in (
      quiet (hist.published_of h) (hist.is_file_lost h) (hist.standing_after h (Begun report) (hist.standing_of h)) given dir save changes
          extract start (files_of b.store) (files_of b.lost) b.published
          (renewed (hist.published_of h) (hist.is_file_lost h) (hist.standing_after h (Begun report) (hist.standing_of h)) given dir save
          changes extract start (files_of b.store) (files_of a.lost) (files_of b.store) (files_of b.lost) a.published b.published refl
          (ap files_of lost) count agrees.0),
      agrees.1,
      record { named = begun.base_is.named; above = there.0; there = there.1 },
      timely_extract h given dir save changes extract start (files_of a.store) (files_of a.lost) a.published 0 s.agrees
          (subst (λ name. IsTimely extract name (files_of a.store)) (state_of h given dir save changes extract start a s) done.timely),
    )

-- a beginning that isn't killed isn't refused by the device
begins_unkilled : (extract : List ℕ) (f : Files) (fault : RunFault) → IsNoDevice fault → LacksCallsToBegin extract (Some 0) f fault
begins_unkilled extract f fault none = record {
  all = no_device_lacks (begin_kept_calls (bytes_in (f extract))) (Some 0) fault none;
  first = λ state. omega arith;
}

-- a beginning is cut short
begin_cut : (h : hist.History) (given : FilterValue) (dir save changes extract : List ℕ) (start : Files) (a b : World) (number : ℕ)
    → AreApart dir save changes extract → Holds h given dir save changes extract start a → BeginTo given dir save extract (CutShort number) a b
    → AgreesIn (hist.published_of h ++ []) (hist.is_file_lost h) (hist.standing_after h (CutShort number) (hist.standing_of h)) given dir save
    changes extract start b × IsCutAt h extract number
begin_cut h given dir save changes extract start a b number apart s (inl want, lost, count) =
    absurd (let bad : OtherJournal number ≡ WantOfMemory = want.0 in cc)
begin_cut h given dir save changes extract start a b number apart s (inr stops, lost, count) =
    let run = subst (λ name. StopsBeginning given extract name save (OtherJournal number) (files_of a.store) (files_of b.store))
    (state_of h given dir save changes extract start a s) stops in
    let there = state_there h given dir save changes extract start (files_of a.store) (files_of a.lost) a.published 0 s.agrees
    (IsStateFile run.leaves.s.sequence run.leaves.s.time) run.leaves.beginning.start.there in
    let agrees = cut_agrees (hist.published_of h) (hist.is_file_lost h) (hist.standing_of h) given dir save changes extract
    (file_name_of dir (hist.beginning_of h) State) start (files_of a.store) (files_of b.store) (files_of a.lost) a.published number apart
    s.agrees there.2 run.laws run.leaves in (
      quiet (hist.published_of h) (hist.is_file_lost h) (hist.standing_after h (CutShort number) (hist.standing_of h)) given dir save changes
          extract start (files_of b.store) (files_of b.lost) b.published
          (renewed (hist.published_of h) (hist.is_file_lost h) (hist.standing_after h (CutShort number) (hist.standing_of h)) given dir save
          changes extract start (files_of b.store) (files_of a.lost) (files_of b.store) (files_of b.lost) a.published b.published refl
          (ap files_of lost) count agrees),
      cut_row h given dir save changes extract start (files_of a.store) (files_of a.lost) a.published 0 s.agrees number run.stops,
    )

-- a beginning that is refused leaves what is kept
begin_left : (h : hist.History) (given : FilterValue) (dir save changes extract : List ℕ) (start : Files) (a b : World) (fault : RunFault)
    → Holds h given dir save changes extract start a → IsNoOther fault
    → StopsBeginning given extract (file_name_of dir (hist.beginning_of h) State) save fault (files_of a.store) (files_of b.store)
    → LeavesAll save (files_of a.store) (files_of b.store)
begin_left h given dir save changes extract start a b fault s none run = elim (plain_leaves given extract (file_name_of dir (hist.beginning_of h) State) save
    (files_of a.store) (files_of b.store) fault none run.leaves) [
      | inl left ↦ leaves_save run.laws save (files_of a.store) (files_of b.store) left
      | inr cut ↦ (
          let there = state_there h given dir save changes extract start (files_of a.store) (files_of a.lost) a.published 0 s.agrees
          (IsStateFile cut.s.sequence cut.s.time) cut.beginning.start.there in
          cut_leaves (hist.published_of h) (hist.is_file_lost h) (hist.standing_of h) given dir save changes extract
          (file_name_of dir (hist.beginning_of h) State) start (files_of a.store) (files_of b.store) (files_of a.lost) a.published s.agrees
          there.2 cut)
    ]

-- a beginning is refused
begin_stopped : (h : hist.History) (given : FilterValue) (dir save changes extract : List ℕ) (start : Files) (a b : World) (calls : ℕ) (fault : RunFault)
    → AreApart dir save changes extract
    → LacksCallsToBegin extract (Some calls) (files_of a.store) fault → Holds h given dir save changes extract start a
    → BeginTo given dir save extract (Refused fault) a b
    → AgreesIn (hist.published_of h ++ []) (hist.is_file_lost h) (hist.standing_of h) given dir save changes extract start b
    × KilledBeginStopsIn given h extract calls fault
begin_stopped h given dir save changes extract start a b calls fault apart lacks s (inl want, lost, count, none) = (
  still h given dir save changes extract start a b s.agrees want.1 (ap files_of lost) count,
  subst (KilledBeginStopsIn given h extract calls) (sym want.0) tt,
)
begin_stopped h given dir save changes extract start a b calls fault apart lacks s (inr stops, lost, count, none) =
    let run = subst (λ name. StopsBeginning given extract name save fault (files_of a.store) (files_of b.store))
    (state_of h given dir save changes extract start a s) stops in (
      quiet (hist.published_of h) (hist.is_file_lost h) (hist.standing_of h) given dir save changes extract start (files_of b.store) (files_of b.lost)
          b.published (renewed (hist.published_of h) (hist.is_file_lost h) (hist.standing_of h) given dir save changes extract start (files_of b.store)
          (files_of a.lost) (files_of b.store) (files_of b.lost) a.published b.published refl (ap files_of lost) count
          (refused_agrees run.laws (hist.published_of h) (hist.is_file_lost h) (hist.standing_of h) given dir save changes extract start
          (files_of a.store) (files_of b.store) (files_of a.lost) a.published apart s.agrees
          (begin_left h given dir save changes extract start a b fault s none run))),
      begin_row h given dir save changes extract start (files_of a.store) (files_of a.lost) a.published calls s.agrees fault none lacks run.law run.stops,
    )

-- ---- a run of the follower over a spoiled file

-- the file of that number is there
file_is_there : (h : hist.History) (given : FilterValue) (dir save changes extract : List ℕ) (start : Files) (a : World) (k : ℕ) (t : Suffix) (bytes : List ℕ)
    → AreApart dir save changes extract → AgreesIn (hist.published_of h) (hist.is_file_lost h) (hist.standing_of h) given dir save changes extract start a
    → IsNumber true a.published k → files_of a.store (file_name_of dir k t) ≡ Some bytes → IsFileThere h k t
file_is_there h given dir save changes extract start a k t bytes apart s number there =
    let n_is = s.number in
    let within : k ≤ length (hist.published_of h) = omega (arith, n_is, number.1) in (
      number.0,
      within,
      file_there (hist.published_of h) (hist.is_file_lost h) (hist.standing_of h) given dir save changes extract start (files_of a.store)
          (files_of a.lost) a.published apart s k t bytes number.0 within there,
    )

-- it is done as over the right file
spoiled_more : (h : hist.History) (given : FilterValue) (dir save changes extract : List ℕ) (start : Files) (a b : World)
    (k : ℕ) (t : Suffix) (report : ReportValue)
    → AreApart dir save changes extract → AgreesIn (hist.published_of h) (hist.is_file_lost h) (hist.standing_of h) given dir save
    changes extract start a → SpoiledTo given dir save k t (Followed report) a b → AgreesIn (hist.published_of h ++ [])
    (hist.is_file_lost h) (gone_on (hist.standing_of h) (hist.count_after h (hist.number_of h))) given dir save changes extract start b
    × SpoiledDone h k t report × (hist.number_of h + hist.count_after h (hist.number_of h) ≤ length (hist.published_of h))
spoiled_more h given dir save changes extract start a b k t report apart s to = by_step to.step
  where
    p : List PublishedValue
    p = hist.published_of h

    lost : ℕ → Suffix → Bool
    lost = hist.is_file_lost h

    m : hist.Standing
    m = hist.standing_of h

    f : Files
    f = files_of a.store

    within : k ≤ length p
    within = let n_is = s.number in omega (arith, n_is, to.number.1)

    by_step : SpoiledStep given dir save (file_name_of dir k t) (Ok (Whole report)) f (files_of b.store)
        → AgreesIn (p ++ []) lost (gone_on m (hist.count_after h (hist.number_of h))) given dir save changes extract start b
        × SpoiledDone h k t report × (hist.number_of h + hist.count_after h (hist.number_of h) ≤ length p)
    by_step (inl want) = absurd (let bad : Ok (Whole report) ≡ Err WantOfMemory = want.0 in cc)
    by_step (inr run) =
        let above = to.number.0 in
        let o = over_spoiled p lost m given dir save changes extract start f (files_of a.lost) a.published apart s k t run.bytes run.during
        above within run.there run.put in
        let followed_it = (run.answer.follows refl).goes_on.from o.saved.value
        (kept_beside p lost m given dir save changes extract start f (files_of a.lost) a.published apart s k t within run.during run.put o) in
        let is = mended_beside p lost m given dir save changes extract start f (files_of a.lost) a.published apart s k t within run.bytes run.during
        run.after (files_of b.store) run.there run.put (run.answer.follows refl).goes_on.others run.back in
        let left = mended_leaves given save f run.during run.after (files_of b.store)
        (same_beside p lost m given dir save changes extract start f (files_of a.lost) a.published apart s k t within run.during run.put) is
        (follows_leaves given dir save (Whole report) run.during run.after run.answer) in
        let right = spoiled_followed p lost m given dir save changes extract start f (files_of a.lost) a.published apart s run.answer.laws None k t
        run.during run.after (files_of b.store) report o followed_it is in
        let done = went_more h given dir save changes extract start a b report apart s left right to.lost to.published in
        let on = followed p lost m given dir save changes extract start f (files_of b.store) (files_of a.lost) a.published report apart s left right in (
          done.0,
          (
            file_is_there h given dir save changes extract start a k t run.bytes apart s to.number run.there,
            done.1,
            λ way. (
                let u = not_read p lost m given dir save changes extract start f (files_of a.lost) a.published apart s run.answer.laws k t run.during
                run.after (files_of b.store) report (hist.count_after h (hist.number_of h)) o followed_it is on.0.saved.save_is way.0 way.1 in
                let read = subst (IsReadIn h k) u.0 way.2 in
                let bad : true ≡ false = sym read.1 ∙ u.1 in cc),
          ),
          done.2,
        )

-- it came to a part as over the right file
spoiled_some : (h : hist.History) (given : FilterValue) (dir save changes extract : List ℕ) (start : Files) (a b : World)
    (k : ℕ) (t : Suffix) (report : ReportValue) (count : ℕ)
    → AreApart dir save changes extract → AgreesIn (hist.published_of h) (hist.is_file_lost h) (hist.standing_of h) given dir save
    changes extract start a → SpoiledTo given dir save k t (FollowedPart report count) a b → AgreesIn (hist.published_of h ++ [])
    (hist.is_file_lost h) (gone_on (hist.standing_of h) count) given dir save changes extract start b × SpoiledPart h k t report count
spoiled_some h given dir save changes extract start a b k t report count apart s (applied, to) = by_step to.step
  where
    p : List PublishedValue
    p = hist.published_of h

    lost : ℕ → Suffix → Bool
    lost = hist.is_file_lost h

    m : hist.Standing
    m = hist.standing_of h

    f : Files
    f = files_of a.store

    within : k ≤ length p
    within = let n_is = s.number in omega (arith, n_is, to.number.1)

    by_step : SpoiledStep given dir save (file_name_of dir k t) (Ok (Part report applied count)) f (files_of b.store)
        → AgreesIn (p ++ []) lost (gone_on m count) given dir save changes extract start b × SpoiledPart h k t report count
    by_step (inl want) = absurd (let bad : Ok (Part report applied count) ≡ Err WantOfMemory = want.0 in cc)
    by_step (inr run) =
        let above = to.number.0 in
        let o = over_spoiled p lost m given dir save changes extract start f (files_of a.lost) a.published apart s k t run.bytes run.during
        above within run.there run.put in
        let came = (run.answer.follows refl).goes_on.from o.saved.value
        (kept_beside p lost m given dir save changes extract start f (files_of a.lost) a.published apart s k t within run.during run.put o) in
        let is = mended_beside p lost m given dir save changes extract start f (files_of a.lost) a.published apart s k t within run.bytes run.during
        run.after (files_of b.store) run.there run.put (run.answer.follows refl).goes_on.others run.back in
        let left = mended_leaves given save f run.during run.after (files_of b.store)
        (same_beside p lost m given dir save changes extract start f (files_of a.lost) a.published apart s k t within run.during run.put) is
        (follows_leaves given dir save (Part report applied count) run.during run.after run.answer) in
        let right = spoiled_part p lost m given dir save changes extract start f (files_of a.lost) a.published apart s run.answer.laws k t run.during
        run.after (files_of b.store) report count o came is in
        let done = went_part h given dir save changes extract start a b report count apart s left right to.lost to.published in (
          done.0,
          (
            file_is_there h given dir save changes extract start a k t run.bytes apart s to.number run.there,
            done.1,
            λ among. (
                let u = not_read_part p lost m given dir save changes extract start f (files_of a.lost) a.published apart s k t run.during run.after
                report count o came among.0 among.1 in
                let read = subst (IsReadIn h k) u.0 among.2 in
                let bad : true ≡ false = sym read.1 ∙ u.1 in cc),
          ),
        )

-- it is done up to the number before the file's
spoiled_short : (h : hist.History) (given : FilterValue) (dir save changes extract : List ℕ) (start : Files) (a b : World) (k : ℕ) (t : Suffix)
    (report : ReportValue) (fault : RunFault) → AreApart dir save changes extract → AgreesIn (hist.published_of h) (hist.is_file_lost h)
    (hist.standing_of h) given dir save changes extract start a → SpoiledTo given dir save k t (FollowedBefore report fault) a b
    → hist.reported_of h ≡ numbers (hist.base_of h) (hist.number_of h - hist.base_of h)
    → AgreesIn (hist.published_of h ++ []) (hist.is_file_lost h) (hist.standing_after h (FollowedBefore report fault) (hist.standing_of h))
    given dir save changes extract start b × SpoiledBefore h k t report fault
    × (hist.reported_of h ++ applied_in report.text ≡ numbers (hist.base_of h) (number_before fault - hist.base_of h))
spoiled_short h given dir save changes extract start a b k t report fault apart s to so_far = by_step to.step
  where
    p : List PublishedValue
    p = hist.published_of h

    lost : ℕ → Suffix → Bool
    lost = hist.is_file_lost h

    m : hist.Standing
    m = hist.standing_of h

    f : Files
    f = files_of a.store

    within : k ≤ length p
    within = let n_is = s.number in omega (arith, n_is, to.number.1)

    by_step : SpoiledStep given dir save (file_name_of dir k t) (Ok (Before report fault)) f (files_of b.store)
        → AgreesIn (p ++ []) lost (hist.standing_after h (FollowedBefore report fault) m) given dir save changes extract start b
        × SpoiledBefore h k t report fault
        × (hist.reported_of h ++ applied_in report.text ≡ numbers (hist.base_of h) (number_before fault - hist.base_of h))
    by_step (inl want) = absurd (let bad : Ok (Before report fault) ≡ Err WantOfMemory = want.0 in cc)
    by_step (inr run) =
        let above = to.number.0 in
        let o = over_spoiled p lost m given dir save changes extract start f (files_of a.lost) a.published apart s k t run.bytes run.during
        above within run.there run.put in
        let came_to = (run.answer.follows refl).goes_on.from o.saved.value
        (kept_beside p lost m given dir save changes extract start f (files_of a.lost) a.published apart s k t within run.during run.put o) in
        let is = mended_beside p lost m given dir save changes extract start f (files_of a.lost) a.published apart s k t within run.bytes run.during
        run.after (files_of b.store) run.there run.put (run.answer.follows refl).goes_on.others run.back in
        let left = mended_leaves given save f run.during run.after (files_of b.store)
        (same_beside p lost m given dir save changes extract start f (files_of a.lost) a.published apart s k t within run.during run.put) is
        (follows_leaves given dir save (Before report fault) run.during run.after run.answer) in
        let came = came_before p lost m given dir save changes extract start f (files_of a.lost) a.published apart s run.law k t run.during run.after
        (files_of b.store) report fault o came_to is left in
        let from = came.from in
        let number = came.number in
        let most = few p s.folder.sequences in (
          quiet p lost (hist.standing_after h (FollowedBefore report fault) m) given dir save changes extract start (files_of b.store)
              (files_of b.lost) b.published (renewed p lost (hist.standing_after h (FollowedBefore report fault) m) given dir save changes extract
              start (files_of b.store) (files_of a.lost) (files_of b.store) (files_of b.lost) a.published b.published refl
              (ap files_of to.lost) to.published came.agrees),
          (
            file_is_there h given dir save changes extract start a k t run.bytes apart s to.number run.there,
            came.report_is,
            (
              omega (arith, from),
              came.turn,
              read_in p lost m given dir save changes extract start f (files_of a.lost) a.published apart s k t above within came.read h refl,
            ),
            from,
            came.fault_is,
          ),
          reports_before h report (k - 1 - hist.number_of h) (number_before fault) (omega (arith, from, number)) (omega (arith, number, within, most))
              (base_below p given (hist.base_of h) (hist.number_of h) save f s.saved.save_is)
              (came.report_is ∙ ap (λ j. follow_report_of (ranges (hist.number_of h) (k - 1 - hist.number_of h)) [] j) (sym number)) so_far,
        )

-- what refuses a run over the right file
module _ (given : FilterValue) (h : hist.History) (k : ℕ) (t : Suffix) (save : List ℕ) (f : Files)
    (s : IsKeptOf (hist.published_of h) given (hist.base_of h) (hist.number_of h) save f)
    (alone : IsInStepAlone (hist.published_of h) given (f save)) (short : IsOver max_file (f (journal_name_of save)) → ⊥)
    (free : IsFreeBut (hist.cut_of h) save f) where
  row_of : (fault : RunFault) → KeepingStopsOver (hist.published_of h) given (f save) (f (journal_name_of save)) fault → IsNoDevice fault
      → SpoiledStopsIn given h k t fault
  row_of fault r none =
      inl (not_killed_follow (hist.published_of h) given (hist.cut_of h) (hist.number_of h) 0 fault none
      (stopped_follow (hist.published_of h) given (hist.cut_of h) (hist.base_of h) (hist.number_of h) 0 save f s alone short free fault
      (no_device_lacks (kept_calls (hist.published_of h) (hist.number_of h) (f save)) (Some 0) fault none) r))

  spoiled_row : (fault : RunFault) → KeepingStopsOver (hist.published_of h) given (f save) (f (journal_name_of save)) fault
      → KilledSpoiledStopsIn given h k t fault
  spoiled_row (ReadFault file) r = tt
  spoiled_row (WriteFault Save) r = tt
  spoiled_row (WriteFault Journal) r = tt
  spoiled_row (WriteFault file) r = absurd r
  spoiled_row fault r = row_of fault r tt

-- what a killed run and a whole one are refused for
killed_spoiled : (given : FilterValue) (h : hist.History) (k : ℕ) (t : Suffix) (fault : RunFault) → SpoiledStopsIn given h k t fault
    → KilledSpoiledStopsIn given h k t fault
killed_spoiled given h k t (ReadFault file) r = tt
killed_spoiled given h k t (WriteFault file) (inl r) = absurd r
killed_spoiled given h k t (WriteFault file) (inr r) = absurd r.3
killed_spoiled given h k t fault r = r

not_killed_spoiled : (given : FilterValue) (h : hist.History) (k : ℕ) (t : Suffix) (fault : RunFault) → IsNoDevice fault
    → KilledSpoiledStopsIn given h k t fault
    → SpoiledStopsIn given h k t fault
not_killed_spoiled given h k t (ReadFault file) none r = absurd none
not_killed_spoiled given h k t (WriteFault file) none r = absurd none
not_killed_spoiled given h k t fault none r = r

one_fault : {T : Type 0} (w : Result T RunFault) (a b : RunFault) → w ≡ Err a → w ≡ Err b → a ≡ b
one_fault w a b p q = cc

-- it is refused
spoiled_stopped : (h : hist.History) (given : FilterValue) (dir save changes extract : List ℕ) (start : Files) (a b : World)
    (k : ℕ) (t : Suffix) (fault : RunFault)
    → AreApart dir save changes extract → AgreesIn (hist.published_of h) (hist.is_file_lost h) (hist.standing_of h) given dir save
    changes extract start a → SpoiledTo given dir save k t (Refused fault) a b
    → AgreesIn (hist.published_of h ++ []) (hist.is_file_lost h) (hist.standing_of h) given dir save changes extract start b
    × KilledSpoiledStopsIn given h k t fault
spoiled_stopped h given dir save changes extract start a b k t fault apart s to = by_step to.step
  where
    p : List PublishedValue
    p = hist.published_of h

    lost : ℕ → Suffix → Bool
    lost = hist.is_file_lost h

    m : hist.Standing
    m = hist.standing_of h

    f : Files
    f = files_of a.store

    within : k ≤ length p
    within = let n_is = s.number in omega (arith, n_is, to.number.1)

    by_step : SpoiledStep given dir save (file_name_of dir k t) (Err fault) f (files_of b.store)
        → AgreesIn (p ++ []) lost m given dir save changes extract start b × KilledSpoiledStopsIn given h k t fault
    by_step (inl want) = (
      still h given dir save changes extract start a b s want.1 (ap files_of to.lost) to.published,
      subst (KilledSpoiledStopsIn given h k t) (sym (one_fault (Err fault) fault WantOfMemory refl want.0)) (inl tt),
    )
    by_step (inr run) =
        let above = to.number.0 in
        let o = over_spoiled p lost m given dir save changes extract start f (files_of a.lost) a.published apart s k t run.bytes run.during
        above within run.there run.put in
        let same = mended_same (file_name_of dir k t) run.bytes f run.during run.after (files_of b.store) run.there run.put
        (run.answer.leaves refl) run.back in (
          still h given dir save changes extract start a b s same (ap files_of to.lost) to.published,
          elim (progress_stops given p m.base m.number dir save k t f run.during o run.answer.laws run.law (IsTrue true) refl fault run.answer.stops.stops) [
            | inl r ↦ spoiled_row given h k t save f s.saved.save_is s.saved.alone s.saved.short s.saved.free fault r
            | inr next ↦ (let at = next.0 in killed_spoiled given h k t fault (inr (
              file_is_there h given dir save changes extract start a k t run.bytes apart s to.number run.there,
              (
                omega (arith, at),
                omega (arith, at),
                read_in p lost m given dir save changes extract start f (files_of a.lost) a.published apart s k t above within next.2 h refl,
              ),
              at,
              next.1,
            )))
          ],
        )

-- there is no file to spoil
nothing_to_spoil : (h : hist.History) (given : FilterValue) (dir save changes extract : List ℕ) (start : Files) (a b : World) (k : ℕ) (t : Suffix)
    → AgreesIn (hist.published_of h) (hist.is_file_lost h) (hist.standing_of h) given dir save changes extract start a
    → SpoiledTo given dir save k t NotThere a b
    → AgreesIn (hist.published_of h ++ []) (hist.is_file_lost h) (hist.standing_of h) given dir save changes extract start b × NothingToSpoil h k t
nothing_to_spoil h given dir save changes extract start a b k t s (why, files, lost, count) = (
  still h given dir save changes extract start a b s files (ap files_of lost) count,
  elim why [
    | inl none ↦ elim (no_number h a.published k s.number (few (hist.published_of h) s.folder.sequences) none) [
      | inl zero_is ↦ inl zero_is
      | inr past ↦ inr (inl past)
    ]
    | inr gone ↦ inr (inr (let n_is = s.number in
        kept_none (hist.is_file_lost h k t) (hist.text_of t (sequence_at (hist.published_of h) k))
        (sym (s.each k t gone.0.0 (omega (arith, n_is, gone.0.1))) ∙ gone.1)))
  ],
)

-- ---- a run of the follower under another filter

-- it is refused
other_stopped : (h : hist.History) (other : FilterValue) (given : FilterValue) (dir save changes extract : List ℕ) (start : Files) (a b : World)
    (fault : RunFault) → AreApart dir save changes extract
    → AgreesIn (hist.published_of h) (hist.is_file_lost h) (hist.standing_of h) given dir save changes extract start a
    → OtherTo given other dir save (Refused fault) a b
    → AgreesIn (hist.published_of h ++ []) (hist.is_file_lost h) (hist.standing_of h) given dir save changes extract start b
    × AllowedFollowOther given h other (Refused fault)
other_stopped h other given dir save changes extract start a b fault apart s to =
    let run = to.answered in (
      still h given dir save changes extract start a b s (run.answer.leaves refl) (ap files_of to.lost) to.published,
      (
        not_false (hist.is_saved h) (sym s.saved.is_there ∙ run.there),
        run.differs,
        other_refused given other (hist.published_of h) (hist.base_of h) (hist.number_of h) dir save (files_of a.store) run.there
            s.saved.save_is s.saved.alone s.saved.short run.differs run.answer.laws (hist.cut_of h) s.saved.free fault run.device run.answer.stops.stops,
      ),
    )

-- none is made
nothing_other : (h : hist.History) (other : FilterValue) (given : FilterValue) (dir save changes extract : List ℕ) (start : Files) (a b : World)
    → AgreesIn (hist.published_of h) (hist.is_file_lost h) (hist.standing_of h) given dir save changes extract start a
    → OtherTo given other dir save NotThere a b
    → AgreesIn (hist.published_of h ++ []) (hist.is_file_lost h) (hist.standing_of h) given dir save changes extract start b
    × AllowedFollowOther given h other NotThere
nothing_other h other given dir save changes extract start a b s to = (
  still h given dir save changes extract start a b s to.answered.1 (ap files_of to.lost) to.published,
  elim to.answered.0 [
    | inl none ↦ inl (is_absent_not (hist.is_saved h) (files_of a.store save) s.saved.is_there none)
    | inr same ↦ inr same
  ],
)

-- what is kept is kept under another filter too
here_other : (h : hist.History) (other : FilterValue) (given : FilterValue) (dir save changes extract : List ℕ) (start : Files) (a : World)
    → (s : Holds h given dir save changes extract start a) → is_none (files_of a.store save) ≡ false
    → IsKept other save (files_of a.store) s.agrees.saved.save_is.value
here_other h other given dir save changes extract start a s there =
    same_kept given other (files_of a.store save) (files_of a.store (journal_name_of save)) s.agrees.saved.save_is.value there s.agrees.saved.save_is.kept

-- one more operation
pub step_holds : (h : hist.History) (e : Operation) (r : Reply) (given : FilterValue) (dir save changes extract : List ℕ) (start : Files)
    (a b : World) → AreApart dir save changes extract → Holds h given dir save changes extract start a
    → Step given dir save changes extract e r a b → KeepsExported r a b → Holds ((e, r) ∷ h) given dir save changes extract start b
step_holds h (Publish batch time calls) (Published report) given dir save changes extract start a b apart s t x =
    let done = publish_more calls (hist.published_of h) (hist.is_file_lost h) (hist.standing_of h) given dir save changes extract start a b batch time
    report apart s.agrees t.0 in
    record { agrees = done.0; allowed = ((done.1, t.1), s.allowed); reported = s.reported; exported = x ∙ s.exported }
step_holds h (Publish batch time None) (Refused fault) given dir save changes extract start a b apart s t x =
    let u = unlimited dir changes batch time fault a b t.0 in
    let done = publish_stopped (hist.published_of h) (hist.is_file_lost h) (hist.standing_of h) given dir save changes extract start a b
    batch time 0 fault apart s.agrees u.0 in
    record {
      agrees = done.0;
      allowed = (not_killed (hist.published_of h) batch time 0 fault u.1 done.1, s.allowed);
      reported = s.reported;
      exported = x ∙ s.exported;
    }
step_holds h (Publish batch time (Some calls)) (Refused fault) given dir save changes extract start a b apart s t x =
    let done = publish_stopped (hist.published_of h) (hist.is_file_lost h) (hist.standing_of h) given dir save changes extract start a b
    batch time calls fault apart s.agrees t.0 in
    record { agrees = done.0; allowed = (done.1, s.allowed); reported = s.reported; exported = x ∙ s.exported }
step_holds h (Publish batch time calls) r given dir save changes extract start a b apart s t x = absurd t.0
step_holds h (PublishAs batch time n calls) (Published report) given dir save changes extract start a b apart s t x =
    let done = number_more calls h given dir save changes extract start a b batch time n report apart s.agrees t in
    record { agrees = done.0; allowed = ((done.1, done.2), s.allowed); reported = s.reported; exported = x ∙ s.exported }
step_holds h (PublishAs batch time n None) (Refused fault) given dir save changes extract start a b apart s t x =
    let u = refused_unlimited dir changes batch time n fault a b t in
    let done = number_refused h given dir save changes extract start a b batch time n 0 fault apart s.agrees u.0 in
    record { agrees = done.0; allowed = (number_not_killed h batch time n 0 fault u.1 done.1, s.allowed); reported = s.reported; exported = x ∙ s.exported }
step_holds h (PublishAs batch time n None) (CutOff fault O5c) given dir save changes extract start a b apart s t x =
    let u = step_unlimited dir changes batch time n fault (files_of a.store) (files_of b.store) t.0 in
    let done = number_cut h given dir save changes extract start a b batch time n 0 fault true t.1.0 O5c apart s.agrees refl u.0 t.1.1 t.2 in
    record {
      agrees = done.0;
      allowed = ((cut_unlimited n 0 done.1.0 fault u.1 done.1.1, (done.1.0, done.1.2)), s.allowed);
      reported = s.reported;
      exported = x ∙ s.exported;
    }
step_holds h (PublishAs batch time n None) (CutOff fault Opl) given dir save changes extract start a b apart s t x =
    let u = step_unlimited dir changes batch time n fault (files_of a.store) (files_of b.store) t.0 in
    let done = number_cut h given dir save changes extract start a b batch time n 0 fault false true Opl apart s.agrees refl u.0 t.1 t.2 in
    record {
      agrees = done.0;
      allowed = ((cut_unlimited n 0 done.1.0 fault u.1 done.1.1, (done.1.0, done.1.2)), s.allowed);
      reported = s.reported;
      exported = x ∙ s.exported;
    }
step_holds h (PublishAs batch time n (Some calls)) (Refused fault) given dir save changes extract start a b apart s t x =
    let done = number_refused h given dir save changes extract start a b batch time n calls fault apart s.agrees t in
    record { agrees = done.0; allowed = (done.1, s.allowed); reported = s.reported; exported = x ∙ s.exported }
step_holds h (PublishAs batch time n (Some calls)) (CutOff fault O5c) given dir save changes extract start a b apart s t x =
    let done = number_cut h given dir save changes extract start a b batch time n calls fault true t.1.0 O5c apart s.agrees refl t.0 t.1.1 t.2 in
    record { agrees = done.0; allowed = (done.1, s.allowed); reported = s.reported; exported = x ∙ s.exported }
step_holds h (PublishAs batch time n (Some calls)) (CutOff fault Opl) given dir save changes extract start a b apart s t x =
    let done = number_cut h given dir save changes extract start a b batch time n calls fault false true Opl apart s.agrees refl t.0 t.1 t.2 in
    record { agrees = done.0; allowed = (done.1, s.allowed); reported = s.reported; exported = x ∙ s.exported }
step_holds h (PublishAs batch time n calls) r given dir save changes extract start a b apart s t x = absurd t
step_holds h (Follow calls) (Followed report) given dir save changes extract start a b apart s t x =
    let done = follow_more h given dir save changes extract start a b report apart s.agrees t.0 in
    record {
      agrees = done.0;
      allowed = ((done.1, t.1), s.allowed);
      reported =
          reports_more h report done.2 (few (hist.published_of h) s.agrees.folder.sequences)
          (base_below (hist.published_of h) given (hist.base_of h) (hist.number_of h) save (files_of a.store) s.agrees.saved.save_is) done.1 s.reported;
      exported = x ∙ s.exported;
    }
step_holds h (Follow calls) (FollowedPart report count) given dir save changes extract start a b apart s t x =
    let done = follow_part h given dir save changes extract start a b report count apart s.agrees t.0 in
    record {
      agrees = done.0;
      allowed = ((done.1, t.1), s.allowed);
      reported = part_reports h given dir save changes extract start a report count s.agrees s.reported done.1;
      exported = x ∙ s.exported;
    }
step_holds h (Follow None) (Refused fault) given dir save changes extract start a b apart s t x =
    let none = never_refuses fault t.1 in
    let done = follow_stopped (hist.published_of h) (hist.is_file_lost h) (hist.standing_of h) given dir save changes extract start a b
    0 fault apart (no_device_lacks (kept_calls (hist.published_of h) (hist.number_of h) (files_of a.store save)) (Some 0) fault none) s.agrees
    t.0 in
    record {
      agrees = done.0;
      allowed = (
        not_killed_follow (hist.published_of h) given (hist.cut_of h) (hist.number_of h) 0 fault none done.1,
        s.allowed,
      );
      reported = s.reported;
      exported = x ∙ s.exported;
    }
step_holds h (Follow (Some calls)) (Refused fault) given dir save changes extract start a b apart s t x =
    let done = follow_stopped (hist.published_of h) (hist.is_file_lost h) (hist.standing_of h) given dir save changes extract start a b
    calls fault apart (λ device. t.1 device (hist.published_of h) (hist.base_of h) (hist.number_of h) s.agrees.folder s.agrees.saved.save_is) s.agrees
    t.0 in
    record { agrees = done.0; allowed = (done.1, s.allowed); reported = s.reported; exported = x ∙ s.exported }
step_holds h (Follow calls) (FollowedBefore report fault) given dir save changes extract start a b apart s t x =
    absurd (t.0.0 (hist.published_of h) (hist.base_of h) (hist.number_of h) s.agrees.folder s.agrees.saved.save_is)
step_holds h (Follow calls) r given dir save changes extract start a b apart s t x = absurd t.0
step_holds h (FollowOther other) (Followed report) given dir save changes extract start a b apart s t x =
    let run = t.answered in
    absurd (not_followed given other (hist.published_of h) (hist.base_of h) (hist.number_of h) dir save (files_of a.store) run.there
    s.agrees.saved.save_is s.agrees.saved.alone s.agrees.saved.short run.differs (files_of b.store) report
    ((run.answer.follows refl).goes_on.from s.agrees.saved.save_is.value (here_other h other given dir save changes extract start a s run.there)))
step_holds h (FollowOther other) (FollowedPart report count) given dir save changes extract start a b apart s (applied, t) x =
    let run = t.answered in
    absurd (not_part given other (hist.published_of h) (hist.base_of h) (hist.number_of h) dir save (files_of a.store) run.there
    s.agrees.saved.save_is s.agrees.saved.alone s.agrees.saved.short run.differs (files_of b.store) report count
    ((run.answer.follows refl).goes_on.from s.agrees.saved.save_is.value (here_other h other given dir save changes extract start a s run.there)))
step_holds h (FollowOther other) (FollowedBefore report fault) given dir save changes extract start a b apart s t x =
    let run = t.answered in
    absurd (not_before given other (hist.published_of h) (hist.base_of h) (hist.number_of h) dir save (files_of a.store) run.there
    s.agrees.saved.save_is s.agrees.saved.alone s.agrees.saved.short run.differs (files_of b.store) fault report
    ((run.answer.follows refl).goes_on.from s.agrees.saved.save_is.value (here_other h other given dir save changes extract start a s run.there)))
step_holds h (FollowOther other) (Refused fault) given dir save changes extract start a b apart s t x =
    let done = other_stopped h other given dir save changes extract start a b fault apart s.agrees t in
    record { agrees = done.0; allowed = (done.1, s.allowed); reported = s.reported; exported = x ∙ s.exported }
step_holds h (FollowOther other) NotThere given dir save changes extract start a b apart s t x =
    let done = nothing_other h other given dir save changes extract start a b s.agrees t in
    record { agrees = done.0; allowed = (done.1, s.allowed); reported = s.reported; exported = x ∙ s.exported }
step_holds h (FollowOther other) r given dir save changes extract start a b apart s t x = absurd t
step_holds h (FollowSpoiled k suffix calls) (Followed report) given dir save changes extract start a b apart s t x =
    let done = spoiled_more h given dir save changes extract start a b k suffix report apart s.agrees t.0 in
    record {
      agrees = done.0;
      allowed = ((done.1, t.1), s.allowed);
      reported =
          reports_more h report done.2 (few (hist.published_of h) s.agrees.folder.sequences)
          (base_below (hist.published_of h) given (hist.base_of h) (hist.number_of h) save (files_of a.store) s.agrees.saved.save_is) done.1.1 s.reported;
      exported = x ∙ s.exported;
    }
step_holds h (FollowSpoiled k suffix calls) (FollowedPart report count) given dir save changes extract start a b apart s t x =
    let done = spoiled_some h given dir save changes extract start a b k suffix report count apart s.agrees t.0 in
    record {
      agrees = done.0;
      allowed = ((done.1, t.1), s.allowed);
      reported = part_reports h given dir save changes extract start a report count s.agrees s.reported done.1.1;
      exported = x ∙ s.exported;
    }
step_holds h (FollowSpoiled k suffix calls) (FollowedBefore report fault) given dir save changes extract start a b apart s t x =
    let done = spoiled_short h given dir save changes extract start a b k suffix report fault apart s.agrees t.0 s.reported in
    record { agrees = done.0; allowed = ((done.1, t.1), s.allowed); reported = done.2; exported = x ∙ s.exported }
step_holds h (FollowSpoiled k suffix None) (Refused fault) given dir save changes extract start a b apart s t x =
    let done = spoiled_stopped h given dir save changes extract start a b k suffix fault apart s.agrees t.0 in
    record {
      agrees = done.0;
      allowed = (not_killed_spoiled given h k suffix fault (never_refuses fault t.1) done.1, s.allowed);
      reported = s.reported;
      exported = x ∙ s.exported;
    }
step_holds h (FollowSpoiled k suffix (Some calls)) (Refused fault) given dir save changes extract start a b apart s t x =
    let done = spoiled_stopped h given dir save changes extract start a b k suffix fault apart s.agrees t.0 in
    record { agrees = done.0; allowed = (done.1, s.allowed); reported = s.reported; exported = x ∙ s.exported }
step_holds h (FollowSpoiled k suffix calls) NotThere given dir save changes extract start a b apart s t x =
    let done = nothing_to_spoil h given dir save changes extract start a b k suffix s.agrees t.0 in
    record { agrees = done.0; allowed = (done.1, s.allowed); reported = s.reported; exported = x ∙ s.exported }
step_holds h (FollowSpoiled k suffix calls) r given dir save changes extract start a b apart s t x = absurd t.0
step_holds h (Export calls) (Exported report) given dir save changes extract start a b apart s t x =
    let done = export_more h given dir save changes extract start a b report apart s.agrees t.0 in
    record { agrees = done.0; allowed = ((done.1, done.2, t.1), s.allowed); reported = s.reported; exported = done.3 }
step_holds h (Export None) (Refused fault) given dir save changes extract start a b apart s t x =
    let none = never_refuses fault t.1 in
    let lacks : LacksExportCalls save (Some 0) (files_of a.store) fault = no_device_lacks (most_to_export save (files_of a.store)) (Some 0) fault none in
    let done = export_stopped h given dir save changes extract start a b 0 fault lacks s.agrees t.0 in
    record {
      agrees = done.0;
      allowed = (not_killed_export given h extract 0 fault none done.1, s.allowed);
      reported = s.reported;
      exported = x ∙ s.exported;
    }
step_holds h (Export (Some calls)) (Refused fault) given dir save changes extract start a b apart s t x =
    let done = export_stopped h given dir save changes extract start a b calls fault t.1 s.agrees t.0 in
    record { agrees = done.0; allowed = (done.1, s.allowed); reported = s.reported; exported = x ∙ s.exported }
step_holds h (Export calls) r given dir save changes extract start a b apart s t x = absurd t.0
step_holds h (Begin calls) (Begun report) given dir save changes extract start a b apart s t x =
    let done = begin_more h given dir save changes extract start a b report apart s t.0 in
    record {
      agrees = done.0;
      allowed = ((done.1, done.2, done.3, t.1), s.allowed);
      reported = none_reported (hist.beginning_of h);
      exported = x ∙ s.exported;
    }
step_holds h (Begin calls) (CutShort number) given dir save changes extract start a b apart s t x =
    let done = begin_cut h given dir save changes extract start a b number apart s t.0 in
    record {
      agrees = done.0;
      allowed = (done.1, s.allowed);
      reported = none_reported (hist.beginning_of h);
      exported = x ∙ s.exported;
    }
step_holds h (Begin None) (Refused fault) given dir save changes extract start a b apart s t x =
    let none = never_refuses fault t.1.all in
    let done = begin_stopped h given dir save changes extract start a b 0 fault apart (begins_unkilled extract (files_of a.store) fault none) s t.0 in
    record {
      agrees = done.0;
      allowed = (not_killed_begin given h extract 0 fault none done.1, s.allowed);
      reported = s.reported;
      exported = x ∙ s.exported;
    }
step_holds h (Begin (Some calls)) (Refused fault) given dir save changes extract start a b apart s t x =
    let done = begin_stopped h given dir save changes extract start a b calls fault apart t.1 s t.0 in
    record { agrees = done.0; allowed = (done.1, s.allowed); reported = s.reported; exported = x ∙ s.exported }
step_holds h (Begin calls) r given dir save changes extract start a b apart s t x = absurd t.0
step_holds h (Lose n suffix) Lost given dir save changes extract start a b apart s (move, same) x =
    let n_is = s.agrees.number in
    let within : n ≤ length (hist.published_of h) = omega (arith, n_is, move.0.1) in
    let done = lost_agrees (hist.published_of h) (hist.is_file_lost h) (hist.standing_of h) given dir save changes extract start
    (files_of a.store) (files_of a.lost) (files_of b.store) (files_of b.lost) a.published n suffix apart move.0.0
    within move.1 s.agrees in
    record {
      agrees = quiet (hist.published_of h) (λ i t. if hist.same_file n suffix i t then true else hist.is_file_lost h i
          t) (hist.standing_of h) given dir save changes extract start (files_of b.store) (files_of b.lost) b.published
          (renewed (hist.published_of h) (λ i t. if hist.same_file n suffix i t then true else hist.is_file_lost h i t)
          (hist.standing_of h) given dir save changes extract start (files_of b.store) (files_of b.lost) (files_of b.store)
          (files_of b.lost) a.published b.published refl refl same done.0);
      allowed = (((move.0.0, within), done.1), s.allowed);
      reported = s.reported;
      exported = x ∙ s.exported;
    }
step_holds h (Lose n suffix) NotThere given dir save changes extract start a b apart s t x = record {
  agrees = still h given dir save changes extract start a b s.agrees t.1 t.2 t.3;
  allowed = (
    elim t.0 [
      | inl none ↦ inl (no_number h a.published n s.agrees.number (few (hist.published_of h) s.agrees.folder.sequences) none)
      | inr move ↦ inr (let n_is = s.agrees.number in
          kept_none (hist.is_file_lost h n suffix) (hist.text_of suffix (sequence_at (hist.published_of h) n))
          (sym (s.agrees.each n suffix move.0.0 (omega (arith, n_is, move.0.1))) ∙ move.1.0))
    ],
    s.allowed,
  );
  reported = s.reported;
  exported = x ∙ s.exported;
}
step_holds h (Lose n suffix) (Refused fault) given dir save changes extract start a b apart s t x = record {
  agrees = still h given dir save changes extract start a b s.agrees t.1 t.2 t.3;
  allowed = (t.0, s.allowed);
  reported = s.reported;
  exported = x ∙ s.exported;
}
step_holds h (Lose n suffix) r given dir save changes extract start a b apart s t x = absurd t
step_holds h (PutBack n suffix) IsBack given dir save changes extract start a b apart s (move, same) x =
    let n_is = s.agrees.number in
    let within : n ≤ length (hist.published_of h) = omega (arith, n_is, move.0.1) in
    let done = back_agrees (hist.published_of h) (hist.is_file_lost h) (hist.standing_of h) given dir save changes extract start
    (files_of a.store) (files_of a.lost) (files_of b.store) (files_of b.lost) a.published n suffix apart move.0.0
    within move.1 s.agrees in
    record {
      agrees = quiet (hist.published_of h) (λ i t. if hist.same_file n suffix i t then false else hist.is_file_lost h i
          t) (hist.standing_of h) given dir save changes extract start (files_of b.store) (files_of b.lost) b.published
          (renewed (hist.published_of h) (λ i t. if hist.same_file n suffix i t then false else hist.is_file_lost h i t)
          (hist.standing_of h) given dir save changes extract start (files_of b.store) (files_of b.lost) (files_of b.store)
          (files_of b.lost) a.published b.published refl refl same done.0);
      allowed = (((move.0.0, within), done.1), s.allowed);
      reported = s.reported;
      exported = x ∙ s.exported;
    }
step_holds h (PutBack n suffix) NotThere given dir save changes extract start a b apart s t x = record {
  agrees = still h given dir save changes extract start a b s.agrees t.1 t.2 t.3;
  allowed = (
    elim t.0 [
      | inl none ↦ inl (no_number h a.published n s.agrees.number (few (hist.published_of h) s.agrees.folder.sequences) none)
      | inr move ↦ inr (not_true (hist.is_file_lost h n suffix)
          (kept_none (not (hist.is_file_lost h n suffix)) (hist.text_of suffix (sequence_at (hist.published_of h) n))
          (sym (s.agrees.away n suffix move.0.0 move.0.2) ∙ move.1.0)))
    ],
    s.allowed,
  );
  reported = s.reported;
  exported = x ∙ s.exported;
}
step_holds h (PutBack n suffix) (Refused fault) given dir save changes extract start a b apart s t x = record {
  agrees = still h given dir save changes extract start a b s.agrees t.1 t.2 t.3;
  allowed = (t.0, s.allowed);
  reported = s.reported;
  exported = x ∙ s.exported;
}
step_holds h (PutBack n suffix) r given dir save changes extract start a b apart s t x = absurd t

-- nothing is in step with nothing
empty_in_step : (given : FilterValue) → IsInStep [] given (no_save given)
empty_in_step given = record { within = omega arith; base = omega arith; filter_is = refl; mirror = mirror_of-nil given; time = refl }

-- before any operation
pub starts_hold : (given : FilterValue) (dir save changes extract : List ℕ) (w : World) → IsNew dir save (files_of w.store)
    → files_of w.lost ≡ (λ name. None) → w.published ≡ 0 → w.exported ≡ 0 → Holds [] given dir save changes extract (files_of w.store) w
starts_hold given dir save changes extract w new none zero_is none_exported = record {
  agrees = record {
    folder = record {
      sequences = λ k above within. absurd (omega arith);
      rising = λ k above below. absurd (omega arith);
      top = inl (refl, new.top);
      each = λ k s above within. absurd (omega arith);
    };
    each = λ k s above within. absurd (omega arith);
    away = λ k s above most. ap (λ (f : Files). f (file_name_of dir k s)) none;
    fresh = λ k s past. refl;
    right = λ k s above within. absurd (omega arith);
    zero = new.zero;
    saved = record {
      save_is = record {
        value = no_save given;
        kept = subst (λ o. KeptIn given o (files_of w.store (journal_name_of save)) (no_save given)) (sym new.saved) refl;
        right = λ line bad. (let b : None ≡ Some bad.bytes = sym new.journal ∙ bad.there in cc);
        base_is = refl;
        number_is = refl;
        in_step = empty_in_step given;
      };
      alone = λ v told. subst (IsInStep [] given) (sym (subst (λ o. IsSaved given o v) new.saved told)) (empty_in_step given);
      short = λ over. (let b : None ≡ Some over.bytes = sym new.journal ∙ over.there in cc);
      free = λ n other. absurd (let there = other.there in let b : None ≡ Some other.bytes = sym new.journal ∙ there in cc);
      is_there = ap is_none new.saved;
      extract_is = refl;
      within = omega arith;
    };
    others = λ name o. refl;
    number = zero_is;
  };
  allowed = tt;
  reported = refl;
  exported = none_exported;
}

zip-snoc : (es : List Operation) (rs : List Reply) (e : Operation) (r : Reply) → length rs ≡ length es
    → zip (es ++ e ∷ []) (rs ++ r ∷ []) ≡ zip es rs ++ (e, r) ∷ []
zip-snoc [] [] e r h = refl
zip-snoc [] (q ∷ rs) e r h = absurd (omega arith)
zip-snoc (d ∷ es) [] e r h = absurd (omega arith)
zip-snoc (d ∷ es) (q ∷ rs) e r h = ap (λ x. (d, q) ∷ x) (zip-snoc es rs e r (omega arith))

pub history_of-snoc : (es : List Operation) (rs : List Reply) (e : Operation) (r : Reply) → length rs ≡ length es
    → hist.history_of (es ++ e ∷ []) (rs ++ r ∷ []) ≡ (e, r) ∷ hist.history_of es rs
history_of-snoc es rs e r h = rw (zip-snoc es rs e r h) (reverse-append (zip es rs) ((e, r) ∷ []))

-- what a run says at its end
pub holds_at_end : (operations : List Operation) (replies : List Reply) (given : FilterValue) (dir save changes extract : List ℕ) (start : Files)
    (w : World) → Holds (hist.history_of operations replies) given dir save changes extract start w
    → IsRun given operations replies dir save changes extract start (files_of w.store)
holds_at_end operations replies given dir save changes extract start w s = record {
  allowed = s.allowed;
  in_step = record {
    folder = s.agrees.folder;
    each = s.agrees.each;
    saved = s.agrees.saved.save_is;
    alone = s.agrees.saved.alone;
    short = s.agrees.saved.short;
    free = s.agrees.saved.free;
    is_there = s.agrees.saved.is_there;
    reported = s.reported;
    exported = s.agrees.saved.extract_is;
    others = s.agrees.others;
  };
}
