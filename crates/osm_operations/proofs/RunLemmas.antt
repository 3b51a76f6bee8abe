-- What a run of the publisher answers, as a step.
use Rattle.std.proofs.Common.{◌≡◌, ◌<◌, ℕ, ◌≤◌, List, Option, Some, None, Bool, true, false, inr, ap, arith, subst, refl, sym, ◌∙◌}
use Rattle.std.specs.Prelude.{IsTrue, Result, Ok, Err, IfErr, IfOk, OnErr, OnOk}
use Rattle.osm_model.specs.Change.{ChangeValue}
use Rattle.osm_model.specs.Filter.{FilterValue}
use Rattle.osm_model.specs.Time.{Shows, TimeText}
use Rattle.osm_publisher.specs.Published.{PublishedValue}
use Rattle.std.specs.Prelude.{decimal, max}
use Rattle.std.proofs.lemmas.Fmt.{decimal_is_IsNumeral, length-decimal-le}
use Rattle.osm_reading.specs.Sequence.{SpellsSequence}
use Rattle.osm_state.specs.StateLaws.{NoFaultBesideState}
use Rattle.osm_beginning.specs.Beginning.{IsTimely}
use Rattle.osm_beginning.specs.Keeping.{BeginKeptStops, IsBegunBoth, LeavesBegun, begin_kept_calls}
use Rattle.osm_exporting.specs.Exporting.{IsExportOf}
use Rattle.osm_exporting.specs.Keeping.{ExportKeptStops, IsExportedKept}
use Rattle.osm_kept.specs.Laws.{BadKeepsNothing, EmptiedIsKept, EmptyIsNoOther, OneIsKept, OneIsOther}
use Rattle.osm_kept.specs.Names.{journal_name_of}
use Rattle.osm_kept.specs.Refusal.{HasNoOther}
use Rattle.osm_store.specs.Files.{Files, HasFewer}
use Rattle.osm_runs.specs.Folder.{IsApart, IsFolderOf}
use Rattle.osm_runs.specs.Following.{plainly}
use Rattle.osm_runs.specs.Keeping.{IsKeptOf}
use Rattle.osm_store.specs.Frames.{IsKnown, MakesAtMost, StoreState}
use Rattle.osm_merge.specs.Calls.{bytes_in}
use Rattle.osm_runs.specs.Progress.{IsWhole}
use Rattle.osm_round.specs.KeepingOver.{GoesOnOver, KeepingStopsOver, kept_calls}
use Rattle.osm_runs.specs.Runs.{IsDeviceFault, LacksCalls}
use Rattle.osm_runs.specs.declared.progress.Progress.{Progress}
use Rattle.osm_runs.specs.declared.progress.Progress.TheVariants.{Whole, Part, Before}
use Rattle.osm_runs.specs.declared.fault.RunFault.TheVariants.{ReadFault}
use Rattle.osm_state.specs.declared.paths.Suffix.TheVariants.{O5c, Opl}
use Rattle.osm_store.specs.Stores.{files_of}
use Rattle.osm_runs.specs.Names.{file_name_of, top_name_of}
use Rattle.osm_publishing.specs.Numbered.{IsAddedAs, IsPublishedAs, NumberedOut, NumberedStopsOver, NumberedStops, SpendsExactly, numbered_calls}
use Rattle.osm_publishing.specs.Publication.{PublishStopsOver, GoesOnFrom, IsPublished, PublishOut, PublishStops}
use Rattle.osm_runs.specs.Reports.{ReportValue, convert_report_of}
use Rattle.osm_runs.specs.declared.fault.FileName.TheVariants as names
use Rattle.osm_runs.specs.declared.fault.RunFault.{RunFault}
use Rattle.osm_operations.specs.Killing.{HasCalls}
use Rattle.osm_operations.specs.Stepping.{BeginStep, Begins, BlamesIfKilled, ExportStep, Exports, FollowAnswer, KeptLaws, LacksCallsToBegin}
use Rattle.osm_operations.specs.Stepping.{IsNoDevice, LacksFollowCalls}
use Rattle.osm_operations.specs.Stepping.{StopsBeginning, state_name_of}
use Rattle.osm_operations.specs.Stepping.{AreChangesPut, FollowStep, IsNumberText, NumberedStep}
use Rattle.osm_operations.specs.Stepping.{PublishAsTo, PublishStep, ReturnBoth, ReturnForms, SettleTo, named}
use Rattle.osm_operations.specs.Stepping.{stopped_reply}
use Rattle.osm_operations.specs.declared.operation.Reply.{Reply}
use Rattle.osm_operations.specs.declared.world.World.{World}
use Rattle.osm_operations.proofs.RowLemmas.{never_refuses}

-- what the contract of a run says of its answer
pub record Answers (left : Option ℕ) (dir changes now : List ℕ) (middle new : Files)
    (r : Result ReportValue RunFault) : Type 0 where
  pub published : IfOk r (λ report. IsTrue true → IsPublished dir changes now middle new report)
  pub stops : IfErr r (PublishStops (IsTrue true) dir changes now middle new)
  pub refuses : IfErr r (λ fault. IsTrue true → (p : List PublishedValue) → IsFolderOf p middle dir → PublishStopsOver p now fault)
  pub keeps : OnErr r (IsTrue true → (p : List PublishedValue) → IsFolderOf p middle dir → IsFolderOf p new dir)
  pub out : IfErr r (λ fault. IsTrue true → PublishOut dir middle left fault)
  pub others : IsTrue true → (name : List ℕ) → IsApart dir name → new name ≡ middle name

pub run_step : (left : Option ℕ) (dir changes now : List ℕ) (batch : List ChangeValue) (time : ℕ) (f m g : Files)
    (r : Result ReportValue RunFault) → Shows now time → (1 ≤ time → TimeText now time)
    → AreChangesPut changes batch f m → Answers left dir changes now m g r
    → PublishStep left dir changes batch time r f g
run_step left dir changes now batch time f m g (Ok report) shows is_text there a = record {
  now = now;
  middle = m;
  shows = shows;
  is_text = is_text;
  there = there;
  is_so = record { published = a.published refl };
  others = a.others refl;
}
run_step left dir changes now batch time f m g (Err fault) shows is_text there a = inr (record {
  now = now;
  middle = m;
  shows = shows;
  is_text = is_text;
  there = there;
  is_so = record { stops = a.stops; refuses = a.refuses refl; keeps = a.keeps refl; out = a.out refl };
  others = a.others refl;
})

-- the same over other stores with the same files
pub run_step_over : (left left_there : Option ℕ) (dir changes now : List ℕ) (batch : List ChangeValue) (time : ℕ)
    (f m n g h : Files) (r : Result ReportValue RunFault) → left_there ≡ left → n ≡ m → h ≡ g → Shows now time
    → (1 ≤ time → TimeText now time) → AreChangesPut changes batch f m → Answers left_there dir changes now n g r
    → PublishStep left dir changes batch time r f h
run_step_over left left_there dir changes now batch time f m n g h r same_left same same_after shows is_text there a =
    subst (λ (x : Files). PublishStep left dir changes batch time r f x) (sym same_after)
    (subst (λ (x : Option ℕ). PublishStep x dir changes batch time r f g) same_left
    (run_step left_there dir changes now batch time f n g r shows is_text (subst (λ (x : Files). AreChangesPut changes batch f x) (sym same) there) a))

-- what the contract of a run by number says of its answer
pub record AnswersAs (left : Option ℕ) (dir changes now sequence : List ℕ) (middle new : Files)
    (r : Result ReportValue RunFault) : Type 0 where
  pub published : IfOk r (λ report. IsTrue true → IsPublishedAs dir changes now sequence middle new report)
  pub added : IfOk r (λ report. IsTrue true → (p : List PublishedValue) → IsFolderOf p middle dir → IsAddedAs p dir changes now sequence middle new report)
  pub exact : OnOk r (IsTrue true → (number top time : ℕ) → SpellsSequence sequence number
      → GoesOnFrom (middle (top_name_of dir)) top time → HasCalls (numbered_calls number top) left)
  pub stops : IfErr r (NumberedStops (IsTrue true) dir changes now sequence middle new)
  pub refuses : IfErr r (λ fault. IsTrue true → (p : List PublishedValue) → IsFolderOf p middle dir → NumberedStopsOver p dir changes now sequence middle fault)
  pub keeps : OnErr r (IsTrue true → (p : List PublishedValue) → IsFolderOf p middle dir → IsFolderOf p new dir)
  pub out : IfErr r (λ fault. IsTrue true → NumberedOut dir sequence middle left fault)
  pub others : IsTrue true → (name : List ℕ) → IsApart dir name → new name ≡ middle name

-- a number is written without leading zeros
pub number_is_text : (n : ℕ) (text : List ℕ) → n ≤ 4294967295 → text ≡ decimal n → IsNumberText n text
number_is_text n text most same =
    let is = decimal_is_IsNumeral n (omega (arith, most)) in
    subst (IsNumberText n) (sym same) (record {
      only = λ k spelled. spelled.value ∙ is.1;
      spelled = λ fits. record { numeral = is.0; short = length-decimal-le 9 n (omega arith) (omega (arith, fits)) (omega (arith, fits)); value = sym is.1 };
    })

pub calls_made : (calls : ℕ) (old new : Option ℕ) → SpendsExactly calls old new → HasCalls calls old
calls_made calls None new spent = tt
calls_made calls (Some left) new spent = let m = spent.0.2 in omega (arith, m)

-- the calls of a run that is done
pub ok_calls : {T E : Type 0} (r : Result T E) (dir sequence : List ℕ) (middle : Files) (left left_after : Option ℕ)
    → OnOk r (IsTrue true → (number top time : ℕ) → SpellsSequence sequence number
    → GoesOnFrom (middle (top_name_of dir)) top time → SpendsExactly (numbered_calls number top) left left_after)
    → OnOk r (IsTrue true → (number top time : ℕ) → SpellsSequence sequence number
    → GoesOnFrom (middle (top_name_of dir)) top time → HasCalls (numbered_calls number top) left)
ok_calls (Ok x) dir sequence middle left left_after exact = λ known number top time spelled goes. calls_made
    (numbered_calls number top) left left_after (exact known number top time spelled goes)
ok_calls (Err e) dir sequence middle left left_after exact = tt

pub number_step : (left : Option ℕ) (dir changes now sequence : List ℕ) (batch : List ChangeValue) (time n : ℕ)
    (f m g : Files) (r : Result ReportValue RunFault) → IsNumberText n sequence → Shows now time
    → (1 ≤ time → TimeText now time) → AreChangesPut changes batch f m → AnswersAs left dir changes now sequence m g r
    → NumberedStep left dir changes batch time n r f g
number_step left dir changes now sequence batch time n f m g (Ok report) text shows is_text there a = record {
  now = now;
  middle = m;
  shows = shows;
  is_text = is_text;
  there = there;
  is_so = record { sequence = sequence; number_is = text; published = a.published refl; added = a.added refl; calls = a.exact refl };
  others = a.others refl;
}
number_step left dir changes now sequence batch time n f m g (Err fault) text shows is_text there a = inr (record {
  now = now;
  middle = m;
  shows = shows;
  is_text = is_text;
  there = there;
  is_so = record { sequence = sequence; number_is = text; stops = a.stops; refuses = a.refuses refl; keeps = a.keeps refl; out = a.out refl };
  others = a.others refl;
})

-- the same over other stores with the same files
pub number_step_over : (left left_there : Option ℕ) (dir changes now sequence : List ℕ) (batch : List ChangeValue)
    (time number : ℕ) (f m n g h : Files) (r : Result ReportValue RunFault) → left_there ≡ left → n ≡ m → h ≡ g
    → IsNumberText number sequence → Shows now time → (1 ≤ time → TimeText now time) → AreChangesPut changes batch f m
    → AnswersAs left_there dir changes now sequence n g r → NumberedStep left dir changes batch time number r f h
number_step_over left left_there dir changes now sequence batch time number f m n g h r same_left same same_after text shows is_text there a =
    subst (λ (x : Files). NumberedStep left dir changes batch time number r f x) (sym same_after)
    (subst (λ (x : Option ℕ). NumberedStep x dir changes batch time number r f g) same_left
    (number_step left_there dir changes now sequence batch time number f n g r text shows is_text
    (subst (λ (x : Files). AreChangesPut changes batch f x) (sym same) there) a))

-- a publication by number, from what its run answered and what is there again
pub answer_to : (left : Option ℕ) (dir changes : List ℕ) (batch : List ChangeValue) (time n : ℕ)
    (answer : Result ReportValue RunFault) (r : Reply) (a m b : World) (o5c_name opl_name : List ℕ)
    → o5c_name ≡ file_name_of dir (named n) O5c → opl_name ≡ file_name_of dir (named n) Opl
    → NumberedStep left dir changes batch time n answer (files_of a.store) (files_of m.store) → m.lost ≡ a.lost
    → m.published ≡ a.published → b.store ≡ m.store → SettleTo answer o5c_name opl_name n r m b
    → PublishAsTo left dir changes batch time n r a b
answer_to left dir changes batch time n answer r a m b o5c_name opl_name first second step lost count store settled =
    by_answer answer (subst (λ (x : Files). NumberedStep left dir changes batch time n answer (files_of a.store) x) (sym (ap files_of store)) step) settled
  where
    forms : (o5c opl : Bool) → ReturnBoth o5c opl o5c_name opl_name (files_of m.store) (files_of m.lost)
        (files_of b.lost) → ReturnForms o5c opl dir (named n) (files_of b.store) (files_of a.lost) (files_of b.lost)
    forms o5c opl both =
        subst (λ (x : Files). ReturnForms o5c opl dir (named n) (files_of b.store) x (files_of b.lost)) (ap files_of lost)
        (subst (λ (x : Files). ReturnForms o5c opl dir (named n) x (files_of m.lost) (files_of b.lost)) (sym (ap files_of store))
        (subst (λ x. ReturnBoth o5c opl (file_name_of dir (named n) O5c) x (files_of m.store) (files_of m.lost) (files_of b.lost)) second
        (subst (λ x. ReturnBoth o5c opl x opl_name (files_of m.store) (files_of m.lost) (files_of b.lost)) first both)))

    stopped : (fault : RunFault) (o5c opl : Bool) → NumberedStep left dir changes batch time n (Err fault)
        (files_of a.store) (files_of b.store) → ReturnForms o5c opl dir (named n) (files_of b.store) (files_of a.lost)
        (files_of b.lost) → b.published ≡ a.published → PublishAsTo left dir changes batch time n
        (stopped_reply fault o5c opl) a b
    stopped fault true opl s back same = (s, (opl, back), same)
    stopped fault false true s back same = (s, back, same)
    stopped fault false false s back same = inr (s, back, same)

    by_answer : (answer : Result ReportValue RunFault) → NumberedStep left dir changes batch time n answer
        (files_of a.store) (files_of b.store) → SettleTo answer o5c_name opl_name n r m b
        → PublishAsTo left dir changes batch time n r a b
    by_answer (Ok report) s (is, back, after) =
        subst (λ x. PublishAsTo left dir changes batch time n x a b) (sym is) (s, (back.0, back.1, forms back.0 back.1 back.2), after ∙ ap (λ k. max k n) count)
    by_answer (Err fault) s (back, after) =
        subst (λ x. PublishAsTo left dir changes batch time n x a b) (sym back.2) (stopped fault back.0 back.1 s (forms back.0 back.1 back.3) (after ∙ count))

pub kept_laws : OneIsKept → BadKeepsNothing → EmptiedIsKept → EmptyIsNoOther → OneIsOther → KeptLaws
kept_laws one nothing emptied no_bytes one_other =
    record { one = one; nothing = nothing; emptied = emptied; no_bytes = no_bytes; one_other = one_other }

-- what a refused run leaves, which holds whatever is known
pub known_leaves : (f g : Files) (w : Result Progress RunFault) → OnErr w (g ≡ f) → OnErr w (IsTrue true → g ≡ f)
known_leaves f g (Ok progress) same = tt
known_leaves f g (Err fault) same = λ known. same

-- the answer of a run of the follower over another store with the same files
pub answer_over : (given : FilterValue) (dir save : List ℕ) (f f' g g' : Files) (w : Result Progress RunFault)
    → f' ≡ f → g' ≡ g → FollowAnswer given dir save w f' g → FollowAnswer given dir save w f g'
answer_over given dir save f f' g g' w same same_after answer =
    subst (λ (x : Files). FollowAnswer given dir save w f x) (sym same_after)
    (subst (λ (x : Files). FollowAnswer given dir save w x g) same answer)

-- what a run of the follower answers, as a step. The run may have been over another store with the same files
pub follow_step : (given : FilterValue) (dir save : List ℕ) (f f' g : Files) (w : Result Progress RunFault) → f' ≡ f → FollowAnswer given dir save w f g
    → (IsTrue true → (p : List PublishedValue) (base n : ℕ) → IsFolderOf p f' dir → IsKeptOf p given base n save f'
    → IsWhole (plainly given) w (λ under x. IfErr x (KeepingStopsOver p given (f' save) (f' (journal_name_of save))))) → FollowStep given dir save w f g
follow_step given dir save f f' g (Ok (Whole report)) same answer over = answer
follow_step given dir save f f' g (Ok (Part report applied count)) same answer over = answer
follow_step given dir save f f' g (Ok (Before report fault)) same answer over =
    λ p base n folder saved. over refl p base n (subst (λ (x : Files). IsFolderOf p x dir) (sym same) folder)
    (subst (λ (x : Files). IsKeptOf p given base n save x) (sym same) saved)
follow_step given dir save f f' g (Err fault) same answer over = (
  answer.leaves refl,
  λ p base n folder saved. subst (λ (x : Files). KeepingStopsOver p given (x save) (x (journal_name_of save)) fault) same
      (over refl p base n (subst (λ (x : Files). IsFolderOf p x dir) (sym same) folder)
      (subst (λ (x : Files). IsKeptOf p given base n save x) (sym same) saved)),
)

-- what the word says over the folder of what was published
pub progress_over_refuses : (given : FilterValue) (dir save : List ℕ) (a b : StoreState) (w : Result Progress RunFault)
    → (IsKnown a → (p : List PublishedValue) (base n : ℕ) → IsFolderOf p a.files dir → IsKeptOf p given base n save a.files
    → IsWhole (plainly given) w (λ under. GoesOnOver p under base n dir save a b))
    → IsKnown a → (p : List PublishedValue) (base n : ℕ) → IsFolderOf p a.files dir → IsKeptOf p given base n save a.files
    → IsWhole (plainly given) w (λ under x. IfErr x (KeepingStopsOver p given (a.files save) (a.files (journal_name_of save))))
progress_over_refuses given dir save a b (Ok (Whole report)) over sure p base n folder saved = tt
progress_over_refuses given dir save a b (Ok (Part report applied count)) over sure p base n folder saved = tt
progress_over_refuses given dir save a b (Ok (Before report fault)) over sure p base n folder saved = over sure p base n folder saved
progress_over_refuses given dir save a b (Err fault) over sure p base n folder saved = (over sure p base n folder saved).refuses

-- the device refuses a killed run of the follower for the calls that it had
pub follow_lacks : (given : FilterValue) (dir save : List ℕ) (calls : ℕ) (a b : StoreState) (f : Files) (w : Result Progress RunFault)
    → IsKnown a → a.left ≡ Some calls → a.files ≡ f
    → (IsKnown a → (p : List PublishedValue) (base n : ℕ) → IsFolderOf p a.files dir
    → IsKeptOf p given base n save a.files → IsWhole (plainly given) w (λ under. GoesOnOver p under base n dir save a b))
    → IfErr w (LacksFollowCalls given dir save (Some calls) f)
follow_lacks given dir save calls a b f (Ok progress) known some same over = tt
follow_lacks given dir save calls a b f (Err fault) known some same over = λ device p base n folder saved.
    subst (λ (g : Files). calls < kept_calls p n (g save)) same
    (subst (HasFewer (kept_calls p n (a.files save))) some
    ((over known p base n (subst (λ (g : Files). IsFolderOf p g dir) (sym same) folder)
    (subst (λ (g : Files). IsKeptOf p given base n save g) (sym same) saved)).calls.lacks known device))

-- it refuses no whole one, and a killed one alone
pub whole_lacks : (given : FilterValue) (dir save : List ℕ) (f : Files) (w : Result Progress RunFault)
    → IfErr w (LacksFollowCalls given dir save None f) → IfErr w IsNoDevice
whole_lacks given dir save f (Ok progress) lacks = tt
whole_lacks given dir save f (Err fault) lacks = never_refuses fault lacks

pub killed_alone : (given : FilterValue) (dir save : List ℕ) (calls : Option ℕ) (f : Files) (w : Result Progress RunFault)
    → IfErr w (LacksFollowCalls given dir save calls f) → IfErr w (BlamesIfKilled calls)
killed_alone given dir save calls f (Ok progress) lacks = tt
killed_alone given dir save None f (Err fault) lacks = lacks
killed_alone given dir save (Some calls) f (Err fault) lacks = λ device. tt

-- what the contract of an export says of its answer
pub record ExportAnswers (save extract : List ℕ) (old new : Files) (r : Result ReportValue RunFault) : Type 0 where
  pub exported : OnOk r (IsTrue true → IsExportedKept save extract old new)
  pub in_step : OnOk r (IsTrue true → (p : List PublishedValue) (given : FilterValue) (base number : ℕ)
      → IsKeptOf p given base number save old → IsExportOf p given number extract (new extract))
  pub report : IfOk r (λ report. report ≡ convert_report_of)
  pub free : OnOk r (IsTrue true → HasNoOther (old save) (old (journal_name_of save)))
  pub stops : IfErr r (ExportKeptStops (IsTrue true) save extract old)
  pub kept : OnErr r (new ≡ old)

pub export_step : (save extract : List ℕ) (f g f' g' : Files) (r : Result ReportValue RunFault) → f' ≡ f → g' ≡ g
    → ExportAnswers save extract f' g r → ExportStep save extract r f g'
export_step save extract f g f' g' (Ok report) same same_after a =
    subst (λ (x : Files). Exports save extract report f x) (sym same_after)
    (subst (λ (x : Files). Exports save extract report x g) same
    (record { exported = a.exported refl; in_step = a.in_step refl; report_is = a.report; free = a.free refl }))
export_step save extract f g f' g' (Err fault) same same_after a = (
  same_after ∙ (a.kept ∙ same),
  inr (subst (λ (x : Files). ExportKeptStops (IsTrue true) save extract x fault) same a.stops),
)

-- what the contract of a beginning says of its answer
pub record BeginAnswers (given : FilterValue) (any_time : Bool) (extract state save : List ℕ) (old new : Files) (r : Result ReportValue RunFault) :
    Type 0 where
  pub begun : IfOk r (λ report. IsTrue true → IsBegunBoth given extract state save old new report)
  pub timely : OnOk r (IsTrue true → any_time ≡ false → IsTimely extract state old)
  pub stops : IfErr r (BeginKeptStops (IsTrue true) any_time given extract state save old)
  pub leaves : IfErr r (λ fault. IsTrue true → LeavesBegun given extract state save old new fault)
  pub law : NoFaultBesideState
  pub laws : KeptLaws

pub begin_step : (given : FilterValue) (dir : List ℕ) (number : ℕ) (extract state save : List ℕ) (f g f' g' : Files)
    (r : Result ReportValue RunFault) → state ≡ state_name_of dir number → f' ≡ f → g' ≡ g → BeginAnswers given false extract state save f' g r
    → BeginStep given dir number extract save r f g'
begin_step given dir number extract state save f g f' g' (Ok report) name same same_after a =
    subst (λ (x : Files). Begins given extract (state_name_of dir number) save report f x) (sym same_after)
    (subst (λ (x : Files). Begins given extract (state_name_of dir number) save report x g) same
    (subst (λ s. Begins given extract s save report f' g) name (record { begun = a.begun refl; timely = a.timely refl refl; laws = a.laws })))
begin_step given dir number extract state save f g f' g' (Err fault) name same same_after a =
    inr (subst (λ (x : Files). StopsBeginning given extract (state_name_of dir number) save fault f x) (sym same_after)
    (subst (λ (x : Files). StopsBeginning given extract (state_name_of dir number) save fault x g) same
    (subst (λ s. StopsBeginning given extract s save fault f' g) name
    (record { stops = a.stops; leaves = a.leaves refl; law = a.law; laws = a.laws }))))

-- the same under what it was asked for
pub begin_asked : (given asked : FilterValue) (any_time : Bool) (extract state save : List ℕ) (f g : Files) (r : Result ReportValue RunFault)
    → asked ≡ given → any_time ≡ false → BeginAnswers asked any_time extract state save f g r → BeginAnswers given false extract state save f g r
begin_asked given asked any_time extract state save f g r same timely a =
    subst (λ (x : FilterValue). BeginAnswers x false extract state save f g r) same
    (subst (λ (b : Bool). BeginAnswers asked b extract state save f g r) timely a)

-- a run that the device refused had fewer calls than it may make
pub made_lacks : (most : ℕ) (left : Option ℕ) (old new : StoreState) (r : Result ReportValue RunFault) → IsKnown old → old.left ≡ left
    → MakesAtMost IsDeviceFault most old new r → IfErr r (LacksCalls most left)
made_lacks most left old new (Ok report) known some makes = tt
made_lacks most left old new (Err fault) known some makes = subst (λ o. LacksCalls most o fault) some (makes.lacks known)

-- why the device has no state to read
abbrev pub LacksState : StoreState → RunFault → Type 0
LacksState old fault = fault ≡ ReadFault names.State → IsKnown old → HasFewer 1 old.left

-- the same of a beginning
pub begin_lacks : (extract : List ℕ) (left : Option ℕ) (old new : StoreState) (f : Files) (r : Result ReportValue RunFault) → IsKnown old
    → old.left ≡ left → old.files ≡ f → MakesAtMost IsDeviceFault (begin_kept_calls (bytes_in (old.files extract))) old new r
    → IfErr r (LacksState old) → IfErr r (LacksCallsToBegin extract left f)
begin_lacks extract left old new f (Ok report) known some same makes first = tt
begin_lacks extract left old new f (Err fault) known some same makes first = record {
  all = subst (λ (g : Files). LacksCalls (begin_kept_calls (bytes_in (g extract))) left fault) same
      (made_lacks (begin_kept_calls (bytes_in (old.files extract))) left old new (Err fault) known some makes);
  first = λ state. subst (HasFewer 1) some (first state known);
}
