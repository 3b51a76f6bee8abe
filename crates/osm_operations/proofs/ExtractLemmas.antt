-- An export of the save, and a beginning with what was exported.
use Rattle.std.proofs.Common.{◌+◌, ◌≡◌, ℕ, ◌-◌, ◌<◌, ◌≤◌, List, [], ◌∷◌, length, take, Bool, true, false, Option, Some, None, inl, inr, arith}
use Rattle.std.proofs.Common.{refl, sym, ap, subst, ◌∙◌}
use Rattle.std.specs.Prelude.{◌⊎◌, IsTrue, is_none, min, not, unwrap_or}
use Rattle.std.specs.List.{flat_map}
use Rattle.std.specs.Str.{bytes_eq}
use Rattle.std.proofs.lemmas.Bool.{cases_Bool, cases_lt}
use Rattle.std.proofs.lemmas.Slice.Eq.{bytes_eq-Decides}
use Rattle.std.proofs.lemmas.List.{drop_all, length-take-le}
use Rattle.std.proofs.lemmas.Option.{same_Some}
use Rattle.osm_model.proofs.FilterLemmas.{extracts_are_enough}
use Rattle.osm_model.specs.Change.{ChangeValue}
use Rattle.osm_model.specs.Content.{content_of}
use Rattle.osm_model.specs.Data.{IsData}
use Rattle.osm_model.specs.Filter.{FilterValue, kept, kept_object}
use Rattle.osm_model.specs.Limits.{max_file, max_sequence}
use Rattle.osm_model.specs.declared.kind.Key.{Key}
use Rattle.osm_mirror.specs.Mirror.{IsMirrorOf, IsOrderly, object_at}
use Rattle.osm_o5c.proofs.WrittenFile as o5m_written
use Rattle.osm_opl.proofs.RoundTrip as opl_written
use Rattle.osm_save.specs.Save.{save_text}
use Rattle.osm_save.specs.declared.head.Head.{Head}
use Rattle.osm_save.specs.declared.version.Version.TheVariants.{Three}
use Rattle.osm_save.specs.declared.save.Saved.{Saved}
use Rattle.osm_state.specs.State.{StateValue}
use Rattle.osm_state.specs.declared.state_text.StateError.{StateError}
use Rattle.osm_state.specs.StateLaws.{NoFaultBesideState}
use Rattle.osm_state.specs.declared.paths.Suffix.{Suffix}
use Rattle.osm_state.specs.declared.paths.Suffix.TheVariants.{State}
use Rattle.osm_follow.proofs.BeginLemmas.{kept_at}
use Rattle.osm_follow.proofs.PublishedLemmas.{time_next}
use Rattle.osm_follow.specs.Begin.{kept_objects}
use Rattle.osm_publisher.specs.Published.{PublishedValue, changes_after, changes_up_to, sequence_at}
use Rattle.osm_beginning.proofs.BeginLemmas.{kept_data, one_form, same_base, same_start, spelled_data}
use Rattle.osm_beginning.specs.Beginning.{HasStart, IsBase, IsBadBase, IsBeginning, IsTimely, begun_save, most_after, most_kept, newest_time}
use Rattle.osm_beginning.specs.Keeping.{BeginKeptStops, HasAbove, IsBegunBoth, IsCutBeside, IsCutShort, LeavesBegun, LeavesSave, begin_kept_calls}
use Rattle.osm_beginning.proofs.KeepingLemmas.{journal_has_own_name}
use Rattle.osm_runs.specs.DataForms.{data_text_of, spells_data}
use Rattle.osm_runs.specs.DataForms.{HasDataForm}
use Rattle.osm_exporting.specs.Exporting.{IsExportOf}
use Rattle.osm_exporting.specs.Keeping.{CanExportKept, ExportKeptStops}
use Rattle.osm_merge.specs.Calls.{bytes_in}
use Rattle.osm_kept.specs.Kept.{BelongsTo, IsNoJournal}
use Rattle.osm_kept.specs.Names.{journal_name_of}
use Rattle.osm_store.specs.Files.{Files, HasFewer, IsOver, Puts}
use Rattle.osm_runs.specs.Folder.{IsStateFile, IsThere, max_state}
use Rattle.osm_runs.specs.Following.{IsInStep, IsSaved}
use Rattle.osm_runs.specs.Keeping.{IsKept, IsKeptOf, KeptIn}
use Rattle.osm_runs.specs.Names.{file_name_of, top_name_of}
use Rattle.osm_runs.specs.Folder.{IsBadState}
use Rattle.osm_runs.specs.Reports.{ReportValue, begin_report_of}
use Rattle.osm_runs.specs.Runs.{LacksCalls}
use Rattle.osm_runs.specs.declared.data_form.DataForm.{DataForm}
use Rattle.osm_runs.specs.declared.data_form.DataForm.TheVariants.{Opl, O5m}
use Rattle.osm_runs.specs.declared.fault.FileName.TheVariants as files
use Rattle.osm_runs.specs.declared.fault.FileName.TheVariants.{Base, Journal, Save}
use Rattle.osm_runs.specs.declared.fault.RunFault.{RunFault}
use Rattle.osm_runs.specs.declared.fault.RunFault.TheVariants.{WantOfMemory, ReadFault, WriteFault, TooLarge, Absent}
use Rattle.osm_runs.specs.declared.fault.RunFault.TheVariants.{BadJournal, BadState, BadChange, BadSave, Changed, OlderState, UnknownForm, ZeroBase}
use Rattle.osm_runs.specs.declared.fault.RunFault.TheVariants.{OtherJournal}
use Rattle.osm_operations.specs.Allowed.{BeginStopsIn, ExportStopsIn, HasBeginning, HasExport, HasManyToBegin, HasTimelyExtract, IsCutAt, IsOfSave}
use Rattle.osm_operations.specs.Allowed.{LacksBeginCalls, LacksExportCalls}
use Rattle.osm_operations.specs.Alone.{IsInStepAlone}
use Rattle.osm_operations.specs.Allowed.{KilledBeginStopsIn, KilledExportStopsIn}
use Rattle.osm_operations.specs.Correct.{AreApart, IsExtractOf}
use Rattle.osm_operations.specs.History.{Standing, begins_at, text_of, unless_lost}
use Rattle.osm_operations.specs.History as hist
use Rattle.osm_operations.specs.Stepping.{Exports, IsNoDevice, IsNoOther, KeptLaws, LacksCallsToBegin, LeavesAll, most_to_export, state_name_of}
use Rattle.osm_operations.proofs.AgreeLemmas.{Agrees, IsFreeBut, SameSave, few, folder_same, free_same, is_kept_same, kept_of_same}
use Rattle.osm_operations.proofs.FollowLemmas.{huge_save}
use Rattle.osm_operations.proofs.KeptLemmas.{IsOwn, both_agrees, own, short_or_empty}
use Rattle.osm_operations.proofs.OneInStep.{one_in_step}
use Rattle.osm_runs.proofs.InStepLemmas.{one_saved}
use Rattle.osm_runs.proofs.KeepingLemmas.{no_bad_journal}
use Rattle.osm_round.proofs.OverLemmas.{no_bad_save}

-- ---- what was saved and exported

-- a save is there exactly if something was saved
is_there_not : (b : Bool) (told : Option (List ℕ)) (bytes : List ℕ) → is_none told ≡ not b → told ≡ Some bytes → b ≡ true
is_there_not true told bytes is there = refl
is_there_not false told bytes is there = absurd (let bad : false ≡ true = sym (ap is_none there) ∙ is in cc)

pub is_absent_not : (b : Bool) (told : Option (List ℕ)) → is_none told ≡ not b → told ≡ None → b ≡ false
is_absent_not false told is none = refl
is_absent_not true told is none = absurd (let bad : true ≡ false = sym (ap is_none none) ∙ is in cc)

-- what can be exported of a save
pub has_export : (h : hist.History) (save extract : List ℕ) (f : Files) → CanExportKept save extract f
    → is_none (f save) ≡ not (hist.is_saved h) → HasExport h extract
has_export h save extract f made there = record {
  saved = is_there_not (hist.is_saved h) (f save) made.kept.file there made.kept.there;
  named = made.named;
}

-- an export is done
pub export_agrees : (p : List PublishedValue) (lost : ℕ → Suffix → Bool) (m : Standing) (given : FilterValue) (dir save changes extract : List ℕ)
    (start f g l : Files) (n : ℕ) (report : ReportValue) → AreApart dir save changes extract
    → Agrees p lost m given dir save changes extract start f l n → Exports save extract report f g
    → Agrees p lost (record { number = m.number; base = m.base; is_saved = m.is_saved; exported = Some m.number; cut = m.cut }) given dir save
    changes extract start g l n
export_agrees p lost m given dir save changes extract start f g l n report apart s done = record {
  folder = folder_same p dir f g (put.others (top_name_of dir) (λ e. apart.extract_is.top (sym e))) (λ k t above until. other k t until) s.folder;
  each = λ k t above until. other k t until ∙ s.each k t above until;
  away = s.away;
  fresh = s.fresh;
  right = s.right;
  zero = other 0 State (omega arith) ∙ s.zero;
  saved = record {
    save_is = kept_of_same p given m.base m.number save f g same s.saved.save_is;
    alone = subst (IsInStepAlone p given) (sym same.0) s.saved.alone;
    short = subst (λ o. IsOver max_file o → ⊥) (sym same.1) s.saved.short;
    free = free_same m.cut save f g same s.saved.free;
    is_there = ap is_none same.0 ∙ s.saved.is_there;
    extract_is = done.in_step p given m.base m.number s.saved.save_is;
    within = let v = s.saved.save_is.in_step.within in let at = s.saved.save_is.number_is in omega (arith, v, at);
  };
  others = λ name o. put.others name o.extract_is ∙ s.others name o;
  number = s.number;
}
  where
    put : Puts f extract (Some (data_text_of done.exported.made.named.form done.exported.made.value.mirror.objects)) g
    put = done.exported.put

    most : length p ≤ max_sequence
    most = few p s.folder.sequences

    other : (k : ℕ) (t : Suffix) → k ≤ length p → g (file_name_of dir k t) ≡ f (file_name_of dir k t)
    other k t until = put.others (file_name_of dir k t) (λ e. apart.extract_is.each k t (omega (arith, most, until)) (sym e))

    same : SameSave save f g
    same = (put.others save (λ e. apart.not_saved (sym e)), put.others (journal_name_of save) (λ e. apart.not_journal (sym e)))

-- why an export stopped
module _ (given : FilterValue) (h : hist.History) (extract save : List ℕ) (calls : ℕ) (f : Files)
    (s : IsKeptOf (hist.published_of h) given (hist.base_of h) (hist.number_of h) save f)
    (alone : IsInStepAlone (hist.published_of h) given (f save)) (short : IsOver max_file (f (journal_name_of save)) → ⊥)
    (free : IsFreeBut (hist.cut_of h) save f) (there : is_none (f save) ≡ not (hist.is_saved h)) where
  -- the calls that it lacked
  lacks_calls : HasFewer (most_to_export save f) (Some calls) → LacksExportCalls given h calls
  lacks_calls few = record { base = hist.base_of h; save = save; store = f; kept = s; alone = alone; short = short; few = few }

  own_save : IsOwn (hist.published_of h) given (f save)
  own_save = own (hist.published_of h) given (hist.base_of h) (hist.number_of h) save f s alone

  pub export_row : (fault : RunFault) → LacksCalls (most_to_export save f) (Some calls) fault
      → ExportKeptStops (IsTrue true) save extract f fault → KilledExportStopsIn given h extract calls fault
  export_row UnknownForm lacks r = r
  export_row WantOfMemory lacks r = tt
  export_row (ReadFault Journal) lacks r = (tt, r, lacks_calls (lacks tt))
  export_row (ReadFault file) lacks r = (subst IsOfSave (sym r.1) tt, r.0, lacks_calls (lacks tt))
  export_row (Absent file) lacks r = (r.0, r.1, is_absent_not (hist.is_saved h) (f save) there (r.2 refl).0)
  export_row (TooLarge Journal) lacks r = absurd (short (r.1 refl))
  export_row (TooLarge file) lacks r = (
    r.1.0,
    r.0,
    elim (r.1.1 refl) [
      | inl huge ↦ huge_save (hist.published_of h) given (hist.base_of h) (hist.number_of h) save f s alone huge
      | inr none ↦ absurd (no_bad_save given (f save) own_save.saved.value own_save.saved.saved none)
    ],
  )
  export_row (BadSave line) lacks r = absurd (no_bad_save given (f save) own_save.saved.value own_save.saved.saved (r.1 refl))
  export_row (BadJournal line) lacks r = absurd (s.right line (r.1 refl))
  export_row (OtherJournal n) lacks r = (r.0, free n (r.1 refl))
  export_row (Changed file) lacks r = absurd (r.1.1 refl)
  export_row (WriteFault file) lacks r = (r.0, has_export h save extract f (r.2 refl) there, lacks_calls (lacks tt))
  export_row fault lacks r = absurd r.1

pub not_killed_export : (given : FilterValue) (h : hist.History) (extract : List ℕ) (calls : ℕ) (fault : RunFault) → IsNoDevice fault
    → KilledExportStopsIn given h extract calls fault → ExportStopsIn given h extract fault
not_killed_export given h extract calls (ReadFault file) none r = absurd none
not_killed_export given h extract calls (WriteFault file) none r = absurd none
not_killed_export given h extract calls fault none r = r

-- ---- the state and the objects with which a beginning begins

-- the extract holds exactly what the filter keeps of what published sequences 1 to the number leave, and the state is that of
-- the number
pub record IsKeptBase (p : List PublishedValue) (given : FilterValue) (number : ℕ) (extract state : List ℕ) (f : Files) : Type 0 where
  pub above : 0 < number
  pub within : number ≤ length p
  pub start : IsThere (f state) (IsStateFile number (sequence_at p number).time)
  pub objects : List ChangeValue
  pub base_is : IsBase extract (f extract) objects
  pub content : (k : Key) → object_at objects k ≡ kept given (content_of (changes_up_to p number)) k

-- a data file as it is written spells its objects
pub written_data : (form : DataForm) (objects : List ChangeValue) → IsData objects → spells_data form (data_text_of form objects) objects
written_data Opl objects are = opl_written.data_spells objects are
written_data O5m objects are = o5m_written.data_spells objects are

base_of_export : (p : List PublishedValue) (given : FilterValue) (number : ℕ) (extract state : List ℕ) (f : Files)
    → IsExportOf p given number extract (f extract) → 0 < number → number ≤ length p
    → IsThere (f state) (IsStateFile number (sequence_at p number).time) → IsKeptBase p given number extract state f
base_of_export p given number extract state f e above within named = record {
  above = above;
  within = within;
  start = named;
  objects = e.objects;
  base_is = record {
    named = e.named;
    bytes = data_text_of e.named.form e.objects;
    there = e.text;
    spelled = written_data e.named.form e.objects e.are_data;
  };
  content = e.content;
}

-- the file that a beginning reads
pub state_name : (dir : List ℕ) (n k : ℕ) → n ≡ k → k ≤ max_sequence → state_name_of dir n ≡ file_name_of dir k State
state_name dir n k e most = let same : min n max_sequence ≡ k = grind (arith) in ap (λ i. file_name_of dir i State) same

exported_some : (p : List PublishedValue) (given : FilterValue) (exported : Option ℕ) (extract : List ℕ) (was told : Option (List ℕ))
    → 0 < unwrap_or exported 0 → IsExtractOf p given exported extract was told → IsExportOf p given (unwrap_or exported 0) extract told
exported_some p given None extract was told above is = absurd (omega (arith, above))
exported_some p given (Some number) extract was told above is = is

some_holds : (o : Option (List ℕ)) (text : List ℕ) (holds : List ℕ → Type 0) → o ≡ Some text → holds text → IsThere o holds
some_holds o text holds e h = rw e h

-- no number above 0 was exported or the state of the number is lost, and the state isn't there; or it is there, and the extract
-- is what the filter keeps of its number
abbrev pub StateCases : List PublishedValue → FilterValue → (ℕ → Suffix → Bool) → ℕ → List ℕ → List ℕ → Files → Type 0
StateCases p given lost number dir extract f =
    (((number ≡ 0) ⊎ (lost number State ≡ true)) × (f (file_name_of dir number State) ≡ None))
    ⊎ ((0 < number) × (lost number State ≡ false) × IsKeptBase p given number extract (file_name_of dir number State) f)

pub state_cases : (p : List PublishedValue) (lost : ℕ → Suffix → Bool) (m : Standing) (given : FilterValue) (dir save changes extract : List ℕ)
    (start f l : Files) (n : ℕ) → Agrees p lost m given dir save changes extract start f l n → StateCases p given lost (begins_at m) dir extract f
state_cases p lost m given dir save changes extract start f l n s = elim (cases_lt 0 (begins_at m)) [
  | inr none ↦ (let zero_is : begins_at m ≡ 0 = omega (arith, none) in
      inl (inl zero_is, subst (λ k. f (file_name_of dir k State) ≡ None) (sym zero_is) s.zero))
  | inl above ↦ elim (cases_Bool (lost (begins_at m) State)) [
    | inl gone ↦ inl (inr gone, s.each (begins_at m) State above s.saved.within ∙ ap (λ b. unless_lost b (text above)) gone)
    | inr here ↦ inr (
      above,
      here,
      base_of_export p given (begins_at m) extract (file_name_of dir (begins_at m) State) f
          (exported_some p given m.exported extract (start extract) (f extract) above s.saved.extract_is) above s.saved.within
          (some_holds (f (file_name_of dir (begins_at m) State)) (text above)
          (IsStateFile (begins_at m) (sequence_at p (begins_at m)).time)
          (s.each (begins_at m) State above s.saved.within ∙ ap (λ b. unless_lost b (text above)) here)
          (subst (λ k. IsStateFile k (sequence_at p (begins_at m)).time (text above))
          (s.folder.sequences (begins_at m) above s.saved.within).number_is
          (s.right (begins_at m) State above s.saved.within))),
    )
  ]
]
  where
    text : 0 < begins_at m → List ℕ
    text above = text_of State (sequence_at p (begins_at m))

-- ---- a beginning that is done

-- what a history says of the save after a beginning
abbrev pub begun_at : Standing → Standing
begun_at m = record { number = begins_at m; base = begins_at m; is_saved = true; exported = m.exported; cut = None }

-- the same after one that was cut short beside a journal that ends at that number
abbrev pub cut_at : Standing → ℕ → Standing
cut_at m number = record { number = begins_at m; base = begins_at m; is_saved = true; exported = m.exported; cut = Some number }

none_after : (p : List PublishedValue) (k : ℕ) → k ≤ length p → changes_after p k k ≡ []
none_after p k within = ap (flat_map (λ (q : PublishedValue). q.changes)) (drop_all k (take k p) (omega (arith, length-take-le k p within)))

-- what the filter keeps of the objects is the mirror that it kept, and no edits are counted
uncounted : (given : FilterValue) (cs counted objects : List ChangeValue) → IsData objects
    → ((k : Key) → object_at objects k ≡ kept given (content_of cs) k) → counted ≡ []
    → IsOrderly (record { objects = kept_objects given objects; users = []; changesets = [] })
    → IsMirrorOf given cs counted (record { objects = kept_objects given objects; users = []; changesets = [] })
uncounted given cs counted objects are content none orderly = rw none (record {
  orderly = orderly;
  objects = λ k. kept_at given objects are.rising k ∙ (ap (kept_object given) (content k) ∙ extracts_are_enough given (content_of cs) [] k);
  users = λ uid. refl;
  changesets = λ id. refl;
})

-- what a beginning saves is of the number, and is in step with what was published
begun_step : (p : List PublishedValue) (given : FilterValue) (number : ℕ) (extract state : List ℕ) (f : Files)
    → IsKeptBase p given number extract state f → (s : StateValue) (text : List ℕ) (b : IsBeginning given extract state f s text)
    → (s.sequence ≡ number) × IsInStep p given (begun_save given s b.objects)
begun_step p given number extract state f of s text b = (
  ap (λ (u : StateValue). u.sequence) start,
  subst (λ (u : StateValue). IsInStep p given (begun_save given u b.objects)) (sym start) (record {
    within = of.within;
    base = omega arith;
    filter_is = refl;
    mirror = uncounted given (changes_up_to p number) (changes_after p number number) b.objects
        (spelled_data b.base_is.named.form b.base_is.bytes b.objects b.base_is.spelled)
        (λ k. ap (λ (os : List ChangeValue). object_at os k) objects ∙ of.content k) (none_after p number of.within)
        b.spelled.savable.mirror.orderly;
    time = sym (time_next p (number - 1) number (let above = of.above in omega (arith, above)));
  }),
)
  where
    named : StateValue
    named = record { sequence = number; time = (sequence_at p number).time }

    start : s ≡ named
    start = same_start (f state) s named b.start.there of.start

    objects : b.objects ≡ of.objects
    objects = same_base extract (f extract) b.objects of.objects b.base_is of.base_is

pub begin_agrees : (p : List PublishedValue) (lost : ℕ → Suffix → Bool) (m : Standing) (given : FilterValue)
    (dir save changes extract state : List ℕ)
    (start f g l : Files) (n : ℕ) (report : ReportValue) → AreApart dir save changes extract
    → Agrees p lost m given dir save changes extract start f l n → IsKeptBase p given (begins_at m) extract state f → KeptLaws
    → IsBegunBoth given extract state save f g report
    → Agrees p lost (begun_at m) given dir save changes extract start g l n × (report ≡ begin_report_of (begins_at m))
begin_agrees p lost m given dir save changes extract state start f g l n report apart s base laws done = (
  both_agrees p lost m (begun_at m) given dir save changes extract start f g l n apart s done.others (record {
    save_is = record {
      value = value;
      kept = done.kept;
      right = no_bad_journal laws.nothing given save done.text g value done.there done.kept;
      base_is = step.0;
      number_is = step.0;
      in_step = step.1;
    };
    alone = λ v told. subst (IsInStep p given) (one_saved given (g save) value v
        (subst (λ o. IsSaved given o value) (sym done.there) done.beginning.spelled) told) step.1;
    short = short_or_empty max_file save f g done.journal s.saved.short;
    free = λ k other. absurd (done.free k other);
    is_there = ap is_none done.there;
    extract_is = subst (IsExtractOf p given m.exported extract (start extract)) (sym (done.others extract apart.not_saved apart.not_journal))
        s.saved.extract_is;
    within = s.saved.within;
  }),
  done.report_is ∙ ap begin_report_of step.0,
)
  where
    value : Saved
    value = begun_save given done.s done.beginning.objects

    step : (done.s.sequence ≡ begins_at m) × IsInStep p given value
    step = begun_step p given (begins_at m) extract state f base done.s done.text done.beginning

-- a beginning that is cut short beside a journal of another save has begun all the same
pub cut_agrees : (p : List PublishedValue) (lost : ℕ → Suffix → Bool) (m : Standing) (given : FilterValue) (dir save changes extract state : List ℕ)
    (start f g l : Files) (n number : ℕ) → AreApart dir save changes extract → Agrees p lost m given dir save changes extract start f l n
    → IsKeptBase p given (begins_at m) extract state f → KeptLaws → IsCutBeside given extract state save f g number
    → Agrees p lost (cut_at m number) given dir save changes extract start g l n
cut_agrees p lost m given dir save changes extract state start f g l n number apart s base laws cut =
    both_agrees p lost m (cut_at m number) given dir save changes extract start f g l n apart s (λ name other other_journal. cut.put.others name other)
    (record {
      save_is = record {
        value = value;
        kept = kept;
        right = no_bad_journal laws.nothing given save cut.text g value cut.put.there kept;
        base_is = step.0;
        number_is = step.0;
        in_step = step.1;
      };
      alone = λ v told. subst (IsInStep p given) (one_saved given (g save) value v
          (subst (λ o. IsSaved given o value) (sym cut.put.there) cut.beginning.spelled) told) step.1;
      short = subst (λ o. IsOver max_file o → ⊥) (sym (cut.put.others (journal_name_of save) (journal_has_own_name save))) s.saved.short;
      free = λ k other. ap Some (laws.one_other (g save) (g (journal_name_of save)) number k cut.other other);
      is_there = ap is_none cut.put.there;
      extract_is = subst (IsExtractOf p given m.exported extract (start extract)) (sym (cut.put.others extract apart.not_saved)) s.saved.extract_is;
      within = s.saved.within;
    })
  where
    value : Saved
    value = begun_save given cut.s cut.beginning.objects

    step : (cut.s.sequence ≡ begins_at m) × IsInStep p given value
    step = begun_step p given (begins_at m) extract state f base cut.s cut.text cut.beginning

    silent : IsNoJournal (Some cut.text) (g (journal_name_of save))
    silent = subst (λ o. IsNoJournal (Some cut.text) o) (sym cut.other.there) (inr (record {
      value = cut.other.value;
      spells = cut.other.spells;
      other = subst (λ o. BelongsTo cut.other.value o → ⊥) cut.put.there cut.other.other;
    }))

    kept : IsKept given save g value
    kept = subst (λ o. KeptIn given o (g (journal_name_of save)) value) (sym cut.put.there)
        (record { file = cut.text; there = refl; start = value; spells = cut.beginning.spelled; comes = inl (silent, refl) })

-- what one leaves that is refused for another reason
pub plain_leaves : (given : FilterValue) (extract state save : List ℕ) (f g : Files) (fault : RunFault) → IsNoOther fault
    → LeavesBegun given extract state save f g fault → LeavesSave save f g ⊎ IsCutShort given extract state save f g
plain_leaves given extract state save f g (OtherJournal n) none left = absurd none
plain_leaves given extract state save f g fault none left = left

-- a beginning that is cut short wrote the save that was there: it was of the same number, and begun there too
pub cut_leaves : (p : List PublishedValue) (lost : ℕ → Suffix → Bool) (m : Standing) (given : FilterValue) (dir save changes extract state : List ℕ)
    (start f g l : Files) (n : ℕ) → Agrees p lost m given dir save changes extract start f l n → IsKeptBase p given (begins_at m) extract state f
    → IsCutShort given extract state save f g → LeavesAll save f g
cut_leaves p lost m given dir save changes extract state start f g l n s base cut = record {
  kept = λ given v kept. is_kept_same given save f g v same kept;
  journal = inl same.1;
  others = λ name other. (let d = bytes_eq-Decides name save in elim (cases_Bool (bytes_eq name save)) [
    | inl found ↦ (let e : name ≡ save = d.0 found in rw e same.0)
    | inr other_one ↦ cut.put.others name (λ e. (let bad : true ≡ false = sym (d.1 e) ∙ other_one in cc))
  ]);
}
  where
    o : IsOwn p given (f save)
    o = own p given m.base m.number save f s.saved.save_is s.saved.alone

    value : Saved
    value = begun_save given cut.s cut.beginning.objects

    step : (cut.s.sequence ≡ begins_at m) × IsInStep p given value
    step = begun_step p given (begins_at m) extract state f base cut.s cut.text cut.beginning

    one : o.saved.value ≡ value
    one =
        let head = cut.head o.saved.value o.saved.saved in
        one_in_step p given o.saved.value value o.saved.in_step step.1 (ap (λ (x : Head). x.number) head) (ap (λ (x : Head). x.base) head)

    same : SameSave save f g
    same = (
      cut.put.there ∙ (ap (λ (t : List ℕ). Some t) (cut.beginning.text_is ∙ ap (save_text Three) (sym one))
          ∙ sym (cut.version o.saved.value o.saved.saved)),
      cut.put.others (journal_name_of save) (journal_has_own_name save),
    )

-- ---- why a beginning stopped

-- the save that a beginning would write has too many objects
many_to_begin : (p : List PublishedValue) (given : FilterValue) (number : ℕ) (extract state : List ℕ) (f : Files)
    → IsKeptBase p given number extract state f → (objects : List ChangeValue) → IsBase extract (f extract) objects
    → most_kept < length (kept_objects given objects) → HasManyToBegin p given number
many_to_begin p given number extract state f of objects base many =
    let same : objects ≡ of.objects = same_base extract (f extract) objects of.objects base of.base_is in
    let are : IsData objects = spelled_data base.named.form base.bytes objects base.spelled in
    record {
      objects = kept_objects given objects;
      are_data = kept_data given objects are;
      content = λ k. kept_at given objects are.rising k
          ∙ (ap (kept_object given) (ap (λ (os : List ChangeValue). object_at os k) same ∙ of.content k)
          ∙ extracts_are_enough given (content_of (changes_up_to p number)) [] k);
      many = many;
    }

-- what holds of a file that is there
none_holds : (o : Option (List ℕ)) (holds : List ℕ → Type 0) → o ≡ None → IsThere o holds → ⊥
none_holds None holds e h = h
none_holds (Some text) holds e h = (let bad : Some text ≡ None = e in cc)

state_small : (o : Option (List ℕ)) (number time : ℕ) → IsThere o (IsStateFile number time) → IsOver max_state o → ⊥
state_small None number time h over = h
state_small (Some text) number time h over =
    let long = ap length (same_Some _ _ over.there) in
    let most = over.over in
    let small = h.small in
    omega (arith, long, most, small)

state_right : NoFaultBesideState → (o : Option (List ℕ)) (number time : ℕ) (cause : StateError) → IsThere o (IsStateFile number time)
    → IsBadState o cause → ⊥
state_right law None number time cause h bad = h
state_right law (Some text) number time cause h bad = law text _ cause h.names (rw (same_Some text bad.bytes bad.there) bad.fault)

base_right : (extract : List ℕ) (told : Option (List ℕ)) (objects : List ChangeValue) (place : ℕ) → IsBase extract told objects
    → IsBadBase extract told place → ⊥
base_right extract told objects place b bad =
    let form : b.named.form ≡ bad.named.form = one_form extract b.named.form bad.named.form b.named.end bad.named.end in
    let bytes : b.bytes ≡ bad.bytes = same_Some b.bytes bad.bytes (sym b.there ∙ bad.there) in
    bad.nothing objects (subst (λ d. spells_data d bad.bytes objects) form (subst (λ bs. spells_data b.named.form bs objects) bytes b.spelled))

-- the name and the time of the state at which a beginning after the history begins
abbrev pub state_in : List ℕ → hist.History → List ℕ
state_in dir h = file_name_of dir (hist.beginning_of h) State

abbrev pub time_in : hist.History → ℕ
time_in h = (sequence_at (hist.published_of h) (hist.beginning_of h)).time

module _ (h : hist.History) (given : FilterValue) (dir save changes extract : List ℕ) (start f l : Files) (n calls : ℕ)
    (s : Agrees (hist.published_of h) (hist.is_file_lost h) (hist.standing_of h) given dir save changes extract start f l n) where
  cases : StateCases (hist.published_of h) given (hist.is_file_lost h) (hist.beginning_of h) dir extract f
  cases = state_cases (hist.published_of h) (hist.is_file_lost h) (hist.standing_of h) given dir save changes extract start f l n s

  -- the state is there
  pub state_there : (holds : List ℕ → Type 0) → IsThere (f (state_in dir h)) holds
      → (0 < hist.beginning_of h) × (hist.is_file_lost h (hist.beginning_of h) State ≡ false)
      × IsKeptBase (hist.published_of h) given (hist.beginning_of h) extract (state_in dir h) f
  state_there holds there = elim cases [
    | inl gone ↦ absurd (none_holds (f (state_in dir h)) holds gone.1 there)
    | inr here ↦ here
  ]

  pub beginning_has : HasDataForm extract → HasStart (state_in dir h) f → HasBeginning h extract
  beginning_has named start_is =
      let here = state_there (IsStateFile start_is.0.sequence start_is.0.time) start_is.1.there in
      record { named = named; above = here.0; there = here.1 }

  base_is : HasStart (state_in dir h) f → IsKeptBase (hist.published_of h) given (hist.beginning_of h) extract (state_in dir h) f
  base_is start_is = (state_there (IsStateFile start_is.0.sequence start_is.0.time) start_is.1.there).2

  -- what was exported last
  exported_is : HasStart (state_in dir h) f → IsExportOf (hist.published_of h) given (hist.beginning_of h) extract (f extract)
  exported_is start_is =
      exported_some (hist.published_of h) given (hist.exported_of h) extract (start extract) (f extract)
      (state_there (IsStateFile start_is.0.sequence start_is.0.time) start_is.1.there).0 s.saved.extract_is

  -- the data file has the objects that were exported
  exported_objects : (e : IsExportOf (hist.published_of h) given (hist.beginning_of h) extract (f extract)) (objects : List ChangeValue)
      → IsBase extract (f extract) objects → e.objects ≡ objects
  exported_objects e objects is =
      same_base extract (f extract) e.objects objects (record {
        named = e.named;
        bytes = data_text_of e.named.form e.objects;
        there = e.text;
        spelled = written_data e.named.form e.objects e.are_data;
      }) is

  -- none of them is much newer than the state
  pub timely_extract : IsTimely extract (state_in dir h) f → HasTimelyExtract (hist.published_of h) given (hist.beginning_of h) extract
  timely_extract t =
      let has : HasStart (state_in dir h) f = (t.s, t.start) in
      let e = exported_is has in
      let time : t.s.time ≡ time_in h = ap (λ (u : StateValue). u.time) (same_start (f (state_in dir h)) t.s
      (record { sequence = hist.beginning_of h; time = time_in h }) t.start.there (base_is has).start) in
      record {
        told = f extract;
        exported = e;
        within = rw (exported_objects e t.objects t.base_is) (subst (λ n. newest_time t.objects ≤ n + most_after) time t.within);
      }

  lacks_begin : HasStart (state_in dir h) f → HasFewer (begin_kept_calls (bytes_in (f extract))) (Some calls)
      → LacksBeginCalls (hist.published_of h) given (hist.beginning_of h) extract calls
  lacks_begin start_is few = record { told = f extract; exported = exported_is start_is; few = few }

  -- the journal beside the save is above what begins
  pub cut_row : (number : ℕ) → BeginKeptStops (IsTrue true) false given extract (state_in dir h) save f (OtherJournal number)
      → IsCutAt h extract number
  cut_row number r =
      let told : HasAbove (state_in dir h) save f number = r.1 refl in
      let has : HasStart (state_in dir h) f = (told.s, told.start) in
      let same : told.s.sequence ≡ hist.beginning_of h = ap (λ (u : StateValue). u.sequence) (same_start (f (state_in dir h)) told.s
      (record { sequence = hist.beginning_of h; time = time_in h }) told.start.there (base_is has).start) in
      let above = told.above in
      (beginning_has r.0 has, omega (arith, same, above))

  pub begin_row : (fault : RunFault) → IsNoOther fault → LacksCallsToBegin extract (Some calls) f fault → NoFaultBesideState
      → BeginKeptStops (IsTrue true) false given extract (state_in dir h) save f fault → KilledBeginStopsIn given h extract calls fault
  begin_row UnknownForm none lacks law r = r
  begin_row WantOfMemory none lacks law r = tt
  begin_row (ReadFault files.State) none lacks law r = (r, (let none_left : calls < 1 = lacks.first refl in omega (arith, none_left)))
  begin_row (Absent files.State) none lacks law r = (
    refl,
    r.0,
    elim cases [
      | inl gone ↦ gone.0
      | inr here ↦ absurd (none_holds (f (state_in dir h)) (IsStateFile (hist.beginning_of h) (time_in h)) (r.1 refl) here.2.start)
    ],
  )
  begin_row (TooLarge files.State) none lacks law r = elim cases [
    | inl gone ↦ absurd (let over = r.1 refl in let there = over.there in let bad : None ≡ Some over.bytes = sym gone.1 ∙ there in cc)
    | inr here ↦ absurd (state_small (f (state_in dir h)) (hist.beginning_of h) (time_in h) here.2.start (r.1 refl))
  ]
  begin_row (BadState files.State cause) none lacks law r = elim cases [
    | inl gone ↦ absurd (let wrong = r.1 refl in let there = wrong.there in let bad : None ≡ Some wrong.bytes = sym gone.1 ∙ there in cc)
    | inr here ↦ absurd (state_right law (f (state_in dir h)) (hist.beginning_of h) (time_in h) cause here.2.start (r.1 refl))
  ]
  begin_row ZeroBase none lacks law r =
      let zero = r.1 refl in
      let here = state_there (IsStateFile 0 zero.0) zero.1 in
      let zero_state : StateValue = record { sequence = 0; time = zero.0 } in
      let named : StateValue = record { sequence = hist.beginning_of h; time = (time_in h) } in
      let same : 0 ≡ hist.beginning_of h = ap (λ (u : StateValue). u.sequence) (same_start (f (state_in dir h)) zero_state named zero.1 here.2.start) in
      let above : 0 < hist.beginning_of h = here.0 in
      absurd (omega (arith, same, above))
  begin_row (ReadFault Save) none lacks law r = (tt, beginning_has r.0 (r.1 refl), lacks_begin (r.1 refl) (lacks.all tt))
  begin_row (ReadFault Journal) none lacks law r = (tt, beginning_has r.0 (r.1 refl), lacks_begin (r.1 refl) (lacks.all tt))
  begin_row (WriteFault Journal) none lacks law r = (tt, beginning_has r.0 (r.1 refl), lacks_begin (r.1 refl) (lacks.all tt))
  begin_row (TooLarge Journal) none lacks law r = absurd (s.saved.short (r.1 refl).1)
  begin_row (ReadFault Base) none lacks law r = (beginning_has r.0 (r.1 refl), lacks_begin (r.1 refl) (lacks.all tt))
  begin_row (Absent Base) none lacks law r =
      let told = r.1 refl in
      let is = base_is told.0 in
      absurd (let bad : None ≡ Some is.base_is.bytes = sym told.1 ∙ is.base_is.there in cc)
  begin_row (TooLarge Base) none lacks law r =
      let told = r.1 refl in
      (beginning_has r.0 told.0, record { told = f extract; exported = exported_is told.0; large = told.1 })
  begin_row (BadChange Base place why) none lacks law r =
      let told = r refl in
      let is = base_is told.0 in
      absurd (base_right extract (f extract) is.objects place is.base_is told.1)
  begin_row (TooLarge Save) none lacks law r =
      let big = r refl in
      let has : HasStart (state_in dir h) f = (big.s, big.start) in (
        refl,
        beginning_has big.base_is.named has,
        many_to_begin (hist.published_of h) given (hist.beginning_of h) extract (state_in dir h) f (base_is has) big.objects big.base_is big.many,
      )
  begin_row (WriteFault Save) none lacks law r =
      let told = r refl in
      let has : HasStart (state_in dir h) f = (told.s, told.start) in
      (tt, beginning_has told.base_is.named has, lacks_begin has (lacks.all tt))
  begin_row (Changed Base) none lacks law r = absurd (r refl)
  begin_row (OlderState time newest) none lacks law r =
      let old = r.2 refl in
      let has : HasStart (state_in dir h) f = (old.s, old.start) in
      let e = exported_is has in (
        beginning_has r.1 has,
        record {
          told = f extract;
          exported = e;
          time_is = sym (ap (λ (u : StateValue). u.time) (same_start (f (state_in dir h)) old.s (record { sequence = hist.beginning_of h; time = time_in h })
              old.start.there (base_is has).start)) ∙ old.time_is;
          newest_is = ap newest_time (exported_objects e old.objects old.base_is) ∙ old.newest_is;
          after = old.after;
        },
      )
  begin_row (OtherJournal number) none lacks law r = absurd none
  begin_row fault none lacks law r = absurd r

pub not_killed_begin : (given : FilterValue) (h : hist.History) (extract : List ℕ) (calls : ℕ) (fault : RunFault) → IsNoDevice fault
    → KilledBeginStopsIn given h extract calls fault → BeginStopsIn given h extract fault
not_killed_begin given h extract calls (ReadFault file) none r = absurd none
not_killed_begin given h extract calls (WriteFault file) none r = absurd none
not_killed_begin given h extract calls fault none r = r
