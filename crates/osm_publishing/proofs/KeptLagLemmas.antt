-- A lag of what a save and its journal keep, and why none is told.
use Rattle.std.proofs.Common.{◌≡◌, ℕ, ◌+◌, List, [], length, Option, Some, None, inl, arith, refl, sym, ap, subst, ◌∙◌}
use Rattle.std.specs.Prelude.{Result, IfErr, IfOk}
use Rattle.std.proofs.lemmas.Option.{same_Some}
use Rattle.osm_model.specs.Filter.{FilterValue}
use Rattle.osm_save.specs.Head.{head_of}
use Rattle.osm_save.specs.declared.head.Head.{Head}
use Rattle.osm_save.specs.declared.save.Saved.{Saved}
use Rattle.osm_state.specs.State.{StateValue}
use Rattle.osm_state.specs.StateLaws.{NoFaultBesideState}
use Rattle.osm_follow.specs.Lag.{AreSeconds}
use Rattle.osm_publisher.specs.Published.{PublishedValue, sequence_at, time_at}
use Rattle.osm_store.specs.Files.{Files}
use Rattle.osm_store.specs.Frames.{IsKnown, StoreState}
use Rattle.osm_kept.specs.Finding.{bytes_of}
use Rattle.osm_kept.specs.Laws.{EmptyIsNoOther, OneIsOther, OpensAsOther, OpensBad}
use Rattle.osm_kept.specs.Names.{journal_name_of}
use Rattle.osm_kept.specs.Refusal.{IsNoJournalText, IsNoSave, IsOther, LacksCalls, OpensAbove}
use Rattle.osm_kept.specs.declared.fault.KeptFault.{KeptFault}
use Rattle.osm_kept.specs.declared.fault.KeptFault.TheVariants as kept
use Rattle.osm_runs.specs.Folder.{IsFolderOf, IsStateFile, IsThere}
use Rattle.osm_runs.specs.Keeping.{HasNoBadJournal, IsKeptOf, KeptIn, kept_fault_of}
use Rattle.osm_publishing.specs.KeptLag.{ComeToHead, IsKeptHead, IsKeptLag, IsKeptLagIn, IsLagAlone}
use Rattle.osm_publishing.specs.KeptLag.{KeptLagOut, KeptLagStops, KeptLagStopsIn, LagStopsAlone, LagsAlone}
use Rattle.osm_runs.specs.Following.{standing_at}
use Rattle.osm_publishing.specs.Lagging.{IsLagOf, LagStopsOver, LagsOver}
use Rattle.osm_runs.specs.Following.{no_head, standing_from}
use Rattle.osm_runs.specs.Names.{top_name_of}
use Rattle.osm_runs.specs.Reports.{ReportValue, lag_told}
use Rattle.osm_publishing.specs.Steps.Lagging.{IsTold}
use Rattle.osm_runs.specs.declared.fault.FileName.TheVariants.{Journal, Save, Top}
use Rattle.osm_runs.specs.declared.fault.RunFault.{RunFault}
use Rattle.osm_runs.specs.declared.fault.RunFault.TheVariants.{Absent, BadJournal, BadSave, BadState, Changed, OtherJournal, ReadFault}
use Rattle.osm_runs.specs.declared.fault.RunFault.TheVariants.{TimeBehind, TooLarge, TopBehind, WantOfMemory}
use Rattle.osm_runs.specs.declared.options.Layout.{Layout}
use Rattle.osm_runs.proofs.InStepLemmas.{top_number, top_time}
use Rattle.osm_runs.proofs.TopLemmas.{good_top, none_published, small_top}
use Rattle.osm_runs.proofs.ResultLemmas.{err_map, ok_map}

-- ---- the head of what is kept

pub head_kept : (given : FilterValue) (told journal : Option (List ℕ)) (head : Head) (v : Saved) → ComeToHead told journal head
    → KeptIn given told journal v → head ≡ head_of v
head_kept given None journal head v h k = h.0 ∙ ap head_of (sym k)
head_kept given (Some bytes) journal head v h k = sym (h.only v k)

pub kept_lag_told : (layout : Layout) (dir save : List ℕ) (files : Files) (start : Head) (top : StateValue) (report : ReportValue)
    → IsKeptHead save files start → IsThere (files (top_name_of dir)) (IsStateFile top.sequence top.time) → IsTold layout start top report
    → IsKeptLag layout dir save files report
kept_lag_told layout dir save files start top report head there told = record {
  start = start;
  top = top;
  begun = record { head = head; top_is = there };
  kept = λ given v k. head_kept given (files save) (files (journal_name_of save)) start v head k;
  behind = told.behind;
  seconds = told.seconds;
  behind_is = told.behind_is;
  seconds_are = told.seconds_are;
  report_is = told.report_is;
}

-- ---- why no head is read, by the calls that were left

pub kept_out : (fault : KeptFault) (left : Option ℕ) → LacksCalls fault left → KeptLagOut left (kept_fault_of fault)
kept_out kept.JournalFailed left h = h
kept_out kept.JournalTooLarge left h = tt
kept_out (kept.BadJournal line) left h = tt
kept_out (kept.OtherJournal number) left h = tt
kept_out kept.SaveFailed left h = h
kept_out (kept.BadSave line) left h = tt
kept_out kept.Changed left h = tt
kept_out kept.WantOfMemory left h = tt

-- ---- over the folder of what was published

kept_time : (given : FilterValue) (ps : List PublishedValue) (base number : ℕ) (save : List ℕ) (files : Files)
    (k : IsKeptOf ps given base number save files) → k.value.time ≡ time_at ps number
kept_time given ps base number save files k = k.in_step.time ∙ ap (time_at ps) k.number_is

standing_is : (ps : List PublishedValue) (base number : ℕ) (head : Head) (top : StateValue) → head.number ≡ number → head.time ≡ time_at ps number
    → head.base ≡ base → top.sequence ≡ length ps → top.time ≡ (sequence_at ps (length ps)).time
    → standing_from head top ≡ standing_at ps base number
standing_is ps base number head top n t b q w = rw (n, t, b, q, w) refl

pub kept_lag_of : (layout : Layout) (given : FilterValue) (ps : List PublishedValue) (base number : ℕ) (dir save : List ℕ) (files : Files)
    (report : ReportValue) → IsFolderOf ps files dir → IsKeptOf ps given base number save files → IsKeptLag layout dir save files report
    → IsLagOf layout ps base number report
kept_lag_of layout given ps base number dir save files report folder k lag =
    let same : lag.start ≡ head_of k.value = lag.kept given k.value k.kept in
    let start_is : lag.start.number ≡ number = ap (λ (h : Head). h.number) same ∙ k.number_is in
    let time_is : lag.start.time ≡ time_at ps number = ap (λ (h : Head). h.time) same ∙ kept_time given ps base number save files k in
    let top_is : lag.top.sequence ≡ length ps = top_number ps (files (top_name_of dir)) lag.top folder.sequences folder.top lag.begun.top_is in
    let top_at : lag.top.time ≡ (sequence_at ps (length ps)).time = top_time ps (files (top_name_of dir)) lag.top folder.top lag.begun.top_is in
    let base_is : lag.start.base ≡ base = ap (λ (h : Head). h.base) same ∙ k.base_is in
    record {
      behind = lag.behind;
      seconds = lag.seconds;
      behind_is = rw (← start_is, ← top_is) lag.behind_is;
      seconds_are = rw (← time_is, ← top_at) lag.seconds_are;
      report_is = lag.report_is ∙ ap (λ x. lag_told layout x lag.behind lag.seconds)
          (standing_is ps base number lag.start lag.top start_is time_is base_is top_is top_at);
    }

-- something is kept of a save text alone
no_bad_save : (given : FilterValue) (told journal : Option (List ℕ)) (v : Saved) → KeptIn given told journal v → IsNoSave told → ⊥
no_bad_save given None journal v k bad = (let e = bad.there in cc)
no_bad_save given (Some bytes) journal v k bad = bad.none k.start (rw (same_file k.there bad.there) at k.spells)
  where
    same_file : {a b : List ℕ} → Some bytes ≡ Some a → Some bytes ≡ Some b → a ≡ b
    same_file {a} {b} p q = sym (same_Some bytes a p) ∙ same_Some bytes b q

no_bad_text : (save : List ℕ) (files : Files) → HasNoBadJournal save files → IsNoJournalText (files (journal_name_of save)) → ⊥
no_bad_text save files right bad = right 0 (record { bytes = bad.bytes; there = bad.there; some = bad.some; bad = inl bad.none })

pub kept_lag_refuses : (given : FilterValue) (ps : List PublishedValue) (base number : ℕ) (dir save : List ℕ) (files : Files) (known : Type 0)
    (fault : RunFault) → NoFaultBesideState → OpensBad → known → IsFolderOf ps files dir → IsKeptOf ps given base number save files
    → KeptLagStops known dir save files fault → LagStopsOver ps number save files fault
kept_lag_refuses given ps base number dir save files known WantOfMemory law opens sure folder k h = tt
kept_lag_refuses given ps base number dir save files known (ReadFault file) law opens sure folder k h = tt
kept_lag_refuses given ps base number dir save files known (BadSave line) law opens sure folder k h =
    no_bad_save given (files save) (files (journal_name_of save)) k.value k.kept (h sure)
kept_lag_refuses given ps base number dir save files known (BadJournal line) law opens sure folder k h = no_bad_text save files k.right (h sure)
kept_lag_refuses given ps base number dir save files known (OtherJournal last) law opens sure folder k h =
    λ free. k.right 0 (opens (files save) (files (journal_name_of save)) last 0 (h sure) free)
kept_lag_refuses given ps base number dir save files known (Changed Save) law opens sure folder k h = h sure
kept_lag_refuses given ps base number dir save files known (TooLarge Journal) law opens sure folder k h = h sure
kept_lag_refuses given ps base number dir save files known (Absent Top) law opens sure folder k h =
    (refl, none_published ps (files (top_name_of dir)) folder.top (h sure).1)
kept_lag_refuses given ps base number dir save files known (TooLarge Top) law opens sure folder k h =
    small_top ps (files (top_name_of dir)) folder.top (h sure).1
kept_lag_refuses given ps base number dir save files known (BadState Top cause) law opens sure folder k h =
    good_top law ps (files (top_name_of dir)) cause folder.top (h sure).1
kept_lag_refuses given ps base number dir save files known TopBehind law opens sure folder k h =
    let b = h sure in
    let same : b.start ≡ head_of k.value = head_kept given (files save) (files (journal_name_of save)) b.start k.value b.begun.head k.kept in
    let start_is = ap (λ (h : Head). h.number) same in
    let top_is = top_number ps (files (top_name_of dir)) b.top folder.sequences folder.top b.begun.top_is in
    let within = k.in_step.within in
    let below = b.below in
    omega (arith, start_is, top_is, within, below)
kept_lag_refuses given ps base number dir save files known TimeBehind law opens sure folder k h =
    let b = h sure in
    let same : b.start ≡ head_of k.value = head_kept given (files save) (files (journal_name_of save)) b.start k.value b.begun.head k.kept in
    let time_is : b.start.time ≡ time_at ps number = ap (λ (h : Head). h.time) same ∙ kept_time given ps base number save files k in
    let top_at : b.top.time ≡ (sequence_at ps (length ps)).time = top_time ps (files (top_name_of dir)) b.top folder.top b.begun.top_is in
    (b.time, sym time_is ∙ b.time_is, rw (← top_at) b.below)
kept_lag_refuses given ps base number dir save files known fault law opens sure folder k h = absurd h

pub lags_over : (store : StoreState) (layout : Layout) (given : FilterValue) (ps : List PublishedValue) (base number : ℕ) (dir save : List ℕ)
    (result : Result ReportValue RunFault) → NoFaultBesideState → OpensBad → IsKnown store → IsFolderOf ps store.files dir
    → IsKeptOf ps given base number save store.files → IfOk result (IsKeptLagIn store layout dir save)
    → IfErr result (KeptLagStopsIn store dir save) → LagsOver layout ps base number save store.files result
lags_over store layout given ps base number dir save result law opens sure folder k lag stops = record {
  in_step = ok_map _ _ result lag (λ report told. kept_lag_of layout given ps base number dir save store.files report folder k (told sure));
  refuses = err_map _ _ result stops (λ fault h.
      kept_lag_refuses given ps base number dir save store.files (IsKnown store) fault law opens sure folder k h);
}

-- ---- without a save

no_head_beside : EmptyIsNoOther → (told journal : Option (List ℕ)) (head : Head) (number : ℕ) → told ≡ None → ComeToHead told journal head
    → IsOther None journal number → ⊥
no_head_beside empty told journal head number none come is =
    let both : (head ≡ no_head) × (bytes_of journal ≡ []) = subst (λ (t : Option (List ℕ)). ComeToHead t journal head) none come in
    empty None journal both.1 number is

alone_report : (layout : Layout) (start : Head) (top : StateValue) (behind : ℕ) (seconds : Option ℕ) (report : ReportValue) → start ≡ no_head
    → start.number + behind ≡ top.sequence → AreSeconds start.time top.time seconds
    → report ≡ lag_told layout (standing_from start top) behind seconds → report ≡ lag_told layout (standing_from no_head top) top.sequence None
alone_report layout start top behind seconds report is b s r =
    let number : start.number ≡ 0 = ap (λ (h : Head). h.number) is in
    let same : behind ≡ top.sequence = omega (arith, number, b) in
    let none : seconds ≡ None = subst (λ (h : Head). AreSeconds h.time top.time seconds) is s in
    r ∙ (ap (λ (h : Head). lag_told layout (standing_from h top) behind seconds) is
    ∙ (ap (λ (n : ℕ). lag_told layout (standing_from no_head top) n seconds) same
    ∙ ap (λ (o : Option ℕ). lag_told layout (standing_from no_head top) top.sequence o) none))

lag_alone : (layout : Layout) (dir save : List ℕ) (files : Files) (report : ReportValue) → files save ≡ None → IsKeptLag layout dir save files report
    → IsLagAlone layout dir (files (journal_name_of save)) files report
lag_alone layout dir save files report none lag =
    let both : (lag.start ≡ no_head) × (bytes_of (files (journal_name_of save)) ≡ []) =
    subst (λ (t : Option (List ℕ)). ComeToHead t (files (journal_name_of save)) lag.start) none lag.begun.head in
    record {
      none = both.1;
      top = lag.top;
      top_is = lag.begun.top_is;
      report_is = alone_report layout lag.start lag.top lag.behind lag.seconds report both.0 lag.behind_is lag.seconds_are lag.report_is;
    }

one_last : OneIsOther → OpensAsOther → (told journal : Option (List ℕ)) (last number : ℕ) → told ≡ None → OpensAbove told journal last
    → IsOther None journal number → last ≡ number
one_last one opens told journal last number none above is =
    one None journal last number
    (opens None journal last is.bytes is.value (subst (λ (t : Option (List ℕ)). OpensAbove t journal last) none above) is.there is.spells) is

no_bad_journal : (journal : Option (List ℕ)) (number : ℕ) → IsNoJournalText journal → IsOther None journal number → ⊥
no_bad_journal journal number bad is =
    let same : Some bad.bytes ≡ Some is.bytes = sym bad.there ∙ is.there in
    bad.none is.value (rw (same_Some bad.bytes is.bytes same) is.spells)

record LastLaws : Type 0 where
  pub one : OneIsOther
  pub opens : OpensAsOther
  pub empty : EmptyIsNoOther

alone_refuses : LastLaws → (dir save : List ℕ) (files : Files) (known : Type 0) (fault : RunFault) (number : ℕ) → known → files save ≡ None
    → KeptLagStops known dir save files fault → IsOther None (files (journal_name_of save)) number → LagStopsAlone number fault
alone_refuses laws dir save files known WantOfMemory number sure none h is = tt
alone_refuses laws dir save files known (ReadFault file) number sure none h is = tt
alone_refuses laws dir save files known (OtherJournal last) number sure none h is =
    one_last laws.one laws.opens (files save) (files (journal_name_of save)) last number none (h sure) is
alone_refuses laws dir save files known (BadSave line) number sure none h is = (let bad = sym none ∙ (h sure).there in cc)
alone_refuses laws dir save files known (BadJournal line) number sure none h is =
    no_bad_journal (files (journal_name_of save)) number (h sure) is
alone_refuses laws dir save files known (TooLarge Journal) number sure none h is = h sure
alone_refuses laws dir save files known (Changed Save) number sure none h is = h sure
alone_refuses laws dir save files known (Absent Top) number sure none h is =
    let head = (h sure).0 in
    no_head_beside laws.empty (files save) (files (journal_name_of save)) head.0 number none head.1 is
alone_refuses laws dir save files known (TooLarge Top) number sure none h is =
    let head = (h sure).0 in
    no_head_beside laws.empty (files save) (files (journal_name_of save)) head.0 number none head.1 is
alone_refuses laws dir save files known (BadState Top cause) number sure none h is =
    let head = (h sure).0 in
    no_head_beside laws.empty (files save) (files (journal_name_of save)) head.0 number none head.1 is
alone_refuses laws dir save files known TopBehind number sure none h is =
    let b = h sure in
    no_head_beside laws.empty (files save) (files (journal_name_of save)) b.start number none b.begun.head is
alone_refuses laws dir save files known TimeBehind number sure none h is =
    let b = h sure in
    no_head_beside laws.empty (files save) (files (journal_name_of save)) b.start number none b.begun.head is
alone_refuses laws dir save files known fault number sure none h is = absurd h

pub lags_alone : (store : StoreState) (layout : Layout) (dir save : List ℕ) (result : Result ReportValue RunFault) → OneIsOther → OpensAsOther
    → EmptyIsNoOther → IsKnown store → store.files save ≡ None → IfOk result (IsKeptLagIn store layout dir save)
    → IfErr result (KeptLagStopsIn store dir save) → LagsAlone layout dir (store.files (journal_name_of save)) store.files result
lags_alone store layout dir save result one opens empty sure none lag stops = record {
  told = ok_map _ _ result lag (λ report told. lag_alone layout dir save store.files report none (told sure));
  refuses = err_map _ _ result stops (λ fault h number is.
      alone_refuses (record { one = one; opens = opens; empty = empty }) dir save store.files (IsKnown store) fault number sure none h is);
}
