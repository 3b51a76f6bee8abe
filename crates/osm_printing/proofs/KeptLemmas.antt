-- What a save and its journal keep, when it is shown.
use Rattle.std.proofs.Common.{◌≡◌, ℕ, List, [], Option, Some, None, inl, inr, refl, sym, ap, subst, ◌∙◌}
use Rattle.std.specs.Prelude.{Bool, Err, IfErr, IsTrue, Ok, OnOk, Result}
use Rattle.osm_publisher.specs.Published.{PublishedValue, time_at}
use Rattle.osm_model.specs.Filter.{FilterValue}
use Rattle.osm_save.specs.Save.{SpellsSave}
use Rattle.osm_save.specs.declared.head.Head.{Head}
use Rattle.osm_save.specs.declared.save.Saved.{Saved}
use Rattle.osm_store.specs.Files.{Files}
use Rattle.osm_store.specs.Frames.{IsKnown, StoreState}
use Rattle.osm_kept.specs.Finding.{IsJournalFile, bytes_of}
use Rattle.osm_kept.specs.Kept.{IsNoJournal, IsOfAnother, Keeps}
use Rattle.osm_kept.specs.Laws.{OneIsKept, SavedIsKept}
use Rattle.osm_kept.specs.Laying.{LaysOver, start_for}
use Rattle.osm_kept.specs.Names.{journal_name_of}
use Rattle.osm_kept.specs.Refusal.{HasNoOther, KeptStops}
use Rattle.osm_kept.specs.declared.fault.KeptFault.{KeptFault}
use Rattle.osm_kept.specs.declared.fault.KeptFault.TheVariants as kept
use Rattle.osm_kept.specs.declared.found.JournalFile.{JournalFile}
use Rattle.osm_kept.specs.declared.found.JournalFile.TheVariants.{Counts, Nothing, OfAnother}
use Rattle.osm_kept.specs.declared.laid.Laid.{Laid}
use Rattle.osm_kept.proofs.KeptLemmas.{no_bytes}
use Rattle.osm_runs.specs.Checking.{ReadStops}
use Rattle.osm_runs.specs.Keeping.{IsKeptOf, KeptIn, kept_fault_of}
use Rattle.osm_runs.specs.Reports.{ReportValue}
use Rattle.osm_runs.specs.declared.fault.FileName.TheVariants.{Journal}
use Rattle.osm_runs.specs.declared.fault.RunFault.{RunFault}
use Rattle.osm_runs.specs.declared.fault.RunFault.TheVariants.{Absent, BadJournal, OtherJournal, ReadFault, TooLarge}
use Rattle.osm_runs.proofs.KeepingLemmas.{one_is_kept}
use Rattle.osm_printing.specs.Keeping.{IsKeptNotPrinted, IsKeptPrinted, IsKeptShown, IsShowOfKept, KeepingStops}
use Rattle.osm_printing.specs.Printing.{IsNotPrinted, IsPrinted, IsShowReport, IsShown, IsShownOf, view_of_saved}
use Rattle.osm_printing.specs.Steps.Laying.{HasHead}

-- ---- in step

kept_under : (given : FilterValue) (told journal : Option (List ℕ)) (v : Saved) → Keeps told journal v → KeptIn given told journal v
kept_under given None journal v k = absurd (let bad = k.there in cc)
kept_under given (Some bytes) journal v k = k

pub kept_shown_of : OneIsKept → (given : FilterValue) (ps : List PublishedValue) (base number : ℕ) (save : List ℕ) (files : Files) (report : ReportValue)
    → IsKeptOf ps given base number save files → IsKeptShown (files save) (files (journal_name_of save)) report
    → IsShownOf ps given base number report
kept_shown_of one given ps base number save files report saved shown =
    let same : shown.value ≡ saved.value = one_is_kept one given save files shown.value saved.value
    (kept_under given (files save) (files (journal_name_of save)) shown.value shown.kept) saved.kept in
    let step = saved.in_step in
    record {
      view = view_of_saved shown.value;
      number_is = ap (λ (v : Saved). v.number) same ∙ saved.number_is;
      base_is = ap (λ (v : Saved). v.base) same ∙ saved.base_is;
      time = ap (λ (v : Saved). v.time) same ∙ (step.time ∙ ap (time_at ps) saved.number_is);
      mirror = rw (same, ← saved.number_is, ← saved.base_is) step.mirror;
      held = refl;
      report_is = shown.report_is;
    }

pub show_of_kept : OneIsKept → (known : Type 0) (save : List ℕ) (files : Files) (report : ReportValue) (form : IsShowReport report)
    → (known → IsKeptShown (files save) (files (journal_name_of save)) report) → IsShowOfKept known save files report
show_of_kept one known save files report form shown = record {
  shown = shown;
  in_step = λ yes ps given base number is. kept_shown_of one given ps base number save files report is (shown yes);
  form = form;
}

-- ---- faults

-- those of reading a save that is there
pub keeping_stops : (known : Type 0) (save : List ℕ) (files : Files) (fault : RunFault) → (known → files save ≡ None → ⊥)
    → ReadStops known (files save) fault → KeepingStops known save files fault
keeping_stops known save files (ReadFault file) there h = inl h
keeping_stops known save files (TooLarge Journal) there h = absurd (let e = h.0 in cc)
keeping_stops known save files (BadJournal line) there h = absurd h
keeping_stops known save files (OtherJournal number) there h = absurd h
keeping_stops known save files (Absent file) there h = (h.0, λ yes. absurd (there yes (h.1 yes)))
keeping_stops known save files fault there h = h

-- those of reading what the journal lays over it
pub laid_stop : (known : Type 0) (save : List ℕ) (files : Files) (p : Option (List ℕ)) (fault : KeptFault)
    → (known → KeptStops (files save) (files (journal_name_of save)) fault) → IsKeptNotPrinted known save files p p (kept_fault_of fault)
laid_stop known save files p fault h = inl (record { stops = stops fault h; nothing = refl })
  where
    stops : (fault : KeptFault) → (known → KeptStops (files save) (files (journal_name_of save)) fault)
        → KeepingStops known save files (kept_fault_of fault)
    stops kept.JournalFailed h = inr refl
    stops kept.JournalTooLarge h = h
    stops (kept.BadJournal line) h = h
    stops kept.SaveFailed h = inl refl
    stops (kept.OtherJournal number) h = h
    stops kept.Changed h = (refl, h)
    stops (kept.BadSave line) h = λ yes. (let bad = h yes in record { file = bad.file; there = bad.there; none = bad.none })
    stops kept.WantOfMemory h = tt

-- ---- what the journal lays over the save

pub laid_there : (told journal : Option (List ℕ)) (laid : Laid) → LaysOver told journal laid → told ≡ None → ⊥
laid_there told journal laid h none =
    let starts = h.finds.kept_is.starts in
    (let bad : ◌≡◌ {A = Option (List ℕ)} None (Some starts.file) = sym none ∙ starts.there in cc)

same_start : (file : JournalFile) (read start : Head) → start_for file read ≡ Some start → read ≡ start
same_start (Counts bytes) read start is = cc
same_start Nothing read start is = absurd cc
same_start OfAnother read start is = absurd cc

-- the head that the save has to have is the one that it has
pub starts_so : (told journal : Option (List ℕ)) (laid : Laid) (start : Head) → LaysOver told journal laid → laid.start ≡ Some start → HasHead told start
starts_so told journal laid start h is = λ file saved there spells.
    let starts = h.finds.kept_is.starts in
    let same : file ≡ starts.file = (let e : Some file ≡ Some starts.file = sym there ∙ starts.there in cc) in
    (starts.is saved (subst (λ (f : List ℕ). SpellsSave f saved) same spells)).head ∙ same_start h.file h.start.head start (sym h.given ∙ is)

silent_other : (told journal : Option (List ℕ)) → IsOfAnother told (bytes_of journal) → IsNoJournal told journal
silent_other told None h = tt
silent_other told (Some bytes) h = inr h

silent_of : (told journal : Option (List ℕ)) (laid : Laid) → LaysOver told journal laid → laid.start ≡ None → IsNoJournal told journal
silent_of told journal laid h none = by_file h.file refl h.finds.journal_is
  where
    by_file : (file : JournalFile) → h.file ≡ file → IsJournalFile told journal file → IsNoJournal told journal
    by_file Nothing e is = no_bytes told journal is
    by_file OfAnother e is = silent_other told journal is
    by_file (Counts bytes) e is = absurd
        (let bad : ◌≡◌ {A = Option Head} None (Some h.start.head) = sym none ∙ (h.given ∙ ap (λ (j : JournalFile). start_for j h.start.head) e) in cc)

-- ---- beside a journal that says nothing

module _ (one : OneIsKept) (law : SavedIsKept) (known : Type 0) (save : List ℕ) (files : Files) (laid : Laid) (p q : Option (List ℕ))
    (lays : known → LaysOver (files save) (files (journal_name_of save)) laid) (free : known → HasNoOther (files save) (files (journal_name_of save)))
    (none : laid.start ≡ None) where
  alone_shown : known → (report : ReportValue) → IsShown (files save) report → IsKeptShown (files save) (files (journal_name_of save)) report
  alone_shown sure report s =
      let journal = files (journal_name_of save) in
      record {
        value = s.saved;
        kept = subst (λ (t : Option (List ℕ)). Keeps t journal s.saved) (sym s.there) (law s.bytes journal s.saved s.spelled
            (subst (λ (t : Option (List ℕ)). IsNoJournal t journal) s.there (silent_of (files save) journal laid (lays sure) none)));
        free = free sure;
        report_is = s.report_is;
      }

  pub alone_printed : {T : Type 0} (r : Result T RunFault) → OnOk r (IsPrinted known (files save) p q) → OnOk r (IsKeptPrinted known save files p q)
  alone_printed (Ok x) h = record {
    report = h.report;
    is = show_of_kept one known save files h.report h.is.form (λ yes. alone_shown yes h.report (h.is.shown yes));
    all = h.all;
  }
  alone_printed (Err fault) h = tt

  alone_fault : (fault : RunFault) → IsNotPrinted known (files save) p q fault → IsKeptNotPrinted known save files p q fault
  alone_fault fault (inl h) = inl (record {
    stops = keeping_stops known save files fault (λ yes. laid_there (files save) (files (journal_name_of save)) laid (lays yes)) h.stops;
    nothing = h.nothing;
  })
  alone_fault fault (inr h) = inr (record {
    report = h.report;
    is = show_of_kept one known save files h.report h.is.form (λ yes. alone_shown yes h.report (h.is.shown yes));
    stops = h.stops;
    count = h.count;
    some = h.some;
  })

  pub alone_not_printed : {T : Type 0} (r : Result T RunFault) → IfErr r (IsNotPrinted known (files save) p q)
      → IfErr r (IsKeptNotPrinted known save files p q)
  alone_not_printed (Ok x) h = tt
  alone_not_printed (Err fault) h = alone_fault fault h

-- ---- the same files, as they were before

pub same_files : (a b : StoreState) (P : Type 0 → Files → Type 0) → b.files ≡ a.files → b.is_known ≡ a.is_known
    → P (IsKnown b) b.files → P (IsKnown a) a.files
same_files a b P files known h =
    subst (P (IsKnown a)) files (subst (λ (k : Bool). P (IsTrue k) b.files) known h)
