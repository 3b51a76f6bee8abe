-- What a save and its journal keep, when its objects are exported.
use Rattle.std.proofs.Common.{◌≡◌, ℕ, ◌+◌, List, length, Option, Some, None, refl, sym, subst, ◌∙◌, arith}
use Rattle.std.specs.Prelude.{◌≤◌, Bool, Err, IsTrue, Ok, Result}
use Rattle.osm_model.specs.Filter.{FilterValue}
use Rattle.osm_mirror.specs.Mirror.{IsMirrorOf}
use Rattle.osm_publisher.specs.Published.{PublishedValue, changes_after, changes_up_to}
use Rattle.osm_net.specs.Lists.{net_in}
use Rattle.osm_net.specs.Net.{IsNet}
use Rattle.osm_save.specs.declared.save.Saved.{Saved}
use Rattle.osm_store.specs.Files.{Files, SpendsAtMost}
use Rattle.osm_store.specs.Frames.{IsKnown, MakesAtMost, ReadsBetween, StoreState}
use Rattle.osm_store.proofs.FrameLemmas.{at_most_both}
use Rattle.osm_merge.specs.Calls.{bytes_in}
use Rattle.osm_kept.specs.Finding.{KeepsAs, kept_after}
use Rattle.osm_kept.specs.Kept.{Keeps}
use Rattle.osm_kept.specs.Laws.{OneIsKept}
use Rattle.osm_kept.specs.Laying.{LaysOver, kept_in}
use Rattle.osm_kept.specs.Names.{journal_name_of}
use Rattle.osm_kept.specs.Refusal.{HasNoOther, KeptStops}
use Rattle.osm_kept.specs.declared.fault.KeptFault.{KeptFault}
use Rattle.osm_kept.specs.declared.fault.KeptFault.TheVariants as kept
use Rattle.osm_kept.specs.declared.laid.Laid.{Laid}
use Rattle.osm_runs.specs.Checking.{IsSaveText}
use Rattle.osm_runs.specs.DataForms.{HasDataEnd, HasDataForm}
use Rattle.osm_runs.specs.Keeping.{IsKeptOf, KeptIn, kept_fault_of}
use Rattle.osm_runs.specs.Runs.{IsDeviceFault}
use Rattle.osm_runs.specs.declared.data_form.DataForm.{DataForm}
use Rattle.osm_runs.specs.declared.fault.FileName.TheVariants.{Journal}
use Rattle.osm_runs.specs.declared.fault.RunFault.{RunFault}
use Rattle.osm_runs.specs.declared.fault.RunFault.TheVariants.{Absent, BadSave, Changed, ReadFault, TooLarge, WantOfMemory, WriteFault}
use Rattle.osm_runs.proofs.KeepingLemmas.{one_is_kept}
use Rattle.osm_exporting.specs.Exporting.{IsExportOf, export_calls}
use Rattle.osm_exporting.specs.Keeping.{ExportKeptStops, IsExportedKept}
use Rattle.osm_exporting.specs.Steps.Copying.{IsWritten}
use Rattle.osm_exporting.specs.Steps.Laying.{LaidStops, laid_calls}
use Rattle.osm_exporting.proofs.DataLemmas.{laid_data}

-- what is known stays so
pub known_then : {T : Type 0} (a b : StoreState) (x : T) → ReadsBetween IsDeviceFault 2 4 a b (Ok x) → IsKnown a → IsKnown b
known_then a b x frame known = subst (λ (k : Bool). IsTrue k) (sym frame.makes.known) known

-- ---- how many calls are made, if no more than so many entries are laid

module _ {T : Type 0} (save : List ℕ) (laid : Laid) (most : ℕ) (a b d : StoreState) (x : T) (few : length laid.lists.objects.items ≤ most)
    (frame : ReadsBetween IsDeviceFault 2 4 a b (Ok x)) (spends : SpendsAtMost 2 a.left b.left) (known : IsKnown a) where
  both_calls : (r : Result (Unit {0}) RunFault) → (IsKnown b → MakesAtMost IsDeviceFault (laid_calls (b.files save) laid) b d r)
      → MakesAtMost IsDeviceFault (export_calls (bytes_in (a.files save)) + most + 2) a d r
  both_calls r calls =
      let bytes = bytes_in (a.files save) in
      at_most_both IsDeviceFault 2 (export_calls bytes + length laid.lists.objects.items) (export_calls bytes + most + 2) a b d x r (omega (arith, few))
      frame.makes.known (record { spent = spends; lacks = tt })
      (subst (λ (f : Files). MakesAtMost IsDeviceFault (laid_calls (f save) laid) b d r) frame.files (calls (known_then a b x frame known)))

  -- it was done
  pub done_calls : {U : Type 0} (y : U) → (IsKnown b → MakesAtMost {T = Unit {0}} IsDeviceFault (laid_calls (b.files save) laid) b d (Ok tt))
      → MakesAtMost IsDeviceFault (export_calls (bytes_in (a.files save)) + most + 2) a d (Ok y)
  done_calls y calls = record { spent = (both_calls (Ok tt) calls).spent; lacks = tt }

  -- it wasn't
  pub fails_calls : {U : Type 0} (fault : RunFault)
      → (IsKnown b → MakesAtMost {T = Unit {0}} IsDeviceFault (laid_calls (b.files save) laid) b d (Err fault))
      → MakesAtMost {T = U} IsDeviceFault (export_calls (bytes_in (a.files save)) + most + 2) a d (Err fault)
  fails_calls fault calls = record { spent = tt; lacks = (both_calls (Err fault) calls).lacks }

-- ---- what an export leaves

-- what the two files keep, if the save is a save text
is_kept : (told journal : Option (List ℕ)) (laid : Laid) (lays : LaysOver told journal laid) (held : IsSaveText told)
    → Keeps told journal (kept_after (kept_in lays.start laid) held.saved)
is_kept told journal laid lays held =
    let k : KeepsAs told journal (kept_in lays.start laid) = lays.finds.kept_is in
    k.keeps held.file held.saved held.there held.spells

-- all of the save was read, and what the two files keep was put
pub exported_kept : (save output : List ℕ) (form : DataForm) (laid : Laid) (old mid : StoreState) (new : Files) → HasDataEnd output form
    → mid.files ≡ old.files → LaysOver (old.files save) (old.files (journal_name_of save)) laid
    → HasNoOther (old.files save) (old.files (journal_name_of save)) → IsNet (net_in laid.lists)
    → IsWritten save output form laid.lists.objects.items mid.files new → IsExportedKept save output old.files new
exported_kept save output form laid old mid new end same lays free limits written =
    let w = subst (λ (f : Files). IsWritten save output form laid.lists.objects.items f new) same written in
    record {
      made = record {
        named = record { form = form; end = end };
        value = kept_after (kept_in lays.start laid) w.held.saved;
        kept = is_kept (old.files save) (old.files (journal_name_of save)) laid lays w.held;
        free = free;
      };
      are_data = laid_data laid.lists.objects.items w.held.file w.held.saved limits.orderly.rising limits.orderly.own limits.objects w.held.spells;
      put = w.put;
    }

pub given_kept : (given : FilterValue) (told journal : Option (List ℕ)) (v : Saved) → Keeps told journal v → KeptIn given told journal v
given_kept given None journal v k = absurd (let bad = k.there in cc)
given_kept given (Some bytes) journal v k = k

pub export_of_kept : OneIsKept → (given : FilterValue) (ps : List PublishedValue) (base number : ℕ) (save output : List ℕ) (old new : Files)
    → IsKeptOf ps given base number save old → IsExportedKept save output old new → IsExportOf ps given number output (new output)
export_of_kept one given ps base number save output old new saved done =
    let value = done.made.value in
    let same : value ≡ saved.value = one_is_kept one given save old value saved.value
    (given_kept given (old save) (old (journal_name_of save)) value done.made.kept) saved.kept in
    let mirror : IsMirrorOf given (changes_up_to ps number) (changes_after ps saved.value.base number) value.mirror =
    rw (same, ← saved.number_is) saved.in_step.mirror in
    record {
      named = done.made.named;
      objects = value.mirror.objects;
      are_data = done.are_data;
      content = mirror.objects;
      text = done.put.there;
    }

-- ---- why it stops, once the output's name told a form

-- for the journal, or what the save begins with
pub kept_stops : (known : Type 0) (save output : List ℕ) (files : Files) (fault : KeptFault) → HasDataForm output
    → (known → KeptStops (files save) (files (journal_name_of save)) fault) → ExportKeptStops known save output files (kept_fault_of fault)
kept_stops known save output files kept.JournalFailed named h = named
kept_stops known save output files kept.JournalTooLarge named h = (named, h)
kept_stops known save output files (kept.BadJournal line) named h = (named, h)
kept_stops known save output files (kept.OtherJournal number) named h = (named, h)
kept_stops known save output files kept.SaveFailed named h = (named, refl)
kept_stops known save output files (kept.BadSave line) named h = (
  named,
  λ yes.
      let bad = h yes in record { file = bad.file; there = bad.there; none = bad.none },
)
kept_stops known save output files kept.Changed named h = (named, (refl, h))
kept_stops known save output files kept.WantOfMemory named h = (named, tt)

-- for the save, or the output
module _ (known : Type 0) (save output : List ℕ) (files : Files) (laid : Laid) (named : HasDataForm output)
    (lays : known → LaysOver (files save) (files (journal_name_of save)) laid) (free : known → HasNoOther (files save) (files (journal_name_of save))) where
  -- the save isn't absent
  no_file : known → files save ≡ None → ⊥
  no_file sure none =
      let starts = (lays sure).ends.reached.starts in
      let bad : ◌≡◌ {A = Option (List ℕ)} None (Some starts.file) = sym none ∙ starts.there in cc

  pub laid_stops : (fault : RunFault) → LaidStops known (files save) fault → ExportKeptStops known save output files fault
  laid_stops (ReadFault Journal) r = absurd (let bad = r in cc)
  laid_stops (TooLarge Journal) r = absurd (let bad = r.0 in cc)
  laid_stops (ReadFault file) r = (named, r)
  laid_stops (TooLarge file) r = (named, r)
  laid_stops (WriteFault file) r = (
    r.0,
    named,
    λ sure. record {
      named = named;
      value = kept_after (kept_in (lays sure).start laid) (r.1 sure).saved;
      kept = is_kept (files save) (files (journal_name_of save)) laid (lays sure) (r.1 sure);
      free = free sure;
    },
  )
  laid_stops WantOfMemory r = (named, r)
  laid_stops (Absent file) r = (r.0, named, λ sure. absurd (no_file sure (r.1 sure)))
  laid_stops (BadSave line) r = (named, r)
  laid_stops (Changed file) r = (named, r)
  laid_stops fault r = absurd r

-- the same files, as they were before
pub laid_back : (a b : StoreState) (save : List ℕ) (fault : RunFault) → b.files ≡ a.files → b.is_known ≡ a.is_known
    → LaidStops (IsKnown b) (b.files save) fault → LaidStops (IsKnown a) (a.files save) fault
laid_back a b save fault files known h =
    subst (λ (f : Files). LaidStops (IsKnown a) (f save) fault) files (subst (λ (k : Bool). LaidStops (IsTrue k) (b.files save) fault) known h)
