-- A save with what its journal lays over it, which is read once.
use Rattle.std.proofs.Common.{◌≡◌, ℕ, List, Option, Some, None, inl, inr, refl, sym, ap, subst, ◌∙◌}
use Rattle.std.specs.Prelude.{Bool, Err, IsTrue}
use Rattle.std.proofs.lemmas.Option.{same_Some}
use Rattle.osm_blocks.specs.Places.{HasFile, Place, left_of}
use Rattle.osm_merge.specs.Checking.{CheckStops}
use Rattle.osm_merge.specs.Faults as merges
use Rattle.osm_merge.specs.Mirrors.{both_at}
use Rattle.osm_merge.specs.Passing.{IsRead}
use Rattle.osm_merge.specs.Reading.{LineStops}
use Rattle.osm_merge.specs.declared.fault.MergeFault.{MergeFault}
use Rattle.osm_merge.specs.declared.fault.MergeFault.TheVariants as faults
use Rattle.osm_merge.specs.declared.opening.Opening.{Opening}
use Rattle.osm_merged.specs.Ahead.{objects_ahead}
use Rattle.osm_merged.specs.Laws.{AllIsSaved, SavedIsAhead}
use Rattle.osm_merged.specs.Opening.{BeginsMerged}
use Rattle.osm_mirror.specs.Mirror.{Counted}
use Rattle.osm_model.specs.Change.{ChangeValue}
use Rattle.osm_net.specs.Laid.{laid_over}
use Rattle.osm_net.specs.Net.{NetEntry}
use Rattle.osm_save.specs.Head.{most_counted}
use Rattle.osm_save.specs.Save.{SpellsSave}
use Rattle.osm_save.specs.declared.save.Saved.{Saved}
use Rattle.osm_store.specs.Files.{Files}
use Rattle.osm_store.specs.Frames.{IsKnown, MakesAtMost, StoreState}
use Rattle.osm_kept.specs.Finding.{kept_after}
use Rattle.osm_kept.specs.Laying.{LaysOver, kept_in}
use Rattle.osm_kept.specs.Names.{journal_name_of}
use Rattle.osm_kept.specs.Refusal.{HasNoOther}
use Rattle.osm_kept.specs.declared.laid.Laid.{Laid}
use Rattle.osm_runs.specs.Checking.{read_fault_of}
use Rattle.osm_runs.specs.Runs.{IsDeviceFault}
use Rattle.osm_runs.proofs.FrameLemmas.{blames_device}
use Rattle.osm_asking.specs.Fingerprint.{HasFingerprint, IsFingerprint}
use Rattle.osm_asking.specs.Steps.SavedObjects.{Objects}
use Rattle.osm_asking.specs.Steps.Summing.{IsSummed}
use Rattle.osm_asking.specs.Stopping.{SumStops}
use Rattle.osm_asking.proofs.LaidLemmas.{is_there, keeps_laid}

-- ---- why a save isn't read

-- a part of a known file can't be read only if the file is the save text of nothing
pub line_checks : {A : Type 0} (told : Option (List ℕ)) (file : List ℕ) (fault : MergeFault) (reading : Option A) → told ≡ Some file
    → LineStops file fault reading → (reading ≡ None → (v : Saved) → SpellsSave file v → ⊥) → CheckStops told fault
line_checks told file faults.ReadFault reading there r none = tt
line_checks told file faults.WriteFault reading there r none = tt
line_checks told file faults.WantOfMemory reading there r none = tt
line_checks told file faults.NoSave reading there r none = absurd r
line_checks told file (faults.BadSave line) reading there r none = record { file = file; there = there; none = none r }
line_checks told file faults.LongLine reading there r none = record { file = file; there = there; none = none r }
line_checks told file faults.TooLarge reading there r none = record { file = file; there = there; huge = r }
line_checks told file faults.Changed reading there r none = r

-- the fault of a save that is there, as one of a run
check_stops : (known : Type 0) (save : List ℕ) (files : Files) (fault : MergeFault) → (known → files save ≡ None → ⊥)
    → (known → CheckStops (files save) fault) → SumStops known save files (read_fault_of fault)
check_stops known save files faults.ReadFault there h = inl refl
check_stops known save files faults.WriteFault there h = inl refl
check_stops known save files faults.WantOfMemory there h = tt
check_stops known save files faults.NoSave there h = (refl, λ yes. absurd (there yes (h yes)))
check_stops known save files (faults.BadSave line) there h = h
check_stops known save files faults.LongLine there h = (refl, λ yes. inr (h yes))
check_stops known save files faults.TooLarge there h = (refl, λ yes. inl (h yes))
check_stops known save files faults.Changed there h = (refl, h)

-- that of one whose journal was read before
pub read_stops : (a b : StoreState) (save : List ℕ) (laid : Laid) (fault : MergeFault) → b.files ≡ a.files → b.is_known ≡ a.is_known
    → (IsKnown a → LaysOver (a.files save) (a.files (journal_name_of save)) laid) → (IsKnown b → CheckStops (b.files save) fault)
    → SumStops (IsKnown a) save a.files (read_fault_of fault)
read_stops a b save laid fault files known lays h =
    check_stops (IsKnown a) save a.files fault (λ yes. is_there (a.files save) (a.files (journal_name_of save)) laid (lays yes))
    (λ yes. subst (λ (f : Files). CheckStops (f save) fault) files (h (subst (λ (k : Bool). IsTrue k) (sym known) yes)))

-- ---- frames

pub calls_blamed : {T U : Type 0} (k : ℕ) (a b : StoreState) (fault : MergeFault) → MakesAtMost {T = T} merges.IsDeviceFault k a b (Err fault)
    → MakesAtMost {T = U} IsDeviceFault k a b (Err (read_fault_of fault))
calls_blamed k a b fault m = record { spent = tt; lacks = λ known blame. m.lacks known (blames_device fault blame) }

-- ---- what is read of a save

-- the file that was opened is still there
pub has_opened : (a b : StoreState) (name file : List ℕ) → b.files ≡ a.files → b.is_known ≡ a.is_known → IsKnown a → a.files name ≡ Some file
    → HasFile b name file
has_opened a b name file files same known there = record {
  known = subst (λ (k : Bool). IsTrue k) (sym same) known;
  there = subst (λ (f : Files). f name ≡ Some file) (sym files) there;
}

module _ (told : Option (List ℕ)) (es : List NetEntry) (place : Place) (o : Opening) (a : Objects) (at : BeginsMerged told es place o a) where
  -- its objects can be read if it is a save text
  pub objects_read : SavedIsAhead → objects_ahead o.filter a (left_of place at.file) ≡ None → (v : Saved) → SpellsSave at.file v → ⊥
  objects_read found none v spells =
      let h = found told es place o a at v spells in
      let bad : ◌≡◌ {A = Option (List ChangeValue × List ℕ)} None (Some (laid_over es v.mirror.objects, h.after)) = sym none ∙ h.objects in cc

  -- and so can what follows them
  pub rest_read : SavedIsAhead → (objects : List ChangeValue) (after : List ℕ) → objects_ahead o.filter a (left_of place at.file) ≡ Some (objects, after)
      → both_at (most_counted o.head) after ≡ None → (v : Saved) → SpellsSave at.file v → ⊥
  rest_read found objects after read none v spells =
      let h = found told es place o a at v spells in
      let same = same_Some (objects, after) (laid_over es v.mirror.objects, h.after) (sym read ∙ h.objects) in
      let both = ap (λ (r : List ChangeValue × List ℕ). both_at (most_counted o.head) r.1) same ∙ h.counts in
      let bad : ◌≡◌ {A = Option (List Counted × List Counted)} None (Some (v.mirror.users, v.mirror.changesets)) = sym none ∙ both in cc

  -- all of it was read
  pub summed_of : AllIsSaved → (keys : ℕ) (laid : Laid) (objects : List ChangeValue) (after text : List ℕ) → es ≡ laid.lists.objects.items
      → objects_ahead o.filter a (left_of place at.file) ≡ Some (objects, after) → IsRead (both_at (most_counted o.head) after)
      → IsFingerprint keys laid.head.number objects text → IsSummed keys told laid text
  summed_of made keys laid objects after text same read both is =
      let was = made told es place o a at objects after both.value.0 both.value.1 read both.read in
      record {
        held = record { file = at.file; there = at.there; saved = was.saved; spells = was.spells };
        text_is = subst (λ (l : List ChangeValue). IsFingerprint keys laid.head.number l text)
            (was.objects_are ∙ ap (λ (l : List NetEntry). laid_over l was.saved.mirror.objects) same) is;
      }

-- what is kept has that fingerprint
pub has_fingerprint : (keys : ℕ) (told journal : Option (List ℕ)) (laid : Laid) (text : List ℕ) → LaysOver told journal laid → HasNoOther told journal
    → IsSummed keys told laid text → HasFingerprint keys told journal (record { status = 0; text = text })
has_fingerprint keys told journal laid text lays free s = record {
  value = kept_after (kept_in lays.start laid) s.held.saved;
  kept = (keeps_laid told journal laid lays).keeps s.held.file s.held.saved s.held.there s.held.spells;
  free = free;
  is = (s.text_is, refl);
}
