-- What the journal of a save lays over it.
use Rattle.std.proofs.Common.{◌≡◌, ℕ, List, Option, Some, None, inl, inr, refl, sym, ap, ◌∙◌}
use Rattle.std.specs.Prelude.{IfSome}
use Rattle.osm_net.specs.Lists.{net_in}
use Rattle.osm_save.specs.Head.{BeginsSave}
use Rattle.osm_save.specs.declared.head.Head.{Head}
use Rattle.osm_save.specs.declared.save.Saved.{Saved}
use Rattle.osm_store.specs.Files.{Files}
use Rattle.osm_kept.specs.Finding.{KeepsAs, kept_after}
use Rattle.osm_kept.specs.Laws.{OneIsKept}
use Rattle.osm_kept.specs.Laying.{IsLaid, LaysOver, kept_in}
use Rattle.osm_kept.specs.Names.{journal_name_of}
use Rattle.osm_kept.specs.Refusal.{HasNoOther, KeptStops}
use Rattle.osm_kept.specs.declared.fault.KeptFault.{KeptFault}
use Rattle.osm_kept.specs.declared.fault.KeptFault.TheVariants as kept
use Rattle.osm_kept.specs.declared.laid.Laid.{Laid}
use Rattle.osm_runs.specs.Keeping.{kept_fault_of}
use Rattle.osm_runs.proofs.KeepingLemmas.{few_taken}
use Rattle.osm_asking.specs.Asking.{AreOfJournal, FitTogether, GivesKept}
use Rattle.osm_asking.specs.Steps.Laying.{FitsSave, IsLaidOn}
use Rattle.osm_asking.specs.Stopping.{SumStops}

-- ---- what is laid over it

module _ (told journal : Option (List ℕ)) (laid : Laid) (lays : LaysOver told journal laid) where
  -- the two files keep it
  pub keeps_laid : KeepsAs told journal (kept_in lays.start laid)
  keeps_laid = lays.finds.kept_is

  pub fit_together : HasNoOther told journal → FitTogether told journal
  fit_together free = record {
    file = keeps_laid.starts.file;
    there = keeps_laid.starts.there;
    free = free;
    keeps = λ saved spells. (kept_after (kept_in lays.start laid) saved, keeps_laid.keeps keeps_laid.starts.file saved keeps_laid.starts.there spells);
  }

  pub gives_kept : OneIsKept → GivesKept told journal laid.lists.objects.items
  gives_kept one = λ file saved v there spells keeps.
      ap (λ (x : Saved). x.mirror.objects)
      (one told journal v (kept_after (kept_in lays.start laid) saved) keeps (keeps_laid.keeps file saved there spells))

  pub are_of_journal : AreOfJournal told journal laid.lists.objects.items
  are_of_journal = record { start = lays.start; starts = keeps_laid.starts; net = net_in laid.lists; is = lays.from; objects = refl }

  pub is_there : told ≡ None → ⊥
  is_there none = (let bad : ◌≡◌ {A = Option (List ℕ)} None (Some keeps_laid.starts.file) = sym none ∙ keeps_laid.starts.there in cc)

-- it fits the save, and there is room for its counts
pub laid_on_save : (known : Type 0) (told journal : Option (List ℕ)) (laid : Laid) → (known → LaysOver told journal laid) → IsLaid laid
    → IsLaidOn known told laid
laid_on_save known told journal laid lays is = record {
  fits = by_start laid.start (λ yes. (lays yes).fits);
  few = few_taken (kept_in is.start laid) is.taken;
}
  where
    by_start : (start : Option Head) → (known → IfSome start (λ head. (file : List ℕ) → told ≡ Some file → BeginsSave file head)) → FitsSave known told start
    by_start None h = tt
    by_start (Some head) h = h

-- ---- why it isn't read

pub sum_stops : (known : Type 0) (save : List ℕ) (files : Files) (fault : KeptFault)
    → (known → KeptStops (files save) (files (journal_name_of save)) fault) → SumStops known save files (kept_fault_of fault)
sum_stops known save files kept.JournalFailed h = inr refl
sum_stops known save files kept.JournalTooLarge h = h
sum_stops known save files (kept.BadJournal line) h = h
sum_stops known save files (kept.OtherJournal number) h = h
sum_stops known save files kept.SaveFailed h = inl refl
sum_stops known save files (kept.BadSave line) h = λ yes. (let bad = h yes in record { file = bad.file; there = bad.there; none = bad.none })
sum_stops known save files kept.Changed h = (refl, h)
sum_stops known save files kept.WantOfMemory h = tt
