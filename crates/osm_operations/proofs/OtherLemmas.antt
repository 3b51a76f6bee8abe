-- A run of the follower under another filter than the save's: it is refused, and never for what a file holds.
use Rattle.std.proofs.Common.{◌≡◌, ℕ, List, Option, Some, None, true, false, inl, inr, refl, sym, ap, ◌∙◌}
use Rattle.std.specs.Prelude.{◌≢◌, ◌⊎◌, IsTrue, is_none}
use Rattle.osm_model.specs.Filter.{FilterValue}
use Rattle.osm_model.specs.Limits.{max_file}
use Rattle.osm_save.specs.declared.save.Saved.{Saved}
use Rattle.osm_publisher.specs.Published.{PublishedValue}
use Rattle.osm_store.specs.Files.{Files, IsOver}
use Rattle.osm_kept.specs.Names.{journal_name_of}
use Rattle.osm_runs.specs.Following.{plainly}
use Rattle.osm_runs.specs.Keeping.{IsKept, IsKeptOf, KeptIn}
use Rattle.osm_runs.specs.Reports.{ReportValue}
use Rattle.osm_runs.specs.declared.fault.FileName.TheVariants.{Journal, Top, Save}
use Rattle.osm_runs.specs.declared.fault.RunFault.{RunFault}
use Rattle.osm_runs.specs.declared.fault.RunFault.TheVariants.{WantOfMemory, ReadFault, WriteFault, TooLarge, Absent}
use Rattle.osm_runs.specs.declared.fault.RunFault.TheVariants.{BadJournal, BadState, BadSave, Changed, OtherFilter, OtherJournal, TopBehind}
use Rattle.osm_runs.proofs.KeepingLemmas.{one_is_kept}
use Rattle.osm_round.specs.Keeping.{GoesOnFrom, GoesOnInPart, GoesUpTo}
use Rattle.osm_round.specs.KeepingStops.{BeginningStops, HasManyAfter, KeepingStops}
use Rattle.osm_runs.specs.Checking.{IsTooLarge}
use Rattle.osm_round.proofs.OverLemmas.{no_bad_save}
use Rattle.osm_operations.specs.Allowed.{OtherStopsIn}
use Rattle.osm_operations.specs.Alone.{IsInStepAlone}
use Rattle.osm_operations.specs.Stepping.{IsNoDevice, KeptLaws}
use Rattle.osm_operations.proofs.AgreeLemmas.{IsFreeBut}
use Rattle.osm_operations.proofs.FollowLemmas.{huge_save}
use Rattle.osm_operations.proofs.KeptLemmas.{IsOwn, own}

-- a save that is there keeps the same under any filter
pub same_kept : (given other : FilterValue) (told journal : Option (List ℕ)) (v : Saved) → is_none told ≡ false → KeptIn given told journal v
    → KeptIn other told journal v
same_kept given other None journal v there s = absurd (let bad : true ≡ false = there in cc)
same_kept given other (Some bytes) journal v there s = s

module _ (given other : FilterValue) (p : List PublishedValue) (base number : ℕ) (dir save : List ℕ) (f : Files)
    (there : is_none (f save) ≡ false) (s : IsKeptOf p given base number save f) (alone : IsInStepAlone p given (f save))
    (short : IsOver max_file (f (journal_name_of save)) → ⊥) (differs : other ≢ given) where
  -- what is kept is kept under the other filter too, but isn't one of it
  pub kept_here : IsKept other save f s.value
  kept_here = same_kept given other (f save) (f (journal_name_of save)) s.value there s.kept

  none_other : s.value.filter ≡ other → ⊥
  none_other is = differs (sym is ∙ s.in_step.filter_is)

  pub not_followed : (g : Files) (report : ReportValue) → GoesOnFrom (plainly other) dir save f g report s.value → ⊥
  not_followed g report run = none_other run.starts.filter_is

  pub not_part : (g : Files) (report : ReportValue) (count : ℕ) → GoesOnInPart (plainly other) dir save f g report count s.value → ⊥
  not_part g report count run = none_other run.goes.starts.filter_is

  pub not_before : (g : Files) (fault : RunFault) (report : ReportValue) → GoesUpTo (IsTrue true) (plainly other) dir save f g fault report s.value → ⊥
  not_before g fault report run = none_other run.starts.filter_is

  many_other : KeptLaws → HasManyAfter (plainly other) dir save f → ⊥
  many_other laws m =
      let same : m.start ≡ s.value = one_is_kept laws.one other save f m.start s.value m.kept kept_here in
      none_other (sym (ap (λ (v : Saved). v.filter) same) ∙ m.starts.filter_is)

  own_save : IsOwn p given (f save)
  own_save = own p given base number save f s alone

  start_other : KeptLaws → (cut : Option ℕ) → IsFreeBut cut save f → (fault : RunFault) → IsNoDevice fault
      → BeginningStops (IsTrue true) (plainly other) dir save f fault → OtherStopsIn p given cut fault
  start_other laws cut free WantOfMemory none h = tt
  start_other laws cut free (ReadFault file) none h = absurd none
  start_other laws cut free (WriteFault file) none h = absurd none
  start_other laws cut free (Changed Save) none h = absurd (h refl)
  start_other laws cut free (Absent Save) none h = absurd (h refl)
  start_other laws cut free (TooLarge Save) none h = by_reason (h refl)
    where
      by_reason : IsTooLarge (f save) ⊎ HasManyAfter (plainly other) dir save f → OtherStopsIn p given cut (TooLarge Save)
      by_reason (inl (inl huge)) = (refl, huge_save p given base number save f s alone huge)
      by_reason (inl (inr bad)) = absurd (no_bad_save given (f save) own_save.saved.value own_save.saved.saved bad)
      by_reason (inr many) = absurd (many_other laws many)
  start_other laws cut free (TooLarge Journal) none h = absurd (short (h refl))
  start_other laws cut free (BadSave line) none h = absurd (no_bad_save given (f save) own_save.saved.value own_save.saved.saved (h refl))
  start_other laws cut free (BadJournal line) none h = absurd (s.right line (h refl))
  start_other laws cut free (OtherJournal n) none h = free n (h refl)
  start_other laws cut free OtherFilter none h = tt
  start_other laws cut free (Absent Top) none h = absurd (none_other ((h refl).0 s.value kept_here))
  start_other laws cut free (TooLarge Top) none h = absurd (none_other ((h refl).0 s.value kept_here))
  start_other laws cut free (BadState Top cause) none h = absurd (none_other ((h refl).0 s.value kept_here))
  start_other laws cut free TopBehind none h = absurd (none_other ((h refl).below s.value kept_here).0)
  start_other laws cut free fault none h = absurd h

  -- for the filter, for want of memory, or for the journal of another save that a beginning left which was cut short
  pub other_refused : KeptLaws → (cut : Option ℕ) → IsFreeBut cut save f → (fault : RunFault) → IsNoDevice fault
      → KeepingStops (IsTrue true) (plainly other) dir save f fault → OtherStopsIn p given cut fault
  other_refused laws cut free fault none (inl h) = start_other laws cut free fault none h
  other_refused laws cut free fault none (inr (inl h)) = absurd (none_other (h.comes refl s.value kept_here).filter_is)
  other_refused laws cut free fault none (inr (inr h)) = absurd (none_other (h.comes refl s.value kept_here).filter_is)
