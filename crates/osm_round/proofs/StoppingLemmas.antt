-- Why a run that goes on from what a save and its journal keep is refused.
use Rattle.std.proofs.Common.{◌≡◌, ℕ, ◌+◌, List, Option, Some, None, inl, inr, arith, refl, sym, ap, subst, ◌∙◌}
use Rattle.std.specs.Prelude.{◌⊎◌, Ok, Err}
use Rattle.osm_save.specs.declared.head.Head.{Head}
use Rattle.osm_save.specs.declared.save.Saved.{Saved}
use Rattle.osm_store.specs.Files.{Files, HasFailed}
use Rattle.osm_store.specs.Frames.{StoreState}
use Rattle.osm_store.proofs.FileLemmas.{spends_both}
use Rattle.osm_blocks.specs.Frames.{ReadsOften}
use Rattle.osm_merge.specs.Checking.{IsNoSave}
use Rattle.osm_merge.specs.Frames.{ReplacesOften}
use Rattle.osm_kept.specs.Names.{journal_name_of}
use Rattle.osm_kept.specs.Reaching.{IsReached as IsReachedBy}
use Rattle.osm_kept.specs.Refusal as refusal
use Rattle.osm_kept.specs.Refusal.{EndsStop, IsOfOnce}
use Rattle.osm_kept.specs.declared.fault.KeptFault.{KeptFault}
use Rattle.osm_kept.specs.declared.fault.KeptFault.TheVariants as kept
use Rattle.osm_kept.specs.declared.found.Ends.{Ends}
use Rattle.osm_kept.specs.declared.found.Reach.{Reach}
use Rattle.osm_runs.specs.Checking.{IsTooLarge}
use Rattle.osm_runs.specs.Following.{FindTopStops, last_number}
use Rattle.osm_runs.specs.Keeping.{IsKept, kept_fault_of}
use Rattle.osm_runs.specs.Names.{top_name_of}
use Rattle.osm_runs.specs.declared.fault.FileName.{FileName}
use Rattle.osm_runs.specs.declared.fault.FileName.TheVariants.{Journal, Save, Top}
use Rattle.osm_runs.specs.declared.fault.RunFault.{RunFault}
use Rattle.osm_runs.specs.declared.fault.RunFault.TheVariants.{Absent, BadJournal, BadSave, BadState, Changed}
use Rattle.osm_runs.specs.declared.fault.RunFault.TheVariants.{OtherFilter, ReadFault, TooLarge, TopBehind, WantOfMemory, WriteFault}
use Rattle.osm_runs.specs.declared.options.FollowOptions.{FollowOptions}
use Rattle.osm_round.specs.KeepingSteps.{AreAt, AreEnds, HasManyKept, IsOtherFilter, IsReadingFault, PutKeptStops}
use Rattle.osm_round.specs.KeepingStops.{BeginningStops, CanGoOn, HasManyAfter, IsFirstKept, KeepingStops}
use Rattle.osm_round.specs.Putting.{saved_after}
use Rattle.osm_round.specs.News.{came_to}
use Rattle.osm_round.specs.Rounds.{IsPrepared, PrepareStops, StopsLooking, StopsTaking}
use Rattle.osm_round.specs.Starting.{BeginsOther, WholeStops}
use Rattle.osm_round.specs.Taking.{AdvancesAll}
use Rattle.osm_round.specs.declared.round.Prepared.{Prepared}
use Rattle.osm_round.proofs.KeepingLemmas.{kept_orderly}
use Rattle.osm_round.proofs.TakenLemmas.{adds_all}

-- ---- the two files

no_save_text : (told : Option (List ℕ)) → refusal.IsNoSave told → IsNoSave told
no_save_text told none = record { file = none.file; there = none.there; none = none.none }

-- why they aren't read
pub ends_stops : (known : Type 0) (options : FollowOptions) (dir save : List ℕ) (files : Files) (fault : KeptFault)
    → (known → EndsStop (files save) (files (journal_name_of save)) fault)
    → KeepingStops known options dir save files (kept_fault_of fault)
ends_stops known options dir save files kept.JournalFailed h = inl tt
ends_stops known options dir save files kept.JournalTooLarge h = inl h
ends_stops known options dir save files (kept.BadJournal line) h = inl (λ sure. (let b = h sure in
    record { bytes = b.bytes; there = b.there; some = b.some; bad = inl b.none }))
ends_stops known options dir save files kept.SaveFailed h = inl tt
ends_stops known options dir save files (kept.BadSave line) h = inl (λ sure. no_save_text (files save) (h sure))
ends_stops known options dir save files (kept.OtherJournal number) h = inl h
ends_stops known options dir save files kept.Changed h = inl h
ends_stops known options dir save files kept.WantOfMemory h = inl tt

-- all of them are first
pub ends_first : (fault : KeptFault) → IsOfOnce fault → IsFirstKept (kept_fault_of fault)
ends_first kept.JournalFailed once = tt
ends_first kept.JournalTooLarge once = tt
ends_first (kept.BadJournal line) once = tt
ends_first kept.SaveFailed once = tt
ends_first (kept.BadSave line) once = tt
ends_first (kept.OtherJournal number) once = tt
ends_first kept.Changed once = absurd once
ends_first kept.WantOfMemory once = tt

-- the save is no save text
pub whole_stops : (known : Type 0) (options : FollowOptions) (dir save : List ℕ) (files : Files) (told : Option (List ℕ)) (fault : RunFault)
    → (known → told ≡ files save) → WholeStops known told fault → KeepingStops known options dir save files fault
whole_stops known options dir save files told fault same h = by_fault fault h
  where
    by_fault : (x : RunFault) → WholeStops known told x → KeepingStops known options dir save files x
    by_fault WantOfMemory h = inl tt
    by_fault (ReadFault file) h = inl (rw h tt)
    by_fault (TooLarge file) h = inl (rw h.0 (λ sure. inl (subst IsTooLarge (same sure) (h.1 sure))))
    by_fault (BadSave line) h = inl (λ sure. subst IsNoSave (same sure) (h sure))
    by_fault (Changed file) h = inl (rw h.0 h.1)
    by_fault x h = absurd h

-- such a fault is first
pub whole_first : (known : Type 0) (told : Option (List ℕ)) (fault : RunFault) → known → WholeStops known told fault → (IsFirstKept fault → ⊥) → ⊥
whole_first known told WantOfMemory sure h first = first tt
whole_first known told (ReadFault Save) sure h first = first tt
whole_first known told (ReadFault file) sure h first = first (subst (λ (f : FileName). IsFirstKept (ReadFault f)) (sym h) tt)
whole_first known told (TooLarge Save) sure h first = first tt
whole_first known told (TooLarge file) sure h first = first (subst (λ (f : FileName). IsFirstKept (TooLarge f)) (sym h.0) tt)
whole_first known told (BadSave line) sure h first = first tt
whole_first known told (Changed file) sure h first = h.1 sure
whole_first known told fault sure h first = absurd h

-- the save is under another filter
pub other_stops : (known : Type 0) (options : FollowOptions) (dir save : List ℕ) (files : Files) (ends : Ends) (fault : RunFault)
    → AreEnds known save files ends → (fault ≡ OtherFilter) × IsOtherFilter options.filter ends.kept → KeepingStops known options dir save files fault
other_stops known options dir save files ends fault are (is, other) = rw is (inl (λ sure. by_kept ends.kept (are.found sure).reached other))
  where
    by_kept : (o : Option Reach) → IsReachedBy (files save) (files (journal_name_of save)) o → IsOtherFilter options.filter o
        → BeginsOther options.filter (files save)
    by_kept None reached other = absurd other
    by_kept (Some reach) reached other = record {
      bytes = reached.starts.file;
      there = reached.starts.there;
      other = λ v spells same. other (sym (reached.starts.is v spells).filter ∙ same);
    }

-- ---- the folder, from a head

module _ (known : Type 0) (options : FollowOptions) (dir save : List ℕ) (files : Files) (head : Head)
    (at : known → AreAt options.filter save files head) where
  can_go_on : known → CanGoOn options.filter save files
  can_go_on sure start kept = (at sure start kept).1

  number_at : (sure : known) (start : Saved) → IsKept options.filter save files start → start.number ≡ head.number
  number_at sure start kept = ap (λ (h : Head). h.number) (at sure start kept).0

  top_stops : (fault : RunFault) → FindTopStops known (files (top_name_of dir)) fault → BeginningStops known options dir save files fault
  top_stops WantOfMemory h = tt
  top_stops (ReadFault file) h = rw h can_go_on
  top_stops (Absent file) h = absurd h
  top_stops (TooLarge file) h = rw h.0 (λ sure. (can_go_on sure, h.1 sure))
  top_stops (BadState file cause) h = rw h.0 (λ sure. (can_go_on sure, h.1 sure))
  top_stops fault h = absurd h

  taking_stops : (fault : RunFault) → StopsTaking known options dir files head fault → KeepingStops known options dir save files fault
  taking_stops fault s = inr (inl (record {
    top = s.top;
    top_is = s.top_is;
    number = s.number;
    comes = λ sure start kept. (let same = number_at sure start kept in
        record {
          filter_is = (at sure start kept).1;
          above = rw same s.above;
          until = rw same s.until;
          each = rw same (s.each sure);
        });
    before = s.before;
    next = λ sure content start kept. (let next = s.next content in (
      next.0 ∙ ap (λ (n : ℕ). n + 1) (sym (number_at sure start kept)),
      next.1 ∙ ap (λ (h : Head). h.time) (sym (at sure start kept).0),
    ));
    stops = s.stops;
  }))

  looking_stops : (fault : RunFault) → StopsLooking known options dir files head fault → KeepingStops known options dir save files fault
  looking_stops fault s = inr (inr (record {
    top = s.top;
    top_is = s.top_is;
    last = last_number options.limit head.number s.top.sequence;
    reached = s.taken.head.number;
    comes = λ sure start kept. (let same = number_at sure start kept in
        let is = at sure start kept in
        record {
          filter_is = is.1;
          count = s.has.count;
          value = saved_after start s.taken;
          goes_on = record {
            added = adds_all files dir options.filter start s.has.count s.taken is.1
                (kept_orderly options.filter (files save) (files (journal_name_of save)) start kept)
                (subst (λ (h : Head). AdvancesAll files dir options.filter h s.has.count s.taken) (sym is.0) (s.has.advances sure));
            number = s.has.is.number ∙ ap (λ (n : ℕ). n + s.has.count) (sym same);
            until = rw same s.until;
            far = rw same (s.reached sure);
          };
          reached_is = refl;
          last_is = ap (λ (n : ℕ). last_number options.limit n s.top.sequence) (sym same);
        });
    stops = s.stops;
  }))

  pub prepare_stops : (fault : RunFault) → PrepareStops known options dir files head fault → KeepingStops known options dir save files fault
  prepare_stops fault (inl h) = inl (top_stops fault h)
  prepare_stops fault (inr (inl h)) = rw h (inl tt)
  prepare_stops fault (inr (inr (inl h))) = rw h.0 (inl (λ sure. (let b = h.1 sure in
      let below = b.below in
      record {
        top = b.top;
        top_is = b.top_is;
        below = λ start kept. (let same = number_at sure start kept in ((at sure start kept).1, omega (arith, same, below)));
      })))
  prepare_stops fault (inr (inr (inr (inl h)))) = taking_stops fault h
  prepare_stops fault (inr (inr (inr (inr h)))) = looking_stops fault h

  pub unpublished : (known → files (top_name_of dir) ≡ None) → KeepingStops known options dir save files (Absent Top)
  unpublished none = inl (λ sure. (can_go_on sure, none sure))

  -- there are too many objects
  many_after : (p : Prepared) → known → IsPrepared known options dir files head p → HasManyKept options.filter save (came_to options.filter p.taken) files
      → HasManyAfter options dir save files
  many_after p sure is many =
      let here = at sure many.start many.kept in
      let same = number_at sure many.start many.kept in
      record {
        start = many.start;
        kept = many.kept;
        top = is.top;
        starts = record { filter_is = here.1; top_is = is.top_is sure };
        count = is.taken.count;
        reached = saved_after many.start (came_to options.filter p.taken);
        added = adds_all files dir options.filter many.start is.taken.count (came_to options.filter p.taken) here.1
            (kept_orderly options.filter (files save) (files (journal_name_of save)) many.start many.kept)
            (subst (λ (h : Head). AdvancesAll files dir options.filter h is.taken.count (came_to options.filter p.taken)) (sym here.0)
            (is.taken.advances sure));
        until = rw same is.until;
        many = many.many;
      }

  pub put_stops : (p : Prepared) (fault : RunFault) → IsPrepared known options dir files head p
      → PutKeptStops known (files save) (files (journal_name_of save)) (HasManyKept options.filter save (came_to options.filter p.taken) files) fault
      → KeepingStops known options dir save files fault
  put_stops p WantOfMemory is h = inl tt
  put_stops p (ReadFault Save) is h = inl tt
  put_stops p (WriteFault Save) is h = inl can_go_on
  put_stops p (WriteFault Journal) is h = inl can_go_on
  put_stops p (Absent Save) is h = inl h
  put_stops p (Changed Save) is h = inl h
  put_stops p (TooLarge Save) is h = inl (λ sure. by_reason sure (h sure))
    where
      by_reason : known → IsTooLarge (files save) ⊎ HasManyKept options.filter save (came_to options.filter p.taken) files
          → IsTooLarge (files save) ⊎ HasManyAfter options dir save files
      by_reason sure (inl large) = inl large
      by_reason sure (inr many) = inr (many_after p sure is many)
  put_stops p (BadSave line) is h = inl h
  put_stops p (BadJournal line) is h = inl h
  put_stops p fault is h = absurd h

-- neither what is taken nor what is saved is refused for a newest state that isn't there
pub no_top_taken : (known : Type 0) (options : FollowOptions) (dir : List ℕ) (files : Files) (head : Head) (fault : RunFault)
    → PrepareStops known options dir files head fault → fault ≡ Absent Top → ⊥
no_top_taken known options dir files head fault h is = by_reason (subst (PrepareStops known options dir files head) is h)
  where
    by_reason : PrepareStops known options dir files head (Absent Top) → ⊥
    by_reason (inl h) = h
    by_reason (inr (inl h)) = (let bad : Absent Top ≡ WantOfMemory = h in cc)
    by_reason (inr (inr (inl h))) = (let bad : Absent Top ≡ TopBehind = h.0 in cc)
    by_reason (inr (inr (inr (inl s)))) = s.stops
    by_reason (inr (inr (inr (inr s)))) = s.stops

pub no_top_put : (known : Type 0) (told journal : Option (List ℕ)) (many : Type 0) (fault : RunFault) → PutKeptStops known told journal many fault
    → fault ≡ Absent Top → ⊥
no_top_put known told journal many fault h is = subst (PutKeptStops known told journal many) is h

-- ---- frames

-- a refusal, and reads after it
pub calls_refused_then : {T U V E : Type 0} (blames : E → Type 0) (a b d : StoreState) (fault : E) (x : U) → ReplacesOften {T = T} blames a b (Err fault)
    → ReadsOften blames b d (Ok x) → ReplacesOften {T = V} blames a d (Err fault)
calls_refused_then blames a b d fault x h k = record {
  files = k.files ∙ h.files;
  known = k.known ∙ h.known;
  left = spends_both 0 0 0 a.left b.left d.left (omega arith) h.left k.left;
  failures = (let before = h.failures in let after = k.failures in omega (arith, before, after));
  failed = λ blame. still (h.failed blame);
  stops = h.stops;
}
  where
    still : HasFailed a.failures b.failures → HasFailed a.failures d.failures
    still (inl rose) = inl (let after = k.failures in omega (arith, rose, after))
    still (inr full) = inr full

pub reading_stops : (known : Type 0) (options : FollowOptions) (dir save : List ℕ) (files : Files) (fault : RunFault)
    → IsReadingFault known (files save) (files (journal_name_of save)) fault → KeepingStops known options dir save files fault
reading_stops known options dir save files fault (inl (k, is, once, h)) = subst (KeepingStops known options dir save files) (sym is)
    (ends_stops known options dir save files k h)
reading_stops known options dir save files fault (inr (inl is)) = rw is (inl tt)
reading_stops known options dir save files fault (inr (inr is)) = rw is (inl tt)

pub reading_first : (known : Type 0) (told journal : Option (List ℕ)) (fault : RunFault) → IsReadingFault known told journal fault → IsFirstKept fault
reading_first known told journal fault (inl (k, is, once, h)) = subst IsFirstKept (sym is) (ends_first k once)
reading_first known told journal fault (inr (inl is)) = rw is tt
reading_first known told journal fault (inr (inr is)) = rw is tt
