-- What of a save text is ahead, and why a part of it isn't read.
use Rattle.std.proofs.Common.{◌≡◌, ℕ, List, Option, Some, None, inl, inr, refl, sym, ap, ◌∙◌}
use Rattle.std.specs.Prelude.{◌⊎◌, ◌↔◌, Bool, Err, IfSome, IsTrue, Ok, false, true}
use Rattle.std.proofs.lemmas.Option.{same_Some}
use Rattle.osm_blocks.specs.Calls.{Advances}
use Rattle.osm_blocks.specs.Places.{HasFile, IsHuge, Place}
use Rattle.osm_mirror.specs.Mirror.{Counted}
use Rattle.osm_model.specs.Change.{ChangeValue}
use Rattle.osm_model.specs.declared.kind.Key.{Key}
use Rattle.osm_net.specs.Laid.{laid_over}
use Rattle.osm_net.specs.Net.{NetEntry}
use Rattle.osm_reading.specs.Answers.{and_then}
use Rattle.osm_reading.proofs.StepLemmas.{some_then}
use Rattle.osm_save.specs.Head.{BeginsSave, most_counted}
use Rattle.osm_save.specs.Save.{SpellsSave}
use Rattle.osm_save.specs.declared.head.Head.{Head}
use Rattle.osm_save.specs.declared.save.Saved.{Saved}
use Rattle.osm_save.proofs.HeadLemmas.{head_begins, one_head}
use Rattle.osm_store.specs.Frames.{StoreState}
use Rattle.osm_runs.specs.Checking.{IsTooLarge, read_fault_of}
use Rattle.osm_merge.specs.Faults as merges
use Rattle.osm_merge.specs.Mirrors.{both_at}
use Rattle.osm_merge.specs.Reading.{LineStops}
use Rattle.osm_merge.specs.declared.fault.MergeFault.{MergeFault}
use Rattle.osm_merge.specs.declared.fault.MergeFault.TheVariants as faults
use Rattle.osm_merge.specs.declared.opening.Opening.{Opening}
use Rattle.osm_merged.specs.Ahead.{Ahead}
use Rattle.osm_merged.specs.Laws.{SavedIsAhead}
use Rattle.osm_merged.specs.Opening.{BeginsMerged}
use Rattle.osm_runs.specs.Runs.{IsDeviceFault}
use Rattle.osm_runs.specs.declared.fault.RunFault.{RunFault}
use Rattle.osm_runs.specs.declared.fault.RunFault.TheVariants.{Absent, BadSave, Changed, ReadFault, TooLarge, WantOfMemory, WriteFault}
use Rattle.osm_runs.proofs.FrameLemmas.{blames_device}
use Rattle.osm_exporting.specs.Steps.Copying.{IsAllRead, PassStops, StageStops, ahead_in, all_in}
use Rattle.osm_exporting.specs.declared.objects.SavedObjects.{SavedObjects}

-- what is read of all
abbrev Whole : Type 0
Whole = List ChangeValue × (List Counted × List Counted)

-- ---- the faults of a save text as those of a run

pub line_stops : {A : Type 0} (state : StoreState) (name : List ℕ) (reading : List ℕ → Option A) (fault : MergeFault)
    → ((file : List ℕ) → HasFile state name file → LineStops file fault (reading file))
    → PassStops state name (λ file. reading file ≡ None) (read_fault_of fault)
line_stops state name reading faults.ReadFault r = refl
line_stops state name reading faults.WriteFault r = refl
line_stops state name reading faults.WantOfMemory r = tt
line_stops state name reading faults.NoSave r = (refl, r)
line_stops state name reading (faults.BadSave line) r = r
line_stops state name reading faults.LongLine r = (refl, λ file has. inr (r file has))
line_stops state name reading faults.TooLarge r = (refl, λ file has. inl (r file has))
line_stops state name reading faults.Changed r = (refl, r)

pub advances_still : {T : Type 0} {before : ℕ} {after : T → ℕ} (a b : StoreState) (x : T) → Advances merges.IsDeviceFault before after a b (Ok x)
    → Advances IsDeviceFault before after a b (Ok x)
advances_still a b x p = record { spent = p.spent; lacks = tt }

pub advances_told : {T : Type 0} {before : ℕ} {after : T → ℕ} (a b : StoreState) (fault : MergeFault)
    → Advances {T = T} merges.IsDeviceFault before after a b (Err fault) → Advances {T = T} IsDeviceFault before after a b (Err (read_fault_of fault))
advances_told a b fault p = record { spent = tt; lacks = λ blame. p.lacks (blames_device fault blame) }

-- ---- why a save text isn't read

-- a file that was opened, of which a part can't be read only if it is the save text of nothing
pub record IsHeld (state : StoreState) (name : List ℕ) (told : Option (List ℕ)) (Unreadable : List ℕ → Type 0) : Type 0 where
  pub file : List ℕ
  pub there : told ≡ Some file
  pub has : HasFile state name file
  pub nothing : Unreadable file → (v : Saved) → SpellsSave file v → ⊥

pub part_stops : (state : StoreState) (name : List ℕ) (known : Type 0) (told : Option (List ℕ)) (U : List ℕ → Type 0) (fault : RunFault)
    → (known → IsHeld state name told U) → PassStops state name U fault → StageStops known told fault
part_stops state name known told U WantOfMemory held r = tt
part_stops state name known told U (ReadFault file) held r = r
part_stops state name known told U (WriteFault file) held r = r
part_stops state name known told U (BadSave line) held r = λ yes.
    let h = held yes in record { file = h.file; there = h.there; none = h.nothing (r h.file h.has) }
part_stops state name known told U (TooLarge file) held r = (r.0, λ yes. by_reason (held yes) (r.1 (held yes).file (held yes).has))
  where
    by_reason : (h : IsHeld state name told U) → IsHuge h.file ⊎ U h.file → IsTooLarge told
    by_reason h (inl huge) = inl (record { file = h.file; there = h.there; huge = huge })
    by_reason h (inr bad) = inr (record { file = h.file; there = h.there; none = h.nothing bad })
part_stops state name known told U (Absent file) held r = (r.0, λ yes. absurd (r.1 (held yes).file (held yes).has))
part_stops state name known told U (Changed file) held r = (r.0, λ yes. r.1 (held yes).file (held yes).has)
part_stops state name known told U fault held r = absurd r

-- ---- what is ahead of a save text that was opened

module _ (o : Opening) (objects : SavedObjects) (file : List ℕ) where
  -- if the objects can't be read, not all can
  pub all_nothing : ahead_in o.filter objects file ≡ None → all_in o objects file ≡ None
  all_nothing none = rw none refl

  module _ (values : List ChangeValue) (after : List ℕ) (read : ahead_in o.filter objects file ≡ Some (values, after)) where
    pub rest_nothing : both_at (most_counted o.head) after ≡ None → all_in o objects file ≡ None
    rest_nothing none = rw (read, none) refl

    pub all_read : (counts : List Counted × List Counted) → both_at (most_counted o.head) after ≡ Some counts → IsAllRead o objects file values
    all_read counts both = (counts, rw (read, both) refl)

  -- what is read of all is read of its parts
  pub record Parts (values : List ChangeValue) (counts : List Counted × List Counted) : Type 0 where
    pub after : List ℕ
    pub ahead : ahead_in o.filter objects file ≡ Some (values, after)
    pub both : both_at (most_counted o.head) after ≡ Some counts

  pub parts_of : (values : List ChangeValue) (counts : List Counted × List Counted) → all_in o objects file ≡ Some (values, counts) → Parts values counts
  parts_of values counts is =
      let r = some_then (ahead_in o.filter objects file)
      (λ (r : List ChangeValue × List ℕ). and_then {A = List Counted × List Counted} {B = Whole} (both_at (most_counted o.head) r.1) (λ c. Some (r.0, c)))
      (values, counts) is in
      let c = some_then (both_at (most_counted o.head) r.0.1) (λ (c : List Counted × List Counted). Some (r.0.0, c)) (values, counts) r.2 in
      let same : ◌≡◌ {A = Whole} (r.0.0, c.0) (values, counts) = same_Some (r.0.0, c.0) (values, counts) c.2 in
      record {
        after = r.0.1;
        ahead = r.1 ∙ ap (λ (w : Whole). Some (w.0, r.0.1)) same;
        both = c.1 ∙ ap (λ (w : Whole). Some w.1) same;
      }

-- all of a save text can be read
pub none_saved : SavedIsAhead → (told : Option (List ℕ)) (es : List NetEntry) (o : Opening) (objects : SavedObjects)
    → (at : BeginsMerged told es objects.source o objects.merged) → all_in o objects at.file ≡ None → (v : Saved) → SpellsSave at.file v → ⊥
none_saved found told es o objects at none v spells =
    let h = found told es objects.source o objects.merged at v spells in
    let all = all_read o objects at.file (laid_over es v.mirror.objects) h.after h.objects (v.mirror.users, v.mirror.changesets) h.counts in
    let bad : ◌≡◌ {A = Option Whole} None (Some (laid_over es v.mirror.objects, all.0)) = sym none ∙ all.1 in cc

-- it has the head that fits it
module _ (told : Option (List ℕ)) (es : List NetEntry) (place : Place) (o : Opening) (a : Ahead NetEntry ChangeValue Key)
    (at : BeginsMerged told es place o a) where
  same_head : (read : Option Head) → IfSome read (λ head. (text : List ℕ) → told ≡ Some text → BeginsSave text head)
      → IfSome read (λ before. before ≡ o.head)
  same_head None fits = tt
  same_head (Some head) fits =
      one_head at.file head o.head (fits at.file at.there) (head_begins at.file (o.version, o.head, o.filter, at.rest) at.head)

  pub other_head : (read : Option Head) (t : Bool) → (IsTrue t ↔ IfSome read (λ before. before ≡ o.head)) → t ≡ false
      → IfSome read (λ head. (text : List ℕ) → told ≡ Some text → BeginsSave text head) → ⊥
  other_head read t tests isnt fits =
      let is : t ≡ true = tests.1 (same_head read fits) in
      let bad : true ≡ false = sym is ∙ isnt in cc
