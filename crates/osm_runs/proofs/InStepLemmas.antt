-- A run of the follower over the folder of published sequences.
use Rattle.std.proofs.Common.{◌≡◌, ℕ, zero, suc, ◌+◌, ◌<◌, ◌≤◌, List, ◌++◌, length, Option, Some, None, inl, inr, arith, sym, ap, subst, ◌∙◌}
use Rattle.std.proofs.lemmas.Option.{same_Some}
use Rattle.osm_mirror.specs.Mirror.{IsMirrorOf}
use Rattle.osm_model.specs.Filter.{FilterValue}
use Rattle.osm_mirror.proofs.MirrorLemmas.{mirror_grown}
use Rattle.osm_o5c.proofs.FrontLemmas as o5c_file
use Rattle.osm_opl.proofs.FileLaws as opl_file
use Rattle.osm_save.proofs.SaveLemmas.{one_save}
use Rattle.osm_save.specs.declared.save.Saved.{Saved}
use Rattle.osm_state.proofs.StateLemmas.{one_state}
use Rattle.osm_state.specs.State.{StateValue}
use Rattle.osm_state.specs.StateLaws.{NoFaultBesideState}
use Rattle.osm_state.specs.declared.paths.Suffix.{Suffix}
use Rattle.osm_state.specs.declared.paths.Suffix.TheVariants.{O5c, Opl, State}
use Rattle.osm_state.specs.declared.state_text.StateError.{StateError}
use Rattle.osm_follow.proofs.PublishedLemmas.{after_next, changes_next, time_next}
use Rattle.osm_publisher.specs.Published.{AreSequences, PublishedValue, changes_after, changes_at, changes_up_to, sequence_at, time_at}
use Rattle.osm_store.specs.Files.{Files, IsOver}
use Rattle.osm_runs.specs.Folder.{IsAbsentOr, IsFile, IsFolderOf, IsStateFile, IsThere, IsTop, NeverFall}
use Rattle.osm_runs.specs.Following.{Adds, AddsAll, AreChanges, IsInStep}
use Rattle.osm_runs.specs.Following.{HasEarlier, IsEarlier, IsOnward, IsSaved, NamesOther, NumberStops}
use Rattle.osm_runs.specs.Following.{last_number, limit_of}
use Rattle.osm_runs.specs.Forms.{IsFaulty}
use Rattle.osm_runs.specs.Progress.{IsOfContent}
use Rattle.osm_runs.specs.Folder.{IsBadState}
use Rattle.osm_runs.specs.declared.fault.FileName.TheVariants.{Sequence}
use Rattle.osm_runs.specs.declared.fault.RunFault.{RunFault}
use Rattle.osm_runs.specs.declared.fault.RunFault.TheVariants.{BadChange, BadState, Mismatch, OlderNumber, TooLarge}
use Rattle.osm_runs.specs.declared.form.Form.TheVariants as forms
use Rattle.osm_runs.proofs.TakingLemmas.{adds_number}

-- a save saves one thing
pub one_saved : (given : FilterValue) (told : Option (List ℕ)) (a b : Saved) → IsSaved given told a → IsSaved given told b → a ≡ b
one_saved given None a b p q = p ∙ sym q
one_saved given (Some bytes) a b p q = one_save bytes a b p q

-- the top state names the last published sequence
pub top_number : (ps : List PublishedValue) (told : Option (List ℕ)) (top : StateValue) → AreSequences ps
    → IsTop ps told → IsThere told (IsStateFile top.sequence top.time) → top.sequence ≡ length ps
top_number ps None top each t there = absurd there
top_number ps (Some bytes) top each (inl a) there = absurd (let e = a.1 in cc)
top_number ps (Some bytes) top each (inr a) there =
    ap (λ (s : StateValue). s.sequence) (one_state bytes top _ there.names a.1.names) ∙ (each (length ps) a.0 (omega arith)).number_is

-- the state and the changes of a number's files are the published ones
pub same_time : (told : Option (List ℕ)) (p q : PublishedValue) → IsThere told (IsFile State p) → IsAbsentOr told (IsFile State q) → p.time ≡ q.time
same_time None p q a b = absurd a
same_time (Some bytes) p q a b = ap (λ (s : StateValue). s.time) (one_state bytes _ _ a.names b.names)

same_opl : (told : Option (List ℕ)) (p q : PublishedValue) → IsThere told (IsFile Opl p) → IsAbsentOr told (IsFile Opl q) → p.changes ≡ q.changes
same_opl None p q a b = absurd a
same_opl (Some bytes) p q a b = opl_file.one_batch bytes p.changes q.changes a.1 b.1

same_changes : (o5c opl : Option (List ℕ)) (p q : PublishedValue) → AreChanges o5c opl p → IsAbsentOr o5c (IsFile O5c q)
    → IsAbsentOr opl (IsFile Opl q) → p.changes ≡ q.changes
same_changes None opl p q a b c = same_opl opl p q a c
same_changes (Some bytes) opl p q a b c = o5c_file.one_batch bytes p.changes q.changes a.1 b.1

-- one more number
step_in_step : (given : FilterValue) (ps : List PublishedValue) (files : Files) (dir : List ℕ) (old new : Saved) → IsFolderOf ps files dir
    → old.number + 1 ≤ length ps → Adds files dir old new → IsInStep ps given old → IsInStep ps given new
step_in_step given ps files dir old new folder within add step =
    let is = add.number_is in
    let at : add.next.number ≤ length ps = omega (arith, is) in
    let above : 0 < add.next.number = omega (arith, is) in
    let time : add.next.time ≡ (sequence_at ps add.next.number).time =
    same_time _ add.next (sequence_at ps add.next.number) add.there.state
    (folder.each add.next.number State above at) in
    let changes : add.next.changes ≡ changes_at ps add.next.number =
    same_changes _ _ add.next (sequence_at ps add.next.number) add.there.changes
    (folder.each add.next.number O5c above at) (folder.each add.next.number Opl above at) in
    let grown : IsMirrorOf given (changes_up_to ps old.number ++ add.next.changes) (changes_after ps old.base old.number ++ add.next.changes) new.mirror =
    mirror_grown given old.mirror new.mirror (changes_up_to ps old.number) (changes_after ps old.base old.number) add.next.changes step.mirror
    (rw (← step.filter_is) add.applied) in
    let joined : changes_up_to ps add.next.number ≡ changes_up_to ps old.number ++ add.next.changes =
    changes_next ps old.number add.next.number is at ∙ ap (λ cs. changes_up_to ps old.number ++ cs) (sym changes) in
    let below = step.base in
    let same_base = add.base in
    let counted : changes_after ps old.base add.next.number ≡ changes_after ps old.base old.number ++ add.next.changes =
    after_next ps old.base old.number add.next.number is below at ∙ ap (λ cs. changes_after ps old.base old.number ++ cs) (sym changes) in
    record {
      within = rw add.number at;
      base = rw (add.number, same_base) (omega (arith, is, below));
      filter_is = add.same_filter ∙ step.filter_is;
      mirror = rw (add.number, same_base, joined, counted) grown;
      time = add.time ∙ (ap (λ (n : ℕ). Some n) time ∙ rw add.number (sym (time_next ps old.number add.next.number is)));
    }

-- that many more numbers
pub all_in_step : (given : FilterValue) (ps : List PublishedValue) (files : Files) (dir : List ℕ) (count : ℕ) (old new : Saved)
    → IsFolderOf ps files dir → old.number + count ≤ length ps → AddsAll files dir count old new → IsInStep ps given old
    → IsInStep ps given new
all_in_step given ps files dir zero old new folder within add step = rw add step
all_in_step given ps files dir (suc count) old new folder within (between, before, last) step =
    let number = adds_number files dir count old between before in
    step_in_step given ps files dir between new folder (omega (arith, number)) last
    (all_in_step given ps files dir count old between folder (omega arith) before step)

-- a run goes no further than the top
pub last_within : (limit : Option ℕ) (number top : ℕ) → last_number limit number top ≤ top
last_within None number top = omega arith
last_within (Some limit) number top = omega arith

pub top_time : (ps : List PublishedValue) (told : Option (List ℕ)) (top : StateValue) → IsTop ps told
    → IsThere told (IsStateFile top.sequence top.time) → top.time ≡ (sequence_at ps (length ps)).time
top_time ps None top t there = absurd there
top_time ps (Some bytes) top (inl a) there = absurd (let e = a.1 in cc)
top_time ps (Some bytes) top (inr a) there = ap (λ (s : StateValue). s.time) (one_state bytes top _ there.names a.1.names)

-- a right file is no reason to stop
pub not_faulty : (p : PublishedValue) (told : Option (List ℕ)) (place : ℕ) → IsAbsentOr told (IsFile O5c p)
    → IsThere told (λ bytes. IsFaulty forms.O5c bytes place) → ⊥
not_faulty p None place a b = b
not_faulty p (Some bytes) place a b = b.nothing p.changes a.1

pub not_faulty_opl : (p : PublishedValue) (told : Option (List ℕ)) (place : ℕ) → IsAbsentOr told (IsFile Opl p)
    → IsThere told (λ bytes. IsFaulty forms.Opl bytes place) → ⊥
not_faulty_opl p None place a b = b
not_faulty_opl p (Some bytes) place a b = b.nothing p.changes a.1

pub not_over : (p : PublishedValue) (s : Suffix) (told : Option (List ℕ)) → IsAbsentOr told (IsFile s p) → IsOver (limit_of s) told → ⊥
not_over p s None a o = (let e = o.there in cc)
not_over p State (Some bytes) a o =
    let long = ap length (same_Some bytes o.bytes o.there) in
    let over = o.over in
    let small = a.small in
    omega (arith, long, over, small)
not_over p O5c (Some bytes) a o =
    let long = ap length (same_Some bytes o.bytes o.there) in
    let over = o.over in
    let small = a.0 in
    omega (arith, long, over, small)
not_over p Opl (Some bytes) a o =
    let long = ap length (same_Some bytes o.bytes o.there) in
    let over = o.over in
    let small = a.0 in
    omega (arith, long, over, small)

pub not_bad : NoFaultBesideState → (p : PublishedValue) (told : Option (List ℕ)) (cause : StateError)
    → IsAbsentOr told (IsFile State p) → IsBadState told cause → ⊥
not_bad law p None cause a b = (let e = b.there in cc)
not_bad law p (Some bytes) cause a b = law bytes _ cause a.names (rw (same_Some bytes b.bytes b.there) b.fault)

pub not_other : (p : PublishedValue) (told : Option (List ℕ)) (number : ℕ) → p.number ≡ number → IsAbsentOr told (IsFile State p) → NamesOther told number → ⊥
not_other p None number is a o = o.3
not_other p (Some bytes) number is a o = o.2 (ap (λ (s : StateValue). s.sequence) (one_state bytes _ _ o.3.names a.names) ∙ is)

-- so is one with a time that isn't earlier
onward_not : (before : Option ℕ) (time : ℕ) → IsOnward before time → IsEarlier before time → ⊥
onward_not None time on e = e
onward_not (Some before) time on e = omega (arith, on, e)

pub not_earlier : (p : PublishedValue) (told : Option (List ℕ)) (before : Option ℕ) (number : ℕ) → IsOnward before p.time → IsAbsentOr told (IsFile State p)
    → HasEarlier told before number → ⊥
not_earlier p None before number on a e = e.2
not_earlier p (Some bytes) before number on a e =
    onward_not before p.time on
    (subst (IsEarlier before) (ap (λ (s : StateValue). s.time) (one_state bytes (record { sequence = number; time = e.0 }) _ e.2.names a.names)) e.1)

-- no published number has a time before that of the one before it
pub onward_at : (ps : List PublishedValue) (n : ℕ) → NeverFall ps → n < length ps → IsOnward (time_at ps n) (sequence_at ps (n + 1)).time
onward_at ps zero rising below = tt
onward_at ps (suc n) rising below = rising (suc n) (omega arith) below

-- the number that a fault names
pub stops_number : (known : Type 0) (dir : List ℕ) (files : Files) (before : Option ℕ) (n number : ℕ) (fault : RunFault)
    → NumberStops known dir files before n fault → IsOfContent fault number → n ≡ number
stops_number known dir files before n number (TooLarge (Sequence j suffix)) h c = sym h.0 ∙ c
stops_number known dir files before n number (BadState (Sequence j State) cause) h c = sym h.0 ∙ c
stops_number known dir files before n number (Mismatch j) h c = sym h.0 ∙ c
stops_number known dir files before n number (OlderNumber j) h c = sym h.0 ∙ c
stops_number known dir files before n number (BadChange (Sequence j O5c) place why) h c = sym h.0 ∙ c
stops_number known dir files before n number (BadChange (Sequence j Opl) place why) h c = sym h.0 ∙ c
stops_number known dir files before n number (BadChange (Sequence j State) place why) h c = absurd h
stops_number known dir files before n number fault h c = absurd c
