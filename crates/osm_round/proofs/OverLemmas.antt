-- A run of the follower over the folder of published sequences.
use Rattle.std.proofs.Common.{◌≡◌, ℕ, ◌<◌, ◌≤◌, zero, suc, ◌+◌, List, length, Option, Some, None, arith, ap, subst, sym, ◌∙◌}
use Rattle.std.specs.Prelude.{Result}
use Rattle.std.proofs.lemmas.Option.{same_Some}
use Rattle.osm_model.specs.Filter.{FilterValue}
use Rattle.osm_save.specs.declared.head.Head.{Head}
use Rattle.osm_save.specs.declared.save.Saved.{Saved}
use Rattle.osm_state.specs.State.{StateValue}
use Rattle.osm_state.specs.StateLaws.{NoFaultBesideState}
use Rattle.osm_state.specs.declared.paths.Suffix.TheVariants.{O5c, Opl, State}
use Rattle.osm_publisher.specs.Published.{PublishedValue, sequence_at, time_at}
use Rattle.osm_follow.proofs.PublishedLemmas.{time_next}
use Rattle.osm_store.specs.Files.{Files}
use Rattle.osm_store.specs.Frames.{MakesAtMost, StoreState}
use Rattle.osm_merge.specs.Checking.{IsNoSave}
use Rattle.osm_runs.specs.Folder.{IsFolderOf, IsStateFile, IsThere}
use Rattle.osm_runs.specs.Following.{IsOnward, IsSaved, NumberStops, last_number}
use Rattle.osm_runs.specs.Names.{file_name_of, top_name_of}
use Rattle.osm_runs.specs.Progress.{IsOfContent}
use Rattle.osm_runs.specs.Runs.{IsDeviceFault}
use Rattle.osm_runs.specs.declared.fault.FileName.TheVariants.{Sequence}
use Rattle.osm_runs.specs.declared.fault.RunFault.{RunFault}
use Rattle.osm_runs.specs.declared.fault.RunFault.TheVariants.{BadChange, BadState, Mismatch, OlderNumber, TooLarge}
use Rattle.osm_runs.proofs.InStepLemmas.{last_within, not_bad, not_earlier, not_faulty, not_faulty_opl, not_other, not_over, onward_at}
use Rattle.osm_runs.proofs.InStepLemmas.{same_time, top_number}
use Rattle.osm_round.specs.News.{TakenValue}
use Rattle.osm_round.specs.Taking.{AdvancesAll}

pub no_bad_save : (given : FilterValue) (told : Option (List ℕ)) (v : Saved) → IsSaved given told v → IsNoSave told → ⊥
no_bad_save given None v s b = (let e = b.there in cc)
no_bad_save given (Some bytes) v s b = b.none v (rw (← same_Some bytes b.file b.there) s)

-- no file of a published number is a reason to stop after a number that isn't later
pub right_number : NoFaultBesideState → (ps : List PublishedValue) (dir : List ℕ) (files : Files) → IsFolderOf ps files dir → (known : Type 0) (k : ℕ)
    (fault : RunFault) (m : ℕ) (before : Option ℕ) → known → 0 < k → k ≤ length ps → NumberStops known dir files before k fault
    → IsOnward before (sequence_at ps k).time → IsOfContent fault m → ⊥
right_number law ps dir files folder known k (TooLarge (Sequence j s)) m before sure above within h onward content =
    not_over (sequence_at ps k) s (files (file_name_of dir k s)) (folder.each k s above within) (h.1 sure).1
right_number law ps dir files folder known k (BadState (Sequence j State) cause) m before sure above within h onward content =
    not_bad law (sequence_at ps k) (files (file_name_of dir k State)) cause (folder.each k State above within) (h.1 sure)
right_number law ps dir files folder known k (Mismatch j) m before sure above within h onward content =
    not_other (sequence_at ps k) (files (file_name_of dir k State)) k (folder.sequences k above within).number_is
    (folder.each k State above within) (h.1 sure)
right_number law ps dir files folder known k (OlderNumber j) m before sure above within h onward content =
    not_earlier (sequence_at ps k) (files (file_name_of dir k State)) before k onward (folder.each k State above within) (h.1 sure)
right_number law ps dir files folder known k (BadChange (Sequence j O5c) place why) m before sure above within h onward content =
    not_faulty (sequence_at ps k) (files (file_name_of dir k O5c)) place (folder.each k O5c above within) (h.1 sure).1
right_number law ps dir files folder known k (BadChange (Sequence j Opl) place why) m before sure above within h onward content =
    not_faulty_opl (sequence_at ps k) (files (file_name_of dir k Opl)) place (folder.each k Opl above within) (h.1 sure).1
right_number law ps dir files folder known k (BadChange (Sequence j State) place why) m before sure above within h onward content = absurd h
right_number law ps dir files folder known k fault m before sure above within h onward content = absurd content

-- ---- the numbers from a head to the newest state

pub way_is : (ps : List PublishedValue) (dir : List ℕ) (files : Files) (top : StateValue) (limit : Option ℕ) (from last : ℕ) → IsFolderOf ps files dir
    → IsThere (files (top_name_of dir)) (IsStateFile top.sequence top.time) → last ≡ last_number limit from top.sequence → last ≤ length ps
way_is ps dir files top limit from last folder there is =
    let end = top_number ps (files (top_name_of dir)) top folder.sequences folder.top there in
    let within = last_within limit from top.sequence in
    omega (arith, end, within, is)

-- what was taken of them has the time of its number
pub taken_time : (ps : List PublishedValue) (dir : List ℕ) (files : Files) (f : FilterValue) (start : Head) (count : ℕ) (taken : TakenValue)
    → IsFolderOf ps files dir → start.time ≡ time_at ps start.number → AdvancesAll files dir f start count taken → taken.head.number ≤ length ps
    → taken.head.time ≡ time_at ps taken.head.number
taken_time ps dir files f start zero taken folder time (head, none) within = rw head time
taken_time ps dir files f start (suc count) taken folder time (between, before, last) within =
    let number : taken.head.number ≡ last.next.number = ap (λ (h : Head). h.number) last.head in
    let at = last.number_is in
    let same : last.next.time ≡ (sequence_at ps last.next.number).time =
    same_time _ last.next (sequence_at ps last.next.number) last.there.state
    (folder.each last.next.number State (omega (arith, at)) (omega (arith, number, within))) in
    ap (λ (h : Head). h.time) last.head
    ∙ (ap (λ (n : ℕ). Some n) same
    ∙ (sym (time_next ps between.head.number last.next.number at) ∙ ap (time_at ps) (sym number)))

-- a run that came to a faulty number didn't go over the folder of published sequences
pub never_faulty : NoFaultBesideState → {T : Type 0} (ps : List PublishedValue) (dir : List ℕ) (files : Files) (known : Type 0) (head : Head)
    (fault : RunFault) (most : ℕ) (a b : StoreState) (r : Result T RunFault) → IsFolderOf ps files dir → known → head.number < length ps
    → head.time ≡ time_at ps head.number → NumberStops known dir files head.time (head.number + 1) fault → IsOfContent fault (head.number + 1)
    → MakesAtMost IsDeviceFault most a b r
never_faulty law ps dir files known head fault most a b r folder sure below time h content =
    absurd (right_number law ps dir files folder known (head.number + 1) fault (head.number + 1) head.time sure (omega arith) (omega (arith, below)) h
    (subst (λ o. IsOnward o (sequence_at ps (head.number + 1)).time) (sym time) (onward_at ps head.number folder.rising below)) content)
