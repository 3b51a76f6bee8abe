-- No file of a whole folder stops a run, and a run of the follower comes as far as it may.
use Rattle.std.proofs.Common.{◌≡◌, ℕ, zero, suc, ◌+◌, ◌<◌, ◌≤◌, List, length, Option, Some, None, Ok, inl, inr, true, false, arith, sym, subst, ◌∙◌}
use Rattle.std.proofs.lemmas.Bool.{cases_lt}
use Rattle.std.specs.Prelude.{◌||◌, ◌&&◌, ◌⊎◌, Bool, IsTrue, is_none}
use Rattle.osm_model.specs.Limits.{max_file}
use Rattle.osm_save.specs.declared.save.Saved.{Saved}
use Rattle.osm_state.specs.State.{StateValue}
use Rattle.osm_state.specs.StateLaws.{NoFaultBesideState}
use Rattle.osm_state.specs.declared.paths.Suffix.{Suffix}
use Rattle.osm_state.specs.declared.paths.Suffix.TheVariants.{O5c, Opl, State}
use Rattle.osm_publisher.specs.Published.{PublishedValue, sequence_at}
use Rattle.osm_store.specs.Files.{Files, IsOver}
use Rattle.osm_runs.specs.Folder.{IsAbsentOr, IsFile, IsFolderOf, IsStateFile, IsThere, max_state}
use Rattle.osm_runs.specs.Following.{AddsAll, AreChanges, HasFiles, IsEarlier, IsReached, IsReadable, IsTopState, MissingStops, NumberStops, is_lost}
use Rattle.osm_runs.specs.Following.{last_number, limited}
use Rattle.osm_runs.specs.Names.{file_name_of, top_name_of}
use Rattle.osm_runs.specs.Following.{AreFilesOf}
use Rattle.osm_runs.specs.Progress as progress
use Rattle.osm_runs.specs.Progress.{IsOfContent}
use Rattle.osm_publishing.specs.Publication.{CutsOff, HasTop, IsBig, IsReadWith, NotReady, PublishStops}
use Rattle.osm_runs.specs.Folder.{IsBadState}
use Rattle.osm_runs.specs.Reports.{ReportValue}
use Rattle.osm_runs.specs.declared.fault.FileName.{FileName}
use Rattle.osm_runs.specs.declared.fault.FileName.TheVariants.{Top, Sequence, Save, Journal, Changes}
use Rattle.osm_runs.specs.declared.fault.RunFault.{RunFault}
use Rattle.osm_runs.specs.declared.fault.RunFault.TheVariants.{WantOfMemory, ReadFault, TooLarge, Absent, BadState, Mismatch, OlderNumber, BadChange}
use Rattle.osm_runs.specs.declared.form.Form.TheVariants as forms
use Rattle.osm_runs.specs.declared.options.FollowOptions.{FollowOptions}
use Rattle.osm_runs.specs.declared.progress.Progress.{Progress}
use Rattle.osm_runs.specs.declared.progress.Progress.TheVariants.{Before, Part, Whole}
use Rattle.osm_runs.proofs.TakingLemmas.{adds_number}
use Rattle.osm_runs.proofs.InStepLemmas.{last_within}
use Rattle.osm_round.specs.Keeping.{GoesOnFrom, GoesOnKept, GoesUpTo}
use Rattle.osm_round.specs.KeepingStops.{BeginningStops, KeepingStops}
use Rattle.osm_audit.specs.Audit.{IsLast}
use Rattle.osm_operations.specs.WholeFolders.{IsFolderFile, IsOfFolder, IsWholeAfter, ReachesLast}
use Rattle.osm_audit.specs.Whole.{IsWhole}
use Rattle.osm_audit.proofs.StateLemmas.{bad_state, one_file, over_state}
use Rattle.osm_audit.proofs.WholeLemmas.{AreOf, absent_changes, faulty_there, state_of, whole_at}

-- ---- a number can be read

changes_are : (state o5c opl : Option (List ℕ)) (p : PublishedValue) → IsAbsentOr o5c (IsFile O5c p) → IsAbsentOr opl (IsFile Opl p)
    → (is_none state || (is_none o5c && is_none opl)) ≡ false → AreChanges o5c opl p
changes_are state (Some bytes) opl p a b found = a
changes_are state None (Some bytes) p a b found = b
changes_are None None None p a b found = absurd (let e : true ≡ false = found in cc)
changes_are (Some bytes) None None p a b found = absurd (let e : true ≡ false = found in cc)

pub whole_is_readable : (files : Files) (dir : List ℕ) (from to k : ℕ) → 0 < from → IsWhole files dir from to → from ≤ k → k ≤ to
    → IsReadable files dir k × (is_lost files dir k ≡ false)
whole_is_readable files dir from to k above w low high =
    let count = w.count in
    let p = sequence_at w.published k in
    let is = w.each k low high in (
      (
        p,
        (w.sequences k (omega (arith, above, low)) (omega (arith, high, count))).number_is,
        record {
          state = is.state;
          changes = changes_are (files (file_name_of dir p.number State)) (files (file_name_of dir p.number O5c)) (files (file_name_of dir p.number Opl)) p
              is.o5c is.opl is.found;
        },
      ),
      (whole_at files dir from to k above w low high).found,
    )

-- ---- what stops a run

number_stops : NoFaultBesideState → (known : Type 0) (dir : List ℕ) (files : Files) (before : Option ℕ) (k : ℕ) (p : PublishedValue) (fault : RunFault)
    → known → AreOf files dir k p → NumberStops known dir files before k fault → IsOfFolder fault → ⊥
number_stops apart known dir files before k p (TooLarge (Sequence n State)) sure are s f =
    over_state (files (file_name_of dir k State)) k p.time (s.1 sure).1 are.state
number_stops apart known dir files before k p (TooLarge (Sequence n O5c)) sure are s f =
    absent_changes forms.O5c (files (file_name_of dir k O5c)) p.changes (s.1 sure).1 are.o5c
number_stops apart known dir files before k p (TooLarge (Sequence n Opl)) sure are s f =
    absent_changes forms.Opl (files (file_name_of dir k Opl)) p.changes (s.1 sure).1 are.opl
number_stops apart known dir files before k p (BadState (Sequence n State) cause) sure are s f =
    bad_state apart (files (file_name_of dir k State)) k p.time cause (s.1 sure) are.state
number_stops apart known dir files before k p (Mismatch n) sure are s f =
    let other = s.1 sure in
    other.2 (one_file (files (file_name_of dir k State)) other.0 k other.1 p.time other.3 are.state).0
number_stops apart known dir files before k p (BadChange (Sequence n O5c) place why) sure are s f =
    faulty_there forms.O5c (files (file_name_of dir k O5c)) place p.changes (s.1 sure).1 are.o5c
number_stops apart known dir files before k p (BadChange (Sequence n Opl) place why) sure are s f =
    faulty_there forms.Opl (files (file_name_of dir k Opl)) place p.changes (s.1 sure).1 are.opl
number_stops apart known dir files before k p (OlderNumber n) sure are s f = f
number_stops apart known dir files before k p WantOfMemory sure are s f = f
number_stops apart known dir files before k p (ReadFault file) sure are s f = f
number_stops apart known dir files before k p fault sure are s f = absurd s

-- the newest state is why a run stops
abbrev IsTopFault : Option (List ℕ) → RunFault → Type 0
IsTopFault told (Absent file) = told ≡ None
IsTopFault told (TooLarge file) = IsOver max_state told
IsTopFault told (BadState file cause) = IsBadState told cause
IsTopFault told fault = ⊥

top_there : NoFaultBesideState → (files : Files) (dir : List ℕ) (to : ℕ) (fault : RunFault) → IsLast None dir files to
    → IsTopFault (files (top_name_of dir)) fault → ⊥
top_there apart files dir to (Absent file) last f =
    subst (λ (o : Option (List ℕ)). IsThere o (IsStateFile to last.0)) f last.1
top_there apart files dir to (TooLarge file) last f = over_state (files (top_name_of dir)) to last.0 f last.1
top_there apart files dir to (BadState file cause) last f = bad_state apart (files (top_name_of dir)) to last.0 cause f last.1
top_there apart files dir to fault last f = f

beginning_stops : NoFaultBesideState → (known : Type 0) (options : FollowOptions) (dir save : List ℕ) (files : Files) (to : ℕ) (fault : RunFault)
    → known → IsLast None dir files to → BeginningStops known options dir save files fault → IsOfFolder fault → ⊥
beginning_stops apart known options dir save files to (Absent Top) sure last s f = top_there apart files dir to (Absent Top) last (s sure).1
beginning_stops apart known options dir save files to (TooLarge Top) sure last s f = top_there apart files dir to (TooLarge Top) last (s sure).1
beginning_stops apart known options dir save files to (BadState Top cause) sure last s f =
    top_there apart files dir to (BadState Top cause) last (s sure).1
beginning_stops apart known options dir save files to (Absent Save) sure last s f = f
beginning_stops apart known options dir save files to (TooLarge Save) sure last s f = f
beginning_stops apart known options dir save files to (TooLarge Journal) sure last s f = f
beginning_stops apart known options dir save files to (Absent file) sure last s f = s
beginning_stops apart known options dir save files to (TooLarge file) sure last s f = s
beginning_stops apart known options dir save files to (BadState file cause) sure last s f = s
beginning_stops apart known options dir save files to (Mismatch n) sure last s f = s
beginning_stops apart known options dir save files to (BadChange file place why) sure last s f = s
beginning_stops apart known options dir save files to fault sure last s f = f

missing_stops : (known : Type 0) (dir : List ℕ) (files : Files) (reached last : ℕ) (fault : RunFault)
    → MissingStops known dir files reached last fault → IsOfFolder fault → ⊥
missing_stops known dir files reached last (Absent file) s f = s
missing_stops known dir files reached last (TooLarge file) s f = s
missing_stops known dir files reached last (BadState file cause) s f = s
missing_stops known dir files reached last (Mismatch n) s f = s
missing_stops known dir files reached last (BadChange file place why) s f = s
missing_stops known dir files reached last fault s f = f

-- the newest state is that of the last number
top_is_last : (files : Files) (dir : List ℕ) (to : ℕ) (top : StateValue) → IsLast None dir files to → IsTopState (files (top_name_of dir)) top
    → top.sequence ≡ to
top_is_last files dir to top last there = (one_file (files (top_name_of dir)) top.sequence to top.time last.0 there last.1).0

-- no file of a number that a run may take stops it
number_at : NoFaultBesideState → (known : Type 0) (options : FollowOptions) (dir save : List ℕ) (files : Files) (from to : ℕ)
    (before : Option ℕ) (k : ℕ) (start : Saved) (top : StateValue) (fault : RunFault) → known
    → IsWholeAfter options.filter dir save files from to start → IsTopState (files (top_name_of dir)) top
    → start.number < k → k ≤ last_number options.limit start.number top.sequence → NumberStops known dir files before k fault
    → IsOfFolder fault → ⊥
number_at apart known options dir save files from to before k start top fault sure w there after until stops f =
    let next = w.next in
    let same = top_is_last files dir to top w.last there in
    let below = last_within options.limit start.number top.sequence in
    number_stops apart known dir files before k (sequence_at w.whole.published k) fault sure
    (whole_at files dir from to k w.above w.whole (omega (arith, next, after)) (omega (arith, until, below, same))) stops f

pub whole_is_followed : NoFaultBesideState → (is_known : Bool) (options : FollowOptions) (dir save : List ℕ) (files : Files) (from to : ℕ)
    (start : Saved) (fault : RunFault) → IsTrue is_known → IsWholeAfter options.filter dir save files from to start
    → KeepingStops (IsTrue is_known) options dir save files fault → IsOfFolder fault → ⊥
whole_is_followed apart known options dir save files from to start fault sure w (inl s) f =
    beginning_stops apart (IsTrue known) options dir save files to fault sure w.last s f
whole_is_followed apart known options dir save files from to start fault sure w (inr (inl s)) f =
    let comes = s.comes sure start w.kept in
    number_at apart (IsTrue known) options dir save files from to s.before s.number start s.top fault sure w (s.top_is sure) comes.above comes.until s.stops f
whole_is_followed apart known options dir save files from to start fault sure w (inr (inr s)) f =
    missing_stops (IsTrue known) dir files s.reached s.last fault s.stops f

-- ---- how far a run comes

-- what was taken last
adds_last : (files : Files) (dir : List ℕ) (count : ℕ) (old new : Saved) → 0 < count → AddsAll files dir count old new
    → (p : PublishedValue) × (new.number ≡ p.number) × (new.time ≡ Some p.time) × HasFiles files dir p
adds_last files dir zero old new some added = absurd (omega (arith, some))
adds_last files dir (suc count) old new some (between, before, last) = (last.next, last.number, last.time, last.there)

-- its times never fall, so no number is older than the one that was taken before it
not_older : (known : Type 0) (options : FollowOptions) (dir save : List ℕ) (old new : Files) (from to j : ℕ) (start : Saved) (report : ReportValue)
    → known → IsWholeAfter options.filter dir save old from to start → GoesUpTo known options dir save old new (OlderNumber j) report start → ⊥
not_older known options dir save old new from to j start report sure w run =
    let r = run.reached.number in
    let last = adds_last old dir run.count start run.reached run.some run.added in
    let number = adds_number old dir run.count start run.reached run.added in
    let some = run.some in
    let next = w.next in
    let below = run.below in
    let end = last_within options.limit start.number run.top.sequence in
    let same = top_is_last old dir to run.top w.last run.starts.top_is in
    let low : from ≤ r = omega (arith, next, number, some) in
    let high : r < to = omega (arith, below, end, same) in
    let early = run.stops.1 sure in
    let here = whole_at old dir from to r w.above w.whole low (omega (arith, high)) in
    let after = whole_at old dir from to (r + 1) w.above w.whole (omega (arith, low)) (omega (arith, high)) in
    let rising = w.whole.rising r low high in
    let time : last.0.time ≡ (sequence_at w.whole.published r).time = (one_file (old (file_name_of dir r State)) r r last.0.time
    (sequence_at w.whole.published r).time (subst (λ (n : ℕ). IsThere (old (file_name_of dir n State)) (IsStateFile n last.0.time)) (sym last.1)
    last.3.state) here.state).1 in
    let earlier : early.0 ≡ (sequence_at w.whole.published (r + 1)).time = (one_file (old (file_name_of dir (r + 1) State)) (r + 1) (r + 1) early.0
    (sequence_at w.whole.published (r + 1)).time early.2 after.state).1 in
    let falls : early.0 < last.0.time = subst (λ (o : Option ℕ). IsEarlier o early.0) last.2 early.1 in
    omega (arith, time, earlier, falls, rising)

not_before : NoFaultBesideState → (known : Type 0) (options : FollowOptions) (dir save : List ℕ) (old new : Files) (from to : ℕ) (start : Saved)
    (report : ReportValue) (fault : RunFault) → known → IsWholeAfter options.filter dir save old from to start
    → GoesUpTo known options dir save old new fault report start → ⊥
not_before apart known options dir save old new from to start report fault sure w run = by_fault fault run run.content
  where
    of_folder : (x : RunFault) (run : GoesUpTo known options dir save old new x report start) → IsOfFolder x → ⊥
    of_folder x run is =
        let number = adds_number old dir run.count start run.reached run.added in
        let below = run.below in
        number_at apart known options dir save old from to run.reached.time (run.reached.number + 1) start run.top x sure w run.starts.top_is
        (omega (arith, number)) (omega (arith, below)) run.stops is

    by_fault : (x : RunFault) (run : GoesUpTo known options dir save old new x report start) → IsOfContent x (run.reached.number + 1) → ⊥
    by_fault (TooLarge (Sequence k suffix)) run c = of_folder (TooLarge (Sequence k suffix)) run tt
    by_fault (BadState (Sequence k State) cause) run c = of_folder (BadState (Sequence k State) cause) run tt
    by_fault (Mismatch k) run c = of_folder (Mismatch k) run tt
    by_fault (OlderNumber k) run c = not_older known options dir save old new from to k start report sure w run
    by_fault (BadChange (Sequence k suffix) place why) run c = of_folder (BadChange (Sequence k suffix) place why) run tt
    by_fault x run c = c

last_reached : (options : FollowOptions) (dir save : List ℕ) (old new : Files) (from to : ℕ) (start : Saved) (report : ReportValue)
    → IsWholeAfter options.filter dir save old from to start → GoesOnFrom options dir save old new report start
    → ReachesLast options save new start.number to
last_reached options dir save old new from to start report w run = record {
  reached = run.reached;
  kept = run.kept;
  far = subst (λ (n : ℕ). run.reached.number ≡ last_number options.limit start.number n) same (at_end run.goes_on.far);
}
  where
    same : run.top.sequence ≡ to
    same = top_is_last old dir to run.top w.last run.starts.top_is

    end : ℕ
    end = last_number options.limit start.number run.top.sequence

    none_lost : run.reached.number < end → is_lost old dir (run.reached.number + 1) ≡ true → ⊥
    none_lost less lost =
        let next = w.next in
        let number = run.goes_on.number in
        let below = last_within options.limit start.number run.top.sequence in
        let here = whole_is_readable old dir from to (run.reached.number + 1) w.above w.whole (omega (arith, next, number))
        (omega (arith, less, below, same)) in
        let e : true ≡ false = sym lost ∙ here.1 in
        cc

    at_end : IsReached old dir run.reached.number end → run.reached.number ≡ end
    at_end (inl far) = far
    at_end (inr lost) = by_place (cases_lt run.reached.number end)
      where
        by_place : (run.reached.number < end) ⊎ (end ≤ run.reached.number) → run.reached.number ≡ end
        by_place (inl less) = absurd (none_lost less lost)
        by_place (inr more) = let until = run.goes_on.until in omega (arith, until, more)

pub whole_is_reached : NoFaultBesideState → (is_known : Bool) (options : FollowOptions) (dir save : List ℕ) (old new : Files) (from to : ℕ)
    (start : Saved) (run : Progress) → IsTrue is_known → IsWholeAfter options.filter dir save old from to start
    → GoesOnKept (IsTrue is_known) options dir save old new run
    → progress.IsWhole options (Ok run) (λ under r. ReachesLast under save new start.number to)
whole_is_reached apart known options dir save old new from to start (Whole report) sure w run =
    last_reached options dir save old new from to start report w (run.from start w.kept)
whole_is_reached apart known options dir save old new from to start (Part report applied count) sure w run =
    last_reached (limited count options) dir save old new from to start report w (run.from start w.kept).goes
whole_is_reached apart known options dir save old new from to start (Before report fault) sure w run =
    not_before apart (IsTrue known) options dir save old new from to start report fault sure w (run.from start w.kept)

-- ---- a publication

not_changes : (file : FileName) → file ≡ Changes → IsFolderFile file → ⊥
not_changes file same f = subst IsFolderFile same f

not_ready : NoFaultBesideState → (known : Type 0) (dir changes now : List ℕ) (files : Files) (to : ℕ) (fault : RunFault)
    → known → IsLast None dir files to → NotReady known dir changes now files fault → IsOfFolder fault → ⊥
not_ready apart known dir changes now files to (Absent file) sure last s f = not_changes file s.1 f
not_ready apart known dir changes now files to (TooLarge file) sure last s f = too_large s.1
  where
    too_large : ((file ≡ Top) × (known → IsOver max_state (files (top_name_of dir))))
        ⊎ (((file ≡ Changes) × (known → HasTop dir files × IsOver max_file (files changes)))
        ⊎ ((file ≡ Changes) × (known → IsReadWith dir changes now files IsBig))) → ⊥
    too_large (inl top) = top_there apart files dir to (TooLarge Top) last (top.1 sure)
    too_large (inr (inl big)) = not_changes file big.0 f
    too_large (inr (inr big)) = not_changes file big.0 f
not_ready apart known dir changes now files to (BadState file cause) sure last s f = top_there apart files dir to (BadState Top cause) last (s.2 sure)
not_ready apart known dir changes now files to (Mismatch n) sure last s f = s
not_ready apart known dir changes now files to (BadChange file place why) sure last s f = not_changes file s.1 f
not_ready apart known dir changes now files to fault sure last s f = f

cuts_off : (number count : ℕ) (fault : RunFault) → CutsOff number count fault → IsOfFolder fault → ⊥
cuts_off number count (Absent file) s f = s
cuts_off number count (TooLarge file) s f = s
cuts_off number count (BadState file cause) s f = s
cuts_off number count (Mismatch n) s f = s
cuts_off number count (BadChange file place why) s f = s
cuts_off number count fault s f = f

pub whole_is_published_in : NoFaultBesideState → (is_known : Bool) (dir changes now : List ℕ) (files new : Files) (to : ℕ) (fault : RunFault)
    → IsTrue is_known → IsLast None dir files to → PublishStops (IsTrue is_known) dir changes now files new fault → IsOfFolder fault → ⊥
whole_is_published_in apart known dir changes now files new to fault sure last (inl s) f =
    not_ready apart (IsTrue known) dir changes now files to fault sure last s.0 f
whole_is_published_in apart known dir changes now files new to fault sure last (inr s) f = cuts_off s.0.0 s.0.1 fault s.0.2 f

-- ---- the folder of what was published

absent_or : (told : Option (List ℕ)) (holds : List ℕ → Type 0) → IsThere told holds → IsAbsentOr told holds
absent_or None holds h = absurd h
absent_or (Some bytes) holds h = h

file_at : (files : Files) (dir : List ℕ) (p : PublishedValue) (s : Suffix) → AreFilesOf files dir p
    → IsAbsentOr (files (file_name_of dir p.number s)) (IsFile s p)
file_at files dir p State is = absent_or (files (file_name_of dir p.number State)) (IsFile State p) is.state
file_at files dir p O5c is = is.o5c
file_at files dir p Opl is = is.opl

pub whole_is_folder : (files : Files) (dir : List ℕ) (to : ℕ) → 0 < to → (w : IsWhole files dir 1 to) → IsLast None dir files to
    → IsFolderOf w.published files dir
whole_is_folder files dir to above w last = record {
  sequences = w.sequences;
  rising = λ k low high. w.rising k low (omega (arith, high, count));
  top = inr (
    omega (arith, above, count),
    subst (λ (n : ℕ). IsThere (files (top_name_of dir)) (IsFile State (sequence_at w.published n))) (sym count)
        (state_of (files (top_name_of dir)) (sequence_at w.published to)
        (subst (λ (n : ℕ). IsThere (files (top_name_of dir)) (IsStateFile n (sequence_at w.published to).time)) (sym (at to above (omega arith)))
        (subst (λ (t : ℕ). IsThere (files (top_name_of dir)) (IsStateFile to t)) (w.top last.0 above last.1) last.1))),
  );
  each = λ k s low high. subst (λ (n : ℕ). IsAbsentOr (files (file_name_of dir n s)) (IsFile s (sequence_at w.published k)))
      (at k low (omega (arith, high, count)))
      (file_at files dir (sequence_at w.published k) s (w.each k low (omega (arith, high, count))));
}
  where
    count : length w.published ≡ to
    count = w.count

    at : (k : ℕ) → 0 < k → k ≤ to → (sequence_at w.published k).number ≡ k
    at k low high = (w.sequences k low (omega (arith, high, count))).number_is
