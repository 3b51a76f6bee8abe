-- A run of the follower over the folder of published sequences, some of whose files may be lost.
use Rattle.std.proofs.Common.{◌≡◌, ℕ, zero, suc, ◌+◌, ◌-◌, ◌<◌, ◌≤◌, List, [], ◌∷◌, length, Bool, true, false, Option}
use Rattle.std.proofs.Common.{Some, None, inl, inr, arith, refl, sym, ap, subst, ◌∙◌}
use Rattle.std.specs.Prelude.{◌⊎◌, ◌||◌, ◌&&◌, filter, is_none, min}
use Rattle.std.proofs.lemmas.Bool.{cases_lt}
use Rattle.std.proofs.lemmas.List.Elements.{filter-append}
use Rattle.osm_model.specs.Filter.{FilterValue}
use Rattle.osm_model.specs.Limits.{max_file}
use Rattle.osm_save.specs.declared.save.Saved.{Saved}
use Rattle.osm_state.specs.declared.paths.Suffix.{Suffix}
use Rattle.osm_state.specs.declared.paths.Suffix.TheVariants.{O5c, Opl, State}
use Rattle.osm_publisher.specs.Published.{PublishedValue, sequence_at}
use Rattle.osm_follow.specs.Reach.{numbers}
use Rattle.osm_store.specs.Files.{Files, IsOver}
use Rattle.osm_merge.specs.Checking.{IsHugeFile}
use Rattle.osm_kept.specs.Names.{journal_name_of}
use Rattle.osm_runs.specs.Folder.{IsThere}
use Rattle.osm_runs.specs.Following.{AddsAll}
use Rattle.osm_runs.specs.Keeping.{IsKeptOf}
use Rattle.osm_runs.specs.Following.{bytes_of, is_lost, limited, lost_numbers, plainly, ranges, size_in, size_of}
use Rattle.osm_runs.specs.Names.{file_name_of, top_name_of}
use Rattle.osm_runs.specs.Reports.{ReportValue, follow_report_of}
use Rattle.osm_runs.specs.Runs.{LacksCalls}
use Rattle.osm_runs.specs.declared.fault.FileName.TheVariants.{Journal, Save, Top}
use Rattle.osm_runs.specs.declared.fault.RunFault.{RunFault}
use Rattle.osm_runs.specs.declared.fault.RunFault.TheVariants.{WantOfMemory, ReadFault, WriteFault, TooLarge, Absent, OtherJournal}
use Rattle.osm_runs.specs.declared.options.FollowOptions.{FollowOptions}
use Rattle.osm_runs.proofs.InStepLemmas.{top_number}
use Rattle.osm_runs.proofs.TakingLemmas.{adds_number, has_not_lost}
use Rattle.osm_round.specs.Keeping.{GoesOnFrom, GoesOnInPart}
use Rattle.osm_round.specs.KeepingOver.{IsKeptAfter, KeepingStopsOver, kept_calls}
use Rattle.osm_round.specs.Rounds.{max_round}
use Rattle.osm_operations.specs.Allowed.{FollowingStopsIn, HasHugeSave, KilledFollowingStopsIn, LacksFollowingCalls}
use Rattle.osm_operations.specs.Alone.{IsInStepAlone}
use Rattle.osm_operations.specs.Correct.{AreApart}
use Rattle.osm_operations.specs.History.{Standing, count_from, saved_after, sum_from, text_of, unless_lost}
use Rattle.osm_operations.specs.Stepping.{IsNoDevice}
use Rattle.osm_operations.proofs.AgreeLemmas.{Agrees, IsFreeBut}
use Rattle.osm_operations.proofs.KeptLemmas.{HasCome, LeavesBoth, both_agrees, kept_after, kept_on, own, saved_then}

-- a number is lost, by its files
abbrev pub number_lost : (ℕ → Suffix → Bool) → ℕ → Bool
number_lost lost k = lost k State || (lost k O5c && lost k Opl)

pub none_kept : (b : Bool) (text : List ℕ) → is_none (unless_lost b text) ≡ b
none_kept true text = refl
none_kept false text = refl

pub lost_same : (p : List PublishedValue) (lost : ℕ → Suffix → Bool) (m : Standing) (given : FilterValue) (dir save changes extract : List ℕ)
    (start f l : Files) (n k : ℕ) → Agrees p lost m given dir save changes extract start f l n → 0 < k → k ≤ length p
    → is_lost f dir k ≡ (lost k State || (lost k O5c && lost k Opl))
lost_same p lost m given dir save changes extract start f l n k s above within =
    rw (is State, is O5c, is Opl) refl
  where
    is : (t : Suffix) → is_none (f (file_name_of dir k t)) ≡ lost k t
    is t = ap is_none (s.each k t above within) ∙ none_kept (lost k t) (text_of t (sequence_at p k))

-- a number whose files are there isn't lost
pub some_there : (o : Option (List ℕ)) (holds : List ℕ → Type 0) → IsThere o holds → is_none o ≡ false
some_there None holds h = absurd h
some_there (Some bytes) holds h = refl

pub taken_there : (files : Files) (dir : List ℕ) (count : ℕ) (old new : Saved) → AddsAll files dir count old new → (k : ℕ)
    → old.number < k → k ≤ old.number + count → is_lost files dir k ≡ false
taken_there files dir zero old new add k above until = absurd (omega arith)
taken_there files dir (suc count) old new (between, before, last) k above until = elim (cases_lt (old.number + count) k) [
  | inl past ↦ (
      let at = adds_number files dir count old between before in
      let next = last.number_is in
      let same : last.next.number ≡ k = omega (arith, at, next, past, until) in
      subst (λ j. is_lost files dir j ≡ false) same (has_not_lost files dir last.next last.there))
  | inr within ↦ taken_there files dir count old between before k above within
]

-- how many numbers come before the first that is lost
count_is : (is_gone : ℕ → Bool) (n most count : ℕ) → count ≤ most
    → ((k : ℕ) → n < k → k ≤ n + count → is_gone k ≡ false) → (count ≡ most) ⊎ (is_gone (n + count + 1) ≡ true)
    → count_from is_gone n most ≡ count
count_is is_gone n zero zero within each far = refl
count_is is_gone n zero (suc count) within each far = absurd (omega arith)
count_is is_gone n (suc most) zero within each (inl e) = absurd (omega arith)
count_is is_gone n (suc most) zero within each (inr e) =
    let at : n + zero + 1 ≡ n + 1 = omega arith in
    rw (subst (λ k. is_gone k ≡ true) at e) refl
count_is is_gone n (suc most) (suc count) within each far =
    rw (each (n + 1) (omega arith) (omega arith))
    (ap suc (count_is is_gone (n + 1) most count (omega arith) (λ k above until. each k (omega arith) (omega arith)) (elim far [
      | inl e ↦ inl (omega arith)
      | inr e ↦ inr (let at : n + suc count + 1 ≡ n + 1 + count + 1 = omega arith in subst (λ k. is_gone k ≡ true) at e)
    ])))

filter_same : (a b : ℕ → Bool) (n count : ℕ) → ((k : ℕ) → n < k → k ≤ n + count → a k ≡ b k) → filter a (numbers n count) ≡ filter b (numbers n count)
filter_same a b n zero same = refl
filter_same a b n (suc count) same =
    rw (
      filter-append a (numbers n count) ((n + suc count) ∷ []),
      filter-append b (numbers n count) ((n + suc count) ∷ []),
      filter_same a b n count (λ k above until. same k above (omega arith)),
      same (n + suc count) (omega arith) (omega arith),
    ) refl

pub min_below : (a b : ℕ) → min a b ≤ b
min_below a b = grind (arith)

-- what a history says of the save after a run of the follower that took so many numbers
abbrev pub gone_on : Standing → ℕ → Standing
gone_on m count = record {
  number = m.number + count;
  base = m.base;
  is_saved = saved_after m.is_saved count;
  exported = m.exported;
  cut = None;
}

-- so many numbers come before the first that is lost, at least
pub count_least : (is_gone : ℕ → Bool) (n most count : ℕ) → count ≤ most → ((k : ℕ) → n < k → k ≤ n + count → is_gone k ≡ false)
    → count ≤ count_from is_gone n most
count_least is_gone n most zero within each = omega arith
count_least is_gone n zero (suc count) within each = absurd (omega (arith, within))
count_least is_gone n (suc most) (suc count) within each =
    let rest = count_least is_gone (n + 1) most count (omega (arith, within)) (λ k above until. each k (omega (arith, above)) (omega (arith, until))) in
    rw (each (n + 1) (omega arith) (omega arith)) (omega (arith, rest))

-- what a run that is done under these options leaves, which took so many numbers
pub record HasGoneOn (options : FollowOptions) (p : List PublishedValue) (lost : ℕ → Suffix → Bool) (m : Standing) (dir save changes extract : List ℕ)
    (start f g l : Files) (n : ℕ) (report : ReportValue) (taken : ℕ) : Type 0 where
  pub after : IsKeptAfter p options m.base m.number dir save f g report
  pub taken_is : taken ≡ after.count
  pub within : m.number + after.count ≤ length p
  pub gone : (k : ℕ) → 0 < k → k ≤ length p → is_lost f dir k ≡ number_lost lost k
  pub none : (k : ℕ) → m.number < k → k ≤ m.number + after.count → number_lost lost k ≡ false
  pub agrees : Agrees p lost (gone_on m after.count) options.filter dir save changes extract start g l n

pub went_on : (options : FollowOptions) (p : List PublishedValue) (lost : ℕ → Suffix → Bool) (m : Standing) (dir save changes extract : List ℕ)
    (start f g l : Files) (n : ℕ) (report : ReportValue) → AreApart dir save changes extract
    → (s : Agrees p lost m options.filter dir save changes extract start f l n) → LeavesBoth options.filter save f g
    → (run : GoesOnFrom options dir save f g report s.saved.save_is.value)
    → HasGoneOn options p lost m dir save changes extract start f g l n report run.count
went_on options p lost m dir save changes extract start f g l n report apart s left run = record {
  after = after;
  taken_is = same_count;
  within = within;
  gone = gone;
  none = λ k above until.
      sym (gone k (omega (arith, above)) (omega (arith, within, until)))
      ∙ taken_there f dir run.count s.saved.save_is.value run.reached run.goes_on.added k
      (omega (arith, start_is, above)) (omega (arith, start_is, until, same_count));
  agrees = both_agrees p lost m (gone_on m after.count) options.filter dir save changes extract start f g l n apart s left.others
      (kept_on p options.filter m m.base (m.number + after.count) (saved_after m.is_saved after.count) save extract (start extract) f g s.saved left
      after.kept (saved_then options.filter save f g m.is_saved m.number after.count after.kept.value s.saved.is_there after.still after.kept.kept
      after.kept.number_is) (left.others extract apart.not_saved apart.not_journal));
}
  where
    came : HasCome p options m.base m.number dir save f g report run.count
    came = kept_after options p m.base m.number dir save f g report s.folder s.saved.save_is left run

    after : IsKeptAfter p options m.base m.number dir save f g report
    after = came.after

    same_count : run.count ≡ after.count
    same_count = came.taken_is

    start_is : s.saved.save_is.value.number ≡ m.number
    start_is = s.saved.save_is.number_is

    within : m.number + after.count ≤ length p
    within =
        let v = after.kept.in_step.within in
        let at = after.kept.number_is in
        omega (arith, v, at)

    gone : (k : ℕ) → 0 < k → k ≤ length p → is_lost f dir k ≡ number_lost lost k
    gone k above until = lost_same p lost m options.filter dir save changes extract start f l n k s above until

-- a run that is done
pub followed : (p : List PublishedValue) (lost : ℕ → Suffix → Bool) (m : Standing) (given : FilterValue) (dir save changes extract : List ℕ)
    (start f g l : Files) (n : ℕ) (report : ReportValue) → AreApart dir save changes extract
    → (s : Agrees p lost m given dir save changes extract start f l n) → LeavesBoth given save f g
    → GoesOnFrom (plainly given) dir save f g report s.saved.save_is.value
    → (let c = count_from (number_lost lost) m.number (length p - m.number) in
    Agrees p lost (gone_on m c) given dir save changes extract start g l n
    × (report ≡ follow_report_of (ranges m.number c)
    (filter (number_lost lost) (numbers (m.number + c) (min 64 (length p - (m.number + c))))) (m.number + c)))
followed p lost m given dir save changes extract start f g l n report apart s left run =
    rw count_same (went.agrees, went.after.report_is ∙ ap (λ xs. follow_report_of (ranges m.number count) xs (m.number + count)) lost_are)
  where
    went : HasGoneOn (plainly given) p lost m dir save changes extract start f g l n report run.count
    went = went_on (plainly given) p lost m dir save changes extract start f g l n report apart s left run

    count : ℕ
    count = went.after.count

    within : m.number + count ≤ length p
    within = went.within

    far : (count ≡ length p - m.number) ⊎ (number_lost lost (m.number + count + 1) ≡ true)
    far = elim went.after.far [
      | inl e ↦ inl (omega arith)
      | inr e ↦ elim (cases_lt (m.number + count) (length p)) [
        | inl below ↦ inr (sym (went.gone (m.number + count + 1) (omega arith) (omega arith)) ∙ e)
        | inr past ↦ inl (omega (arith, within, past))
      ]
    ]

    count_same : count_from (number_lost lost) m.number (length p - m.number) ≡ count
    count_same = count_is (number_lost lost) m.number (length p - m.number) count (omega (arith, within)) went.none far

    lost_are : lost_numbers f dir (m.number + count) (length p)
        ≡ filter (number_lost lost) (numbers (m.number + count) (min 64 (length p - (m.number + count))))
    lost_are = filter_same (is_lost f dir) (number_lost lost) (m.number + count) (min 64 (length p - (m.number + count)))
        (λ k above until. (let low = min_below 64 (length p - (m.number + count)) in went.gone k (omega (arith, above)) (omega (arith, until, low, within))))

-- ---- a run that came to a part

-- how many bytes the change file that is read has, by what is lost
abbrev pub size_by : List PublishedValue → (ℕ → Suffix → Bool) → ℕ → ℕ
size_by p lost k =
    size_in (unless_lost (lost k O5c) (text_of O5c (sequence_at p k))) (unless_lost (lost k Opl) (text_of Opl (sequence_at p k)))

sizes_same : (files : Files) (dir : List ℕ) (size : ℕ → ℕ) (n count : ℕ) → ((k : ℕ) → n < k → k ≤ n + count → size_of files dir k ≡ size k)
    → bytes_of files dir n count ≡ sum_from size n count
sizes_same files dir size n zero same = refl
sizes_same files dir size n (suc count) same =
    rw (
      sizes_same files dir size n count (λ k above until. same k above (omega (arith, until))),
      same (n + count + 1) (omega arith) (omega arith),
    ) refl

some_taken : (files : Files) (dir : List ℕ) (n count least : ℕ) → 0 < least → least ≤ bytes_of files dir n count → 0 < count
some_taken files dir n zero least some enough = absurd (omega (arith, some, enough))
some_taken files dir n (suc count) least some enough = omega arith

none_missing : (files : Files) (dir : List ℕ) (n top : ℕ) → top ≤ n → lost_numbers files dir n top ≡ []
none_missing files dir n top until =
    let none : top - n ≡ 0 = omega (arith, until) in
    rw none refl

-- what a run leaves and prints that came to a part
pub record CameToPart (p : List PublishedValue) (lost : ℕ → Suffix → Bool) (m : Standing) (given : FilterValue) (dir save changes extract : List ℕ)
    (start g l : Files) (n : ℕ) (report : ReportValue) (count : ℕ) : Type 0 where
  pub agrees : Agrees p lost (gone_on m count) given dir save changes extract start g l n
  pub some : 0 < count
  pub within : count ≤ count_from (number_lost lost) m.number (length p - m.number)
  pub below : m.number + count < length p
  pub report_is : report ≡ follow_report_of (ranges m.number count) [] (m.number + count)
  pub enough : max_round ≤ sum_from (size_by p lost) m.number count

pub followed_part : (p : List PublishedValue) (lost : ℕ → Suffix → Bool) (m : Standing) (given : FilterValue) (dir save changes extract : List ℕ)
    (start f g l : Files) (n : ℕ) (report : ReportValue) (count : ℕ) → AreApart dir save changes extract
    → (s : Agrees p lost m given dir save changes extract start f l n) → LeavesBoth given save f g
    → GoesOnInPart (plainly given) dir save f g report count s.saved.save_is.value
    → CameToPart p lost m given dir save changes extract start g l n report count
followed_part p lost m given dir save changes extract start f g l n report count apart s left run = record {
  agrees = subst (λ c. Agrees p lost (gone_on m c) given dir save changes extract start g l n) same went.agrees;
  some = some_taken f dir s.saved.save_is.value.number count max_round (omega arith) run.enough;
  within = count_least (number_lost lost) m.number (length p - m.number) count (omega (arith, below))
      (λ k above until. went.none k above (rw same until));
  below = below;
  report_is = subst (λ c. report ≡ follow_report_of (ranges m.number c) [] (m.number + c)) same
      (went.after.report_is ∙ ap (λ xs. follow_report_of (ranges m.number went.after.count) xs (m.number + went.after.count))
      (none_missing f dir (m.number + went.after.count) (min (length p) (m.number + count)) until));
  enough = subst (λ bytes. max_round ≤ bytes) (sizes_same f dir (size_by p lost) m.number count sizes)
      (subst (λ k. max_round ≤ bytes_of f dir k count) from run.enough);
}
  where
    went : HasGoneOn (limited count (plainly given)) p lost m dir save changes extract start f g l n report run.goes.count
    went = went_on (limited count (plainly given)) p lost m dir save changes extract start f g l n report apart s left run.goes

    same : went.after.count ≡ count
    same = sym went.taken_is ∙ run.count_is

    from : s.saved.save_is.value.number ≡ m.number
    from = s.saved.save_is.number_is

    top_is : run.goes.top.sequence ≡ length p
    top_is = top_number p (f (top_name_of dir)) run.goes.top s.folder.sequences s.folder.top run.goes.starts.top_is

    below : m.number + count < length p
    below = let under = run.below in omega (arith, under, from, top_is)

    until : min (length p) (m.number + count) ≤ m.number + went.after.count
    until = let low = min_below (length p) (m.number + count) in omega (arith, low, same)

    sizes : (k : ℕ) → m.number < k → k ≤ m.number + count → size_of f dir k ≡ size_by p lost k
    sizes k above within = rw (
      s.each k O5c (omega (arith, above)) (omega (arith, within, below)),
      s.each k Opl (omega (arith, above)) (omega (arith, within, below)),
    ) refl

-- a run that stopped
pub huge_save : (p : List PublishedValue) (given : FilterValue) (base m : ℕ) (save : List ℕ) (f : Files) → IsKeptOf p given base m save f
    → IsInStepAlone p given (f save) → IsHugeFile (f save) → HasHugeSave p given
huge_save p given base m save f s alone huge =
    let o = own p given base m save f s alone in
    record { base = o.base; number = o.number; told = f save; saved = o.saved; huge = huge }

module _ (p : List PublishedValue) (given : FilterValue) (cut : Option ℕ) (base m calls : ℕ) (save : List ℕ) (f : Files)
    (s : IsKeptOf p given base m save f) (alone : IsInStepAlone p given (f save)) (short : IsOver max_file (f (journal_name_of save)) → ⊥)
    (free : IsFreeBut cut save f) where
  few_calls : calls < kept_calls p m (f save) → LacksFollowingCalls p given m calls
  few_calls few = record { base = base; save = save; store = f; kept = s; alone = alone; short = short; few = few }

  pub stopped_follow : (fault : RunFault) → LacksCalls (kept_calls p m (f save)) (Some calls) fault
      → KeepingStopsOver p given (f save) (f (journal_name_of save)) fault → KilledFollowingStopsIn p given cut m calls fault
  stopped_follow WantOfMemory lacks r = tt
  stopped_follow (ReadFault file) lacks r = few_calls (lacks tt)
  stopped_follow (WriteFault Save) lacks r = (tt, few_calls (lacks tt))
  stopped_follow (WriteFault Journal) lacks r = (tt, few_calls (lacks tt))
  stopped_follow (Absent Top) lacks r = (refl, r)
  stopped_follow (TooLarge Save) lacks r = (
    refl,
    elim r [
      | inl huge ↦ inl (huge_save p given base m save f s alone huge)
      | inr many ↦ inr many
    ],
  )
  stopped_follow (TooLarge Journal) lacks r = absurd (short r)
  stopped_follow (OtherJournal n) lacks r = free n r
  stopped_follow fault lacks r = absurd r

pub not_killed_follow : (p : List PublishedValue) (given : FilterValue) (cut : Option ℕ) (m calls : ℕ) (fault : RunFault) → IsNoDevice fault
    → KilledFollowingStopsIn p given cut m calls fault → FollowingStopsIn p given cut fault
not_killed_follow p given cut m calls (ReadFault file) none h = absurd none
not_killed_follow p given cut m calls (WriteFault file) none h = absurd none
not_killed_follow p given cut m calls fault none h = h
