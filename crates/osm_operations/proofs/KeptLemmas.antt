-- What a save and its journal keep, and what is left of it after a run.
use Rattle.std.proofs.Common.{◌≡◌, ℕ, zero, suc, ◌+◌, ◌<◌, ◌≤◌, List, [], ◌∷◌, length, Option, Some, None, inl, inr, arith}
use Rattle.std.proofs.Common.{refl, sym, ap, subst, ◌∙◌, Bool}
use Rattle.std.specs.Prelude.{◌⊎◌, is_none, not, Ok}
use Rattle.std.proofs.lemmas.Option.{same_Some}
use Rattle.osm_model.specs.Filter.{FilterValue}
use Rattle.osm_model.specs.Limits.{max_file}
use Rattle.osm_save.specs.Save.{SpellsSave}
use Rattle.osm_save.specs.declared.save.Saved.{Saved}
use Rattle.osm_state.specs.State.{StateValue}
use Rattle.osm_state.specs.declared.paths.Suffix.{Suffix}
use Rattle.osm_state.specs.declared.paths.Suffix.TheVariants.{State}
use Rattle.osm_journal.specs.Journal.{BatchValue, JournalValue}
use Rattle.osm_publisher.specs.Published.{PublishedValue, sequence_at, time_at}
use Rattle.osm_store.specs.Files.{Files, IsOver}
use Rattle.osm_kept.specs.Kept.{AddsBatches, ComesTo, HasJournal, IsNoJournal}
use Rattle.osm_kept.specs.Names.{journal_name_of}
use Rattle.osm_kept.specs.Finding.{bytes_of}
use Rattle.osm_beginning.specs.Keeping.{HasNoJournal, IsSameOrEmpty, LeavesSave}
use Rattle.osm_beginning.proofs.KeepingLemmas.{journal_has_own_name}
use Rattle.osm_runs.specs.Folder.{IsFolderOf}
use Rattle.osm_runs.specs.Following.{IsInStep, IsSaveOf, IsSaved, end_of, last_number, lost_numbers, no_save, ranges}
use Rattle.osm_runs.specs.Following.{standing_at, standing_of}
use Rattle.osm_runs.specs.Keeping.{HasNoBadJournal, IsKept, IsKeptOf, KeptIn}
use Rattle.osm_runs.specs.Names.{file_name_of, top_name_of}
use Rattle.osm_runs.specs.Reports.{Outcome, ReportValue, report_of}
use Rattle.osm_runs.specs.declared.options.FollowOptions.{FollowOptions}
use Rattle.osm_runs.specs.declared.progress.Progress.{Progress}
use Rattle.osm_runs.proofs.InStepLemmas.{all_in_step, last_within, one_saved, top_number, top_time}
use Rattle.osm_runs.proofs.KeepingLemmas.{no_bad_journal}
use Rattle.osm_round.specs.Keeping.{ChangesBoth, GoesOnFrom, IsFree, IsShortAfter, SavesAlone}
use Rattle.osm_round.specs.KeepingOver.{IsKeptAfter}
use Rattle.osm_round.proofs.OnwardLemmas.{all_base}
use Rattle.osm_operations.specs.Alone.{IsInStepAlone}
use Rattle.osm_operations.specs.Correct.{AreApart, IsExtractOf}
use Rattle.osm_operations.specs.History as hist
use Rattle.osm_operations.specs.Stepping.{FollowAnswer, KeptLaws, LeavesAll}
use Rattle.osm_operations.proofs.AgreeLemmas.{Agrees, IsFreeBut, Kept, few, folder_same, free_same, is_kept_same, right_same}
use Rattle.osm_operations.proofs.NameLemmas.{journal_outside}

-- ---- the save alone

-- what a save alone is of
pub record IsOwn (p : List PublishedValue) (given : FilterValue) (told : Option (List ℕ)) : Type 0 where
  pub base : ℕ
  pub number : ℕ
  pub saved : IsSaveOf p given base number told

own_of : (p : List PublishedValue) (given : FilterValue) (told : Option (List ℕ)) (v : Saved) → IsSaved given told v → IsInStepAlone p given told
    → IsOwn p given told
own_of p given told v saved alone = record {
  base = v.base;
  number = v.number;
  saved = record { value = v; saved = saved; base_is = refl; number_is = refl; in_step = alone v saved };
}

own_in : (p : List PublishedValue) (given : FilterValue) (told journal : Option (List ℕ)) (v : Saved) → KeptIn given told journal v
    → IsInStepAlone p given told → IsOwn p given told
own_in p given None journal v kept alone = own_of p given None (no_save given) refl alone
own_in p given (Some bytes) journal v kept alone =
    own_of p given (Some bytes) kept.start (subst (λ (l : List ℕ). SpellsSave l kept.start) (sym (same_Some bytes kept.file kept.there)) kept.spells) alone

pub own : (p : List PublishedValue) (given : FilterValue) (base number : ℕ) (save : List ℕ) (f : Files) → IsKeptOf p given base number save f
    → IsInStepAlone p given (f save) → IsOwn p given (f save)
own p given base number save f s alone = own_in p given (f save) (f (journal_name_of save)) s.value s.kept alone

-- what a save has without its journal
adds_older : (bs : List BatchValue) (v w : Saved) → AddsBatches bs v w → (v.base ≡ w.base) × (v.number ≤ w.number)
adds_older [] v w same = (ap (λ (x : Saved). x.base) (sym same), (let number = ap (λ (x : Saved). x.number) same in omega (arith, number)))
adds_older (b ∷ bs) v w (between, add, rest) =
    let more = adds_older bs between w rest in
    let next = add.number_is in
    let at = add.number in
    let high = more.1 in
    (sym add.base ∙ more.0, omega (arith, next, at, high))

pub older : (given : FilterValue) (told journal : Option (List ℕ)) (v w : Saved) → KeptIn given told journal v → IsSaved given told w
    → (w.base ≡ v.base) × (w.number ≤ v.number)
older given None journal v w kept saved = of_same (saved ∙ sym kept)
  where
    of_same : w ≡ v → (w.base ≡ v.base) × (w.number ≤ v.number)
    of_same same = (ap (λ (x : Saved). x.base) same, (let number = ap (λ (x : Saved). x.number) same in omega (arith, number)))
older given (Some bytes) journal v w kept saved =
    subst (λ (x : Saved). (x.base ≡ v.base) × (x.number ≤ v.number)) (one_saved given (Some bytes) kept.start w text saved) (by_journal kept.comes)
  where
    text : IsSaved given (Some bytes) kept.start
    text = subst (λ (l : List ℕ). SpellsSave l kept.start) (sym (same_Some bytes kept.file kept.there)) kept.spells

    by_journal : ComesTo (Some bytes) journal kept.start v → (kept.start.base ≡ v.base) × (kept.start.number ≤ v.number)
    by_journal (inl (none, same)) = adds_older [] kept.start v same
    by_journal (inr (j, has, adds)) = adds_older j.batches kept.start v adds

-- ---- what a refused run leaves

-- an emptied journal that wasn't one of the save
emptied_keeps : KeptLaws → (given : FilterValue) (told journal : Option (List ℕ)) (v : Saved) → ((j : JournalValue) → HasJournal told journal j → ⊥)
    → KeptIn given told journal v → KeptIn given told (Some []) v
emptied_keeps laws given None journal v idle kept = kept
emptied_keeps laws given (Some bytes) journal v idle kept = laws.emptied (Some bytes) journal v (silent kept.start kept.comes) kept
  where
    silent : (start : Saved) → ComesTo (Some bytes) journal start v → IsNoJournal (Some bytes) journal
    silent start (inl (none, same)) = none
    silent start (inr (j, has, adds)) = absurd (idle j has)

kept_now : (given : FilterValue) (save : List ℕ) (f g : Files) (v : Saved) → g save ≡ f save → g (journal_name_of save) ≡ Some []
    → KeptIn given (f save) (Some []) v → IsKept given save g v
kept_now given save f g v same empty kept =
    subst (λ o. KeptIn given o (g (journal_name_of save)) v) (sym same) (subst (λ o. KeptIn given (f save) o v) (sym empty) kept)

-- a beginning that is refused before its save is there
pub leaves_save : KeptLaws → (save : List ℕ) (f g : Files) → LeavesSave save f g → LeavesAll save f g
leaves_save laws save f g left = record {
  kept = λ given v kept. by_journal given v kept left.journal;
  journal = same_or_empty left.journal;
  others = left.others;
}
  where
    same : g save ≡ f save
    same = left.others save (λ e. journal_has_own_name save (sym e))

    by_journal : (given : FilterValue) (v : Saved) → IsKept given save f v → (g (journal_name_of save) ≡ f (journal_name_of save))
        ⊎ ((g (journal_name_of save) ≡ Some []) × HasNoJournal (f save) (f (journal_name_of save))) → IsKept given save g v
    by_journal given v kept (inl stays) = is_kept_same given save f g v (same, stays) kept
    by_journal given v kept (inr (empty, idle)) =
        kept_now given save f g v same empty (emptied_keeps laws given (f save) (f (journal_name_of save)) v idle kept)

    same_or_empty : (g (journal_name_of save) ≡ f (journal_name_of save))
        ⊎ ((g (journal_name_of save) ≡ Some []) × HasNoJournal (f save) (f (journal_name_of save)))
        → IsSameOrEmpty (f (journal_name_of save)) (g (journal_name_of save))
    same_or_empty (inl stays) = inl stays
    same_or_empty (inr (empty, idle)) = inr empty

-- ---- files that agree with the history after a run that changes the save and its journal alone

short_after : (most : ℕ) (save : List ℕ) (f g : Files) → IsShortAfter most save f g → (IsOver most (f (journal_name_of save)) → ⊥)
    → IsOver most (g (journal_name_of save)) → ⊥
short_after most save f g (inl same) short over = short (subst (IsOver most) same over)
short_after most save f g (inr (bytes, there, few)) short over =
    let same : over.bytes ≡ bytes = same_Some over.bytes bytes (sym over.there ∙ there) in
    let long = over.over in
    let lengths = ap length same in
    omega (arith, few, long, lengths)

pub short_or_empty : (most : ℕ) (save : List ℕ) (f g : Files) → IsSameOrEmpty (f (journal_name_of save)) (g (journal_name_of save))
    → (IsOver most (f (journal_name_of save)) → ⊥) → IsOver most (g (journal_name_of save)) → ⊥
short_or_empty most save f g (inl same) short over = short (subst (IsOver most) same over)
short_or_empty most save f g (inr empty) short over =
    let same : over.bytes ≡ [] = same_Some over.bytes [] (sym over.there ∙ empty) in
    let long = over.over in
    let lengths = ap length same in
    omega (arith, long, lengths)

alone_after : (p : List PublishedValue) (given : FilterValue) (save : List ℕ) (f g : Files) (v : Saved) → SavesAlone given save f g
    → IsKept given save g v → IsInStep p given v → IsInStepAlone p given (f save) → IsInStepAlone p given (g save)
alone_after p given save f g v (inl same) kept step alone = subst (IsInStepAlone p given) (sym same) alone
alone_after p given save f g v (inr saves) kept step alone =
    λ w told. subst (IsInStep p given) (one_saved given (g save) v w (saves v kept) told) step

-- what a run that is done leaves of the two files: nothing is written if no number was taken
pub record LeavesBoth (given : FilterValue) (save : List ℕ) (f g : Files) : Type 0 where
  pub still : (start reached : Saved) → IsKept given save f start → IsKept given save g reached → reached.number ≡ start.number → g ≡ f
  pub others : ChangesBoth save f g
  pub alone : SavesAlone given save f g
  pub short : IsShortAfter max_file save f g
  pub free : IsFree save g
  pub laws : KeptLaws

pub follows_leaves : (given : FilterValue) (dir save : List ℕ) (progress : Progress) (f g : Files) → FollowAnswer given dir save (Ok progress) f g
    → LeavesBoth given save f g
follows_leaves given dir save progress f g run = record {
  still = (run.follows refl).goes_on.still;
  others = (run.follows refl).goes_on.others;
  alone = (run.follows refl).alone;
  short = shorter run.fits (run.follows refl).short;
  free = (run.follows refl).goes_on.free;
  laws = run.laws;
}
  where
    shorter : {most : ℕ} → most ≤ max_file → IsShortAfter most save f g → IsShortAfter max_file save f g
    shorter fits (inl same) = inl same
    shorter fits (inr (bytes, there, few)) = inr (bytes, there, omega (arith, fits, few))

-- ---- whether a save is there then

some_file : (given : FilterValue) (told journal : Option (List ℕ)) (v : Saved) → KeptIn given told journal v → 0 < v.number
    → (file : List ℕ) × (told ≡ Some file)
some_file given None journal v kept some = (let number = ap (λ (x : Saved). x.number) kept in absurd (omega (arith, number, some)))
some_file given (Some bytes) journal v kept some = (bytes, refl)

-- what is kept at a number above 0 is kept in a save
pub has_file : (given : FilterValue) (save : List ℕ) (g : Files) (v : Saved) → IsKept given save g v → 0 < v.number
    → (file : List ℕ) × (g save ≡ Some file)
has_file given save g v kept some = some_file given (g save) (g (journal_name_of save)) v kept some

pub saved_then : (given : FilterValue) (save : List ℕ) (f g : Files) (before : Bool) (start count : ℕ) (reached : Saved) → is_none (f save) ≡ not before
    → (count ≡ 0 → g ≡ f) → IsKept given save g reached → reached.number ≡ start + count → is_none (g save) ≡ not (hist.saved_after before count)
saved_then given save f g before start zero reached there still kept number = ap (λ (x : Files). is_none (x save)) (still refl) ∙ there
saved_then given save f g before start (suc count) reached there still kept number =
    ap is_none (has_file given save g reached kept (omega (arith, number))).1

-- the journal isn't bad then
right_then : KeptLaws → (given : FilterValue) (save : List ℕ) (f g : Files) (start count : ℕ) (reached : Saved) → HasNoBadJournal save f
    → (count ≡ 0 → g ≡ f) → IsKept given save g reached → reached.number ≡ start + count → HasNoBadJournal save g
right_then laws given save f g start zero reached right still kept number = subst (HasNoBadJournal save) (sym (still refl)) right
right_then laws given save f g start (suc count) reached right still kept number =
    let told = has_file given save g reached kept (omega (arith, number)) in
    no_bad_journal laws.nothing given save told.0 g reached told.1 kept

pub kept_on : (p : List PublishedValue) (given : FilterValue) (m : hist.Standing) (base number : ℕ) (now : Bool) (save extract : List ℕ)
    (was : Option (List ℕ)) (f g : Files) → Kept p given m save extract was f → LeavesBoth given save f g → IsKeptOf p given base number save g
    → is_none (g save) ≡ not now → g extract ≡ f extract
    → Kept p given (record { number = number; base = base; is_saved = now; exported = m.exported; cut = None }) save extract was g
kept_on p given m base number now save extract was f g s left kept there same = record {
  save_is = kept;
  alone = alone_after p given save f g kept.value left.alone kept.kept kept.in_step s.alone;
  short = short_after max_file save f g left.short s.short;
  free = λ n other. absurd (left.free n other);
  is_there = there;
  extract_is = subst (IsExtractOf p given m.exported extract was) (sym same) s.extract_is;
  within = s.within;
}

-- the rest is as it was
pub both_agrees : (p : List PublishedValue) (lost : ℕ → Suffix → Bool) (m n_m : hist.Standing) (given : FilterValue) (dir save changes extract : List ℕ)
    (start f g l : Files) (n : ℕ) → AreApart dir save changes extract → Agrees p lost m given dir save changes extract start f l n
    → ChangesBoth save f g → Kept p given n_m save extract (start extract) g → Agrees p lost n_m given dir save changes extract start g l n
both_agrees p lost m n_m given dir save changes extract start f g l n apart s others kept = record {
  folder = folder_same p dir f g (others (top_name_of dir) (λ e. apart.save_is.top (sym e)) (λ e. (journal_outside dir save).top (sym e)))
      (λ k t above until. file k t until) s.folder;
  each = λ k t above until. file k t until ∙ s.each k t above until;
  away = s.away;
  fresh = s.fresh;
  right = s.right;
  zero = file 0 State (omega arith) ∙ s.zero;
  saved = kept;
  others = λ name o. others name o.save_is o.journal_is ∙ s.others name o;
  number = s.number;
}
  where
    most : length p ≤ 999999999
    most = few p s.folder.sequences

    file : (k : ℕ) (t : Suffix) → k ≤ length p → g (file_name_of dir k t) ≡ f (file_name_of dir k t)
    file k t until =
        others (file_name_of dir k t) (λ e. apart.save_is.each k t (omega (arith, most, until)) (sym e))
        (λ e. (journal_outside dir save).each k t (omega (arith, most, until)) (sym e))

-- a journal that was right is right if it is emptied
right_or_empty : (save : List ℕ) (f g : Files) → g save ≡ f save → IsSameOrEmpty (f (journal_name_of save)) (g (journal_name_of save))
    → HasNoBadJournal save f → HasNoBadJournal save g
right_or_empty save f g same (inl stays) right = right_same save f g (same, stays) right
right_or_empty save f g same (inr empty) right = λ line bad.
    (let some = bad.some in
    let none = ap length (same_Some bad.bytes [] (sym bad.there ∙ empty)) in
    absurd (omega (arith, some, none)))

-- an empty journal is none of another save
free_or_empty : KeptLaws → (cut : Option ℕ) (save : List ℕ) (f g : Files) → g save ≡ f save
    → IsSameOrEmpty (f (journal_name_of save)) (g (journal_name_of save)) → IsFreeBut cut save f → IsFreeBut cut save g
free_or_empty laws cut save f g same (inl stays) free = free_same cut save f g (same, stays) free
free_or_empty laws cut save f g same (inr empty) free = λ n other.
    absurd (laws.no_bytes (g save) (g (journal_name_of save)) (ap bytes_of empty) n other)

-- a beginning that is refused before its save is there leaves what was kept
pub refused_agrees : KeptLaws → (p : List PublishedValue) (lost : ℕ → Suffix → Bool) (m : hist.Standing) (given : FilterValue)
    (dir save changes extract : List ℕ) (start f g l : Files) (n : ℕ) → AreApart dir save changes extract
    → Agrees p lost m given dir save changes extract start f l n → LeavesAll save f g → Agrees p lost m given dir save changes extract start g l n
refused_agrees laws p lost m given dir save changes extract start f g l n apart s left =
    both_agrees p lost m m given dir save changes extract start f g l n apart s (λ name save_is journal_is. left.others name journal_is) (record {
      save_is = record {
        value = s.saved.save_is.value;
        kept = left.kept given s.saved.save_is.value s.saved.save_is.kept;
        right = right_or_empty save f g same left.journal s.saved.save_is.right;
        base_is = s.saved.save_is.base_is;
        number_is = s.saved.save_is.number_is;
        in_step = s.saved.save_is.in_step;
      };
      alone = subst (IsInStepAlone p given) (sym same) s.saved.alone;
      short = short_or_empty max_file save f g left.journal s.saved.short;
      free = free_or_empty laws m.cut save f g same left.journal s.saved.free;
      is_there = ap is_none same ∙ s.saved.is_there;
      extract_is = subst (IsExtractOf p given m.exported extract (start extract)) (sym (left.others extract apart.not_journal)) s.saved.extract_is;
      within = s.saved.within;
    })
  where
    same : g save ≡ f save
    same = left.others save (λ e. journal_has_own_name save (sym e))

-- ---- a run that goes on over the folder of what was published

outcome_is : (ps : List PublishedValue) (base number : ℕ) (dir : List ℕ) (files : Files) (count : ℕ) (start reached : Saved) (top : StateValue)
    (end last : ℕ) → start.number ≡ number → reached.number ≡ number + count → reached.time ≡ time_at ps (number + count) → reached.base ≡ base
    → top.sequence ≡ length ps → top.time ≡ (sequence_at ps (length ps)).time → end ≡ last
    → (let a : Outcome = record {
      standing = standing_of reached top;
      applied = ranges start.number count;
      missing = lost_numbers files dir reached.number end;
    } in a)
    ≡ (let a : Outcome = record {
      standing = standing_at ps base (number + count);
      applied = ranges number count;
      missing = lost_numbers files dir (number + count) last;
    } in a)
outcome_is ps base number dir files count start reached top end last s n t b q w e = rw (s, n, t, b, q, w, e) refl

pub record HasCome (ps : List PublishedValue) (options : FollowOptions) (base number : ℕ) (dir save : List ℕ) (old new : Files) (report : ReportValue)
    (taken : ℕ) : Type 0 where
  pub after : IsKeptAfter ps options base number dir save old new report
  pub taken_is : taken ≡ after.count

pub kept_after : (options : FollowOptions) (ps : List PublishedValue) (base number : ℕ) (dir save : List ℕ) (old new : Files) (report : ReportValue)
    → IsFolderOf ps old dir → (k : IsKeptOf ps options.filter base number save old) → LeavesBoth options.filter save old new
    → (run : GoesOnFrom options dir save old new report k.value) → HasCome ps options base number dir save old new report run.count
kept_after options ps base number dir save old new report folder k left run =
    let start_is : k.value.number ≡ number = k.number_is in
    let top_is : run.top.sequence ≡ length ps = top_number ps (old (top_name_of dir)) run.top folder.sequences folder.top run.starts.top_is in
    let top_at : run.top.time ≡ (sequence_at ps (length ps)).time = top_time ps (old (top_name_of dir)) run.top folder.top run.starts.top_is in
    let end_is : end_of options k.value run.top ≡ last_number options.limit number (length ps) = rw (start_is, top_is) refl in
    let within = last_within options.limit number (length ps) in
    let until = run.goes_on.until in
    let sum = run.goes_on.number in
    let value_is : run.reached.number ≡ number + run.count = rw start_is at sum in
    let base_is : run.reached.base ≡ base = all_base old dir run.count k.value run.reached run.goes_on.added ∙ k.base_is in
    let reached_step : IsInStep ps options.filter run.reached =
    all_in_step options.filter ps old dir run.count k.value run.reached folder (omega (arith, sum, until, end_is, within)) run.goes_on.added k.in_step in
    let time_is : run.reached.time ≡ time_at ps (number + run.count) = reached_step.time ∙ ap (time_at ps) value_is in
    let still : run.count ≡ 0 → new ≡ old = λ none. left.still k.value run.reached k.kept run.kept (omega (arith, none, start_is, value_is)) in
    record {
      after = record {
        count = run.count;
        kept = record {
          value = run.reached;
          kept = run.kept;
          right = right_then left.laws options.filter save old new number run.count run.reached k.right still run.kept value_is;
          base_is = base_is;
          number_is = value_is;
          in_step = reached_step;
        };
        far = elim run.goes_on.far [
          | inl top ↦ inl (sym value_is ∙ (top ∙ end_is))
          | inr lost ↦ inr (rw (← value_is) lost)
        ];
        report_is = run.report_is ∙ ap (λ x. report_of options.layout None x) (outcome_is ps base number dir old run.count k.value run.reached run.top
            (end_of options k.value run.top) (last_number options.limit number (length ps)) start_is value_is time_is base_is top_is top_at end_is);
        others = left.others;
        still = still;
      };
      taken_is = refl;
    }
