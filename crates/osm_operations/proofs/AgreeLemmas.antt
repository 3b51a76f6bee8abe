-- The folder and the save of published sequences, some of whose files may be lost.
use Rattle.std.proofs.Common.{◌≡◌, ℕ, zero, ◌+◌, ◌-◌, ◌<◌, ◌≤◌, List, [], ◌∷◌, ◌++◌, length, take, Bool, true}
use Rattle.std.proofs.Common.{false, Option, Some, inl, inr, arith, refl, sym, ap, subst, ◌∙◌, length-append}
use Rattle.std.specs.Prelude.{IsTrue, None, is_none, not, unwrap_or}
use Rattle.std.specs.List.{AllByRecursion}
use Rattle.std.proofs.lemmas.Bool.{cases_lt}
use Rattle.std.proofs.lemmas.Int.{ints}
use Rattle.std.proofs.lemmas.Option.{same_Some}
use Rattle.osm_model.proofs.TimeLemmas.{shown_by_digits}
use Rattle.osm_model.specs.Change.{ChangeValue}
use Rattle.osm_model.specs.Content.{content_of}
use Rattle.osm_model.specs.Filter.{FilterValue, kept_object}
use Rattle.osm_model.specs.Limits.{max_file, max_sequence}
use Rattle.osm_model.specs.Clock.{loose_moment}
use Rattle.osm_model.specs.Time.{Shows}
use Rattle.osm_opl.proofs.FileLaws as opl_laws
use Rattle.osm_opl.proofs.RoundTrip as opl_trip
use Rattle.osm_opl.specs.File.{SpellsOpl}
use Rattle.osm_opl.specs.Written.{opl_text}
use Rattle.osm_state.specs.declared.paths.Suffix.{Suffix}
use Rattle.osm_state.specs.declared.paths.Suffix.TheVariants.{O5c, Opl, State}
use Rattle.osm_follow.proofs.PublishedLemmas.{after_within, changes_within, sequence_within, time_within}
use Rattle.osm_publisher.specs.Published.{changes_after, changes_up_to}
use Rattle.osm_publisher.specs.Published.{AreSequences, PublishedTexts, PublishedValue, sequence_at, written_of}
use Rattle.osm_publisher.specs.Publisher.{PublisherValue, closing}
use Rattle.osm_mirror.specs.Mirror.{IsMirrorOf}
use Rattle.osm_save.specs.declared.save.Saved.{Saved}
use Rattle.osm_store.specs.Files.{Files, IsOver, Puts}
use Rattle.osm_kept.specs.Names.{journal_name_of}
use Rattle.osm_kept.specs.Refusal as refusal
use Rattle.osm_kept.specs.Refusal.{IsBadJournal}
use Rattle.osm_runs.specs.Folder.{IsAbsentOr, IsApart, IsFile, IsFolderOf, IsTop}
use Rattle.osm_runs.specs.Following.{IsInStep}
use Rattle.osm_runs.specs.Keeping.{HasNoBadJournal, IsKept, IsKeptOf, KeptIn}
use Rattle.osm_runs.specs.Names.{file_name_of, top_name_of}
use Rattle.osm_publishing.specs.Publication.{IsCutOff, IsReady, PublishStops, Writes, writes_of}
use Rattle.osm_runs.specs.Reports.{ReportValue, publish_report_of}
use Rattle.osm_runs.specs.declared.fault.RunFault.{RunFault}
use Rattle.osm_publishing.proofs.FolderLemmas.{IsWritten, all_add, goes_on_number, last_time, ready_written, sequence_last, take_apart}
use Rattle.osm_runs.proofs.NameLemmas.{one_file, top_is_no_file}
use Rattle.osm_operations.specs.Alone.{IsInStepAlone}
use Rattle.osm_operations.specs.Correct.{AreApart, IsExtractOf, IsOther}
use Rattle.osm_operations.specs.History.{Standing, begins_at, text_of, unless_lost}
use Rattle.osm_operations.specs.Stepping.{AreChangesPut, IsPublishRun, Publishes, StopsPublishing}
use Rattle.osm_operations.proofs.NameLemmas.{journal_outside}

-- a journal of another save that ends above the save, if one lies there, ends at that number
abbrev pub IsFreeBut : Option ℕ → List ℕ → Files → Type 0
IsFreeBut cut save f = (n : ℕ) → refusal.IsOther (f save) (f (journal_name_of save)) n → cut ≡ Some n

-- the save, its journal and the extract are as the history says; `was` is the extract at the start
pub record Kept (p : List PublishedValue) (given : FilterValue) (m : Standing) (save extract : List ℕ) (was : Option (List ℕ)) (f : Files) : Type 0 where
  pub save_is : IsKeptOf p given m.base m.number save f
  pub alone : IsInStepAlone p given (f save)
  pub short : IsOver max_file (f (journal_name_of save)) → ⊥
  pub free : IsFreeBut m.cut save f
  pub is_there : is_none (f save) ≡ not m.is_saved
  pub extract_is : IsExtractOf p given m.exported extract was (f extract)
  pub within : begins_at m ≤ length p

-- the files agree with what was published, lost, saved and exported; `l` holds the lost ones
pub record Agrees (p : List PublishedValue) (lost : ℕ → Suffix → Bool) (m : Standing) (given : FilterValue) (dir save changes extract : List ℕ)
    (start f l : Files) (n : ℕ) : Type 0 where
  pub folder : IsFolderOf p f dir
  pub each : (k : ℕ) (s : Suffix) → 0 < k → k ≤ length p → f (file_name_of dir k s) ≡ unless_lost (lost k s) (text_of s (sequence_at p k))
  pub away : (k : ℕ) (s : Suffix) → 0 < k → k ≤ max_sequence → l (file_name_of dir k s) ≡ unless_lost (not (lost k s)) (text_of s (sequence_at p k))
  pub fresh : (k : ℕ) (s : Suffix) → length p < k → lost k s ≡ false
  pub right : (k : ℕ) (s : Suffix) → 0 < k → k ≤ length p → IsFile s (sequence_at p k) (text_of s (sequence_at p k))
  pub zero : f (file_name_of dir 0 State) ≡ None
  pub saved : Kept p given m save extract (start extract) f
  pub others : (name : List ℕ) → IsOther dir save changes extract name → f name ≡ start name
  pub number : n ≡ length p

-- a folder has no more sequences than there are numbers
pub few : (p : List PublishedValue) → AreSequences p → length p ≤ max_sequence
few [] s = omega arith
few (x ∷ p) s =
    let last = s (length (x ∷ p)) (omega arith) (omega arith) in
    last.most

-- stores that hold the same under the folder's names have the same folder
pub folder_same : (p : List PublishedValue) (dir : List ℕ) (f g : Files) → g (top_name_of dir) ≡ f (top_name_of dir)
    → ((k : ℕ) (s : Suffix) → 0 < k → k ≤ length p → g (file_name_of dir k s) ≡ f (file_name_of dir k s))
    → IsFolderOf p f dir → IsFolderOf p g dir
folder_same p dir f g top each is = record {
  sequences = is.sequences;
  rising = is.rising;
  top = subst (IsTop p) (sym top) is.top;
  each = λ k s above within. subst (λ o. IsAbsentOr o (IsFile s (sequence_at p k))) (sym (each k s above within)) (is.each k s above within);
}

-- the save and its journal are the same
abbrev pub SameSave : List ℕ → Files → Files → Type 0
SameSave save f g = (g save ≡ f save) × (g (journal_name_of save) ≡ f (journal_name_of save))

pub is_kept_same : (given : FilterValue) (save : List ℕ) (f g : Files) (v : Saved) → SameSave save f g → IsKept given save f v → IsKept given save g v
is_kept_same given save f g v same kept =
    subst (λ o. KeptIn given o (g (journal_name_of save)) v) (sym same.0) (subst (λ o. KeptIn given (f save) o v) (sym same.1) kept)

pub right_same : (save : List ℕ) (f g : Files) → SameSave save f g → HasNoBadJournal save f → HasNoBadJournal save g
right_same save f g same right line bad =
    right line (subst (λ o. IsBadJournal o (f (journal_name_of save)) line) same.0 (subst (λ o. IsBadJournal (g save) o line) same.1 bad))

pub free_same : (cut : Option ℕ) (save : List ℕ) (f g : Files) → SameSave save f g → IsFreeBut cut save f → IsFreeBut cut save g
free_same cut save f g same free n other =
    free n (subst (λ o. refusal.IsOther o (f (journal_name_of save)) n) same.0 (subst (λ o. refusal.IsOther (g save) o n) same.1 other))

pub kept_of_same : (p : List PublishedValue) (given : FilterValue) (base number : ℕ) (save : List ℕ) (f g : Files) → SameSave save f g
    → IsKeptOf p given base number save f → IsKeptOf p given base number save g
kept_of_same p given base number save f g same s = record {
  value = s.value;
  kept = is_kept_same given save f g s.value same s.kept;
  right = right_same save f g same s.right;
  base_is = s.base_is;
  number_is = s.number_is;
  in_step = s.in_step;
}

-- a save, a journal and an extract that are the same
pub kept_same : (p : List PublishedValue) (given : FilterValue) (m : Standing) (save extract : List ℕ) (was : Option (List ℕ)) (f g : Files)
    → SameSave save f g → g extract ≡ f extract → Kept p given m save extract was f → Kept p given m save extract was g
kept_same p given m save extract was f g same same_told s = record {
  save_is = kept_of_same p given m.base m.number save f g same s.save_is;
  alone = subst (IsInStepAlone p given) (sym same.0) s.alone;
  short = subst (λ o. IsOver max_file o → ⊥) (sym same.1) s.short;
  free = free_same m.cut save f g same s.free;
  is_there = ap is_none same.0 ∙ s.is_there;
  extract_is = subst (IsExtractOf p given m.exported extract was) (sym same_told) s.extract_is;
  within = s.within;
}

-- nothing of it has changed
pub untouched : (p : List PublishedValue) (lost : ℕ → Suffix → Bool) (m : Standing) (given : FilterValue) (dir save changes extract : List ℕ)
    (start f g l : Files) (n : ℕ) → IsFolderOf p g dir → ((k : ℕ) (s : Suffix) → k ≤ length p
    → g (file_name_of dir k s) ≡ f (file_name_of dir k s)) → SameSave save f g → g extract ≡ f extract
    → ((name : List ℕ) → IsOther dir save changes extract name → g name ≡ f name) → Agrees p lost m given dir save changes extract start f l n
    → Agrees p lost m given dir save changes extract start g l n
untouched p lost m given dir save changes extract start f g l n folder each same same_extract others s = record {
  folder = folder;
  each = λ k t above within. each k t within ∙ s.each k t above within;
  away = s.away;
  fresh = s.fresh;
  right = s.right;
  zero = each 0 State (omega arith) ∙ s.zero;
  saved = kept_same p given m save extract (start extract) f g same same_extract s.saved;
  others = λ name o. others name o ∙ s.others name o;
  number = s.number;
}

-- the file of changes is written
pub changes_put : (p : List PublishedValue) (lost : ℕ → Suffix → Bool) (m : Standing) (given : FilterValue) (dir save changes extract : List ℕ)
    (start f g l : Files) (n : ℕ) (w : Option (List ℕ)) → AreApart dir save changes extract → Puts f changes w g
    → Agrees p lost m given dir save changes extract start f l n → Agrees p lost m given dir save changes extract start g l n
changes_put p lost m given dir save changes extract start f g l n w apart put s =
    let most = few p s.folder.sequences in
    untouched p lost m given dir save changes extract start f g l n
    (folder_same p dir f g (put.others (top_name_of dir) (λ e. apart.changes_are.top (sym e)))
    (λ k t above within. put.others (file_name_of dir k t) (λ e. apart.changes_are.each k t (omega arith) (sym e)))
    s.folder)
    (λ k t within. put.others (file_name_of dir k t) (λ e. apart.changes_are.each k t (omega arith) (sym e)))
    (put.others save apart.differ, put.others (journal_name_of save) apart.no_changes) (put.others extract apart.not_changed)
    (λ name o. put.others name o.changes_are) s

-- writes of other files
pub leaves : (name : List ℕ) (ws : List (List ℕ × List ℕ)) (f g : Files)
    → AllByRecursion (λ (w : List ℕ × List ℕ). name ≡ w.0 → ⊥) ws → Writes ws f g → g name ≡ f name
leaves name [] f g apart w = ap (λ (h : Files). h name) w
leaves name (v ∷ ws) f g apart w = leaves name ws w.0 g apart.1 w.2 ∙ w.1.others name apart.0

-- the files of a number before that which is written
pub writes_before : (dir : List ℕ) (x : PublishedTexts) (k : ℕ) (s : Suffix) (count : ℕ) (f g : Files) → k < x.number
    → x.number ≤ max_sequence → Writes (take count (writes_of dir x)) f g → g (file_name_of dir k s) ≡
    f (file_name_of dir k s)
writes_before dir x k s count f g below most w =
    leaves (file_name_of dir k s) (take count (writes_of dir x)) f g (take_apart (file_name_of dir k s) count (writes_of dir x)
    (other O5c, (other Opl, (other State, (λ e. top_is_no_file dir k s (sym e), tt))))) w
  where
    other : (t : Suffix) → file_name_of dir k s ≡ file_name_of dir x.number t → ⊥
    other t e =
        let one = one_file dir k x.number s t (omega arith) most e in
        let same = one.0 in
        omega (arith, same)

abbrev pub text_in : Suffix → PublishedTexts → List ℕ
text_in O5c x = x.o5c
text_in Opl x = x.opl
text_in State x = x.state

-- the files of the number that is written
pub writes_last : (dir : List ℕ) (x : PublishedTexts) (s : Suffix) (f g : Files) → x.number ≤ max_sequence
    → Writes (writes_of dir x) f g → g (file_name_of dir x.number s) ≡ Some (text_in s x)
writes_last dir x s f g fits w = in_g s ∙ of_last s
  where
    in_g : (s : Suffix) → g (file_name_of dir x.number s) ≡ w.2.2.0 (file_name_of dir x.number s)
    in_g s = ap (λ (h : Files). h (file_name_of dir x.number s)) w.2.2.2.2
        ∙ w.2.2.2.1.others (file_name_of dir x.number s) (λ e. top_is_no_file dir x.number s (sym e))

    differ : (s t : Suffix) → (s ≡ t → ⊥) → file_name_of dir x.number s ≡ file_name_of dir x.number t → ⊥
    differ s t apart e = (let one = one_file dir x.number x.number s t fits fits e in apart one.1)

    of_last : (s : Suffix) → w.2.2.0 (file_name_of dir x.number s) ≡ Some (text_in s x)
    of_last State = w.2.2.1.there
    of_last Opl = w.2.2.1.others (file_name_of dir x.number Opl) (differ Opl State (λ e. cc)) ∙ w.2.1.there
    of_last O5c =
        w.2.2.1.others (file_name_of dir x.number O5c) (differ O5c State (λ e. cc))
        ∙ (w.2.1.others (file_name_of dir x.number O5c) (differ O5c Opl (λ e. cc)) ∙ w.1.there)

-- what was in step stays so if one more is published
before : (p : List PublishedValue) (given : FilterValue) (x : PublishedValue) (v : Saved) → IsInStep p given v → IsInStep (p ++ x ∷ []) given v
before p given x v is =
    let within = is.within in
    record {
      within = grind (arith, length-append);
      base = is.base;
      filter_is = is.filter_is;
      mirror = subst (λ cs. IsMirrorOf given cs (changes_after (p ++ x ∷ []) v.base v.number) v.mirror) (sym (changes_within p (x ∷ []) v.number within))
          (subst (λ cs. IsMirrorOf given (changes_up_to p v.number) cs v.mirror) (sym (after_within p (x ∷ []) v.base v.number within)) is.mirror);
      time = is.time ∙ sym (time_within p (x ∷ []) v.number within);
    }

-- a save and a journal of the sequences before the last
save_before : (p : List PublishedValue) (given : FilterValue) (x : PublishedValue) (base number : ℕ) (save : List ℕ) (f : Files)
    → IsKeptOf p given base number save f → IsKeptOf (p ++ x ∷ []) given base number save f
save_before p given x base number save f s = record {
  value = s.value;
  kept = s.kept;
  right = s.right;
  base_is = s.base_is;
  number_is = s.number_is;
  in_step = before p given x s.value s.in_step;
}

-- an extract of the sequences before the last
extract_before : (p : List PublishedValue) (given : FilterValue) (x : PublishedValue) (exported : Option ℕ) (extract : List ℕ) (was told : Option (List ℕ))
    → unwrap_or exported 0 ≤ length p → IsExtractOf p given exported extract was told → IsExtractOf (p ++ x ∷ []) given exported extract was told
extract_before p given x None extract was told within s = s
extract_before p given x (Some number) extract was told within s = record {
  named = s.named;
  objects = s.objects;
  are_data = s.are_data;
  content = λ k. s.content k ∙ ap (λ cs. kept_object given (content_of cs k)) (sym (changes_within p (x ∷ []) number within));
  text = s.text;
}

kept_before : (p : List PublishedValue) (given : FilterValue) (x : PublishedValue) (m : Standing) (save extract : List ℕ) (was : Option (List ℕ))
    (f : Files) → Kept p given m save extract was f → Kept (p ++ x ∷ []) given m save extract was f
kept_before p given x m save extract was f s = record {
  save_is = save_before p given x m.base m.number save f s.save_is;
  alone = λ v told. before p given x v (s.alone v told);
  short = s.short;
  free = s.free;
  is_there = s.is_there;
  extract_is = extract_before p given x m.exported extract was (f extract) s.within s.extract_is;
  within = let low = s.within in grind (arith, length-append);
}

-- one text shows one time
pub one_shown : (bytes : List ℕ) (t u : ℕ) → Shows bytes t → Shows bytes u → t ≡ u
one_shown bytes t u p q =
    let a = shown_by_digits bytes (loose_moment bytes) t refl p in
    let b = shown_by_digits bytes (loose_moment bytes) u refl q in
    omega (arith, ints, a.seconds, b.seconds)

pub same_sequence : (m n : ℕ) (b c : List ChangeValue) (t u : ℕ) → m ≡ n → b ≡ c → t ≡ u
    → (let a : PublishedValue = record { number = m; changes = b; time = t } in a) ≡ (let a : PublishedValue =
    record { number = n; changes = c; time = u } in a)
same_sequence m n b c t u p q r = rw (p, q, r) refl

-- the edits of a publisher that read the file of changes
pub read_batch : (dir changes now : List ℕ) (batch : List ChangeValue) (f m : Files) (bytes : List ℕ)
    (a : List ChangeValue) → AreChangesPut changes batch f m → m changes ≡ Some bytes → SpellsOpl bytes a → a ≡ batch
read_batch dir changes now batch f m bytes a put there spelled =
    let same : bytes ≡ opl_text batch = same_Some _ _ (sym there ∙ put.put.there) in
    opl_laws.one_batch (opl_text batch) a batch (subst (λ bs. SpellsOpl bs a) same spelled) (opl_trip.text_spells batch put.limits)

-- the sequence that a publisher closes
closing_is : (p : List PublishedValue) (dir changes now : List ℕ) (batch : List ChangeValue) (time : ℕ) (f m : Files)
    (a : PublisherValue) (t : ℕ) → IsFolderOf p m dir → Shows now time → AreChangesPut changes batch f m
    → IsReady dir changes now m a t → closing a t ≡ record { number = length p + 1; changes = batch; time = time }
closing_is p dir changes now batch time f m a t folder shows put ready =
    let number = goes_on_number p (m (top_name_of dir)) a.number a.time folder.sequences folder.top ready.read.goes_on in
    same_sequence (a.number + 1) (length p + 1) a.pending batch t time (ap (λ k. k + 1) number)
    (read_batch dir changes now batch f m ready.read.bytes a.pending put ready.read.there ready.read.spelled)
    (one_shown now t time ready.read.now_is.shows shows)

-- one sequence more
pub agrees_more : (p : List PublishedValue) (lost : ℕ → Suffix → Bool) (m : Standing) (given : FilterValue) (dir save changes extract : List ℕ)
    (start f g l : Files) (n : ℕ) (x : PublishedValue) → x.number ≡ length p + 1 → x.number ≤ max_sequence
    → IsFolderOf (p ++ x ∷ []) g dir → Writes (writes_of dir (written_of x)) f g
    → ((name : List ℕ) → IsApart dir name → g name ≡ f name) → IsApart dir save
    → IsApart dir (journal_name_of save) → IsApart dir extract → Agrees p lost m given dir save changes extract start f l n
    → Agrees (p ++ x ∷ []) lost m given dir save changes extract start g l (n + 1)
agrees_more p lost m given dir save changes extract start f g l n x next fits folder w others apart apart_journal apart_extract s = record {
  folder = folder;
  each = each;
  away = λ k t above most. elim (cases_lt (length p) k) [
    | inl past ↦
        rw (s.fresh k t past)
        (subst (λ b. l (file_name_of dir k t) ≡ unless_lost (not b) (text_of t (sequence_at p k))) (s.fresh k t past)
        (s.away k t above most))
    | inr until ↦ rw (sequence_within p (x ∷ []) k above until) (s.away k t above most)
  ];
  fresh = λ k t past. s.fresh k t (omega (arith, more, past));
  right = λ k t above within. elim (cases_lt (length p) k) [
    | inl past ↦ (let same : k ≡ length p + 1 = omega (arith, more, within, past) in rw (sequence_last p x k same) (of_last t))
    | inr until ↦ rw (sequence_within p (x ∷ []) k above until) (s.right k t above until)
  ];
  zero = writes_before dir (written_of x) 0 State 4 f g (omega (arith, next)) fits w ∙ s.zero;
  saved = kept_same (p ++ x ∷ []) given m save extract (start extract) f g (others save apart, others (journal_name_of save) apart_journal)
      (others extract apart_extract) (kept_before p given x m save extract (start extract) f s.saved);
  others = λ name o. others name o.folder ∙ s.others name o;
  number = (let n_is = s.number in omega (arith, more, n_is));
}
  where
    more : length (p ++ x ∷ []) ≡ length p + 1
    more = grind (arith, length-append)

    last_file : (t : Suffix) → g (file_name_of dir x.number t) ≡ Some (text_of t x)
    last_file O5c = writes_last dir (written_of x) O5c f g fits w
    last_file Opl = writes_last dir (written_of x) Opl f g fits w
    last_file State = writes_last dir (written_of x) State f g fits w

    each : (k : ℕ) (t : Suffix) → 0 < k → k ≤ length (p ++ x ∷ []) → g (file_name_of dir k t) ≡ unless_lost (lost k t) (text_of t (sequence_at (p ++ x ∷ []) k))
    each k t above within = elim (cases_lt (length p) k) [
      | inl past ↦ (let same : k ≡ x.number = omega (arith, more, within, past, next) in
          let at : k ≡ length p + 1 = same ∙ next in
          rw (s.fresh k t past, sequence_last p x k at) (subst (λ j. g (file_name_of dir j t) ≡ Some (text_of t x)) (sym same) (last_file t)))
      | inr until ↦ rw (sequence_within p (x ∷ []) k above until)
          (writes_before dir (written_of x) k t 4 f g (omega (arith, until, next)) fits w ∙ s.each k t above until)
    ]

    of_last : (t : Suffix) → IsFile t x (text_of t x)
    of_last t =
        let at : x.number ≤ length (p ++ x ∷ []) = omega (arith, more, next) in
        let above : 0 < x.number = omega (arith, next) in
        subst (λ y. IsFile t y (text_of t x)) (sequence_last p x x.number next)
        (subst (λ o. IsAbsentOr o (IsFile t (sequence_at (p ++ x ∷ []) x.number))) (last_file t) (folder.each x.number t above at))

-- a publication that is done
pub published_agrees : (p : List PublishedValue) (lost : ℕ → Suffix → Bool) (m : Standing) (given : FilterValue) (dir save changes extract : List ℕ)
    (start f g l : Files) (n : ℕ) (batch : List ChangeValue) (time : ℕ) (report : ReportValue)
    → AreApart dir save changes extract → Agrees p lost m given dir save changes extract start f l n → IsPublishRun dir changes batch time f g
    (Publishes dir changes report g) → Agrees (p ++ (record { number = length p + 1; changes = batch; time = time }) ∷
    []) lost m given dir save changes extract start g l (n + 1) × (report ≡ publish_report_of (length p + 1))
published_agrees p lost m given dir save changes extract start f g l n batch time report apart s run =
    let mid = changes_put p lost m given dir save changes extract start f run.middle l n (Some (opl_text batch)) apart run.there.put s in
    let done = run.is_so.published in
    let number = goes_on_number p (run.middle (top_name_of dir)) done.publisher.number done.publisher.time
    mid.folder.sequences mid.folder.top done.ready.read.goes_on in
    let same = closing_is p dir changes run.now batch time f run.middle done.publisher done.time mid.folder run.shows run.there done.ready in
    let is = subst IsWritten same (ready_written dir changes run.now run.middle done.publisher done.time done.ready) in
    let written = subst (λ x. Writes (writes_of dir (written_of x)) run.middle g) same done.written in (
      agrees_more p lost m given dir save changes extract start run.middle g l n (record { number = length p + 1; changes = batch; time = time }) refl
          is.sequence.most
          (all_add p dir (record { number = length p + 1; changes = batch; time = time }) run.middle g refl is
          (λ some. subst (λ (x : PublishedValue). (sequence_at p (length p)).time ≤ x.time) same
          (subst (λ t. t ≤ done.time) (last_time p (run.middle (top_name_of dir)) done.publisher.number done.publisher.time some mid.folder.top
          done.ready.read.goes_on) done.ready.can_close.onward)) written mid.folder)
          written
          run.others apart.save_is (journal_outside dir save) apart.extract_is mid,
      done.report_is ∙ ap (λ k. publish_report_of (k + 1)) number,
    )

-- a publication that stopped
pub stopped_agrees : (left : Option ℕ) (p : List PublishedValue) (lost : ℕ → Suffix → Bool) (m : Standing)
    (given : FilterValue) (dir save changes extract : List ℕ) (start f g l : Files) (n : ℕ) (batch : List ChangeValue) (time : ℕ) (fault : RunFault)
    → AreApart dir save changes extract → Agrees p lost m given dir save changes extract start f l n → IsPublishRun dir changes batch time f g
    (StopsPublishing left dir changes fault g) → Agrees p lost m given dir save changes extract start g l n
stopped_agrees left p lost m given dir save changes extract start f g l n batch time fault apart s run = by_stop run.is_so.stops
  where
    mid : Agrees p lost m given dir save changes extract start run.middle l n
    mid = changes_put p lost m given dir save changes extract start f run.middle l n (Some (opl_text batch)) apart run.there.put s

    from_cut : IsCutOff dir changes run.now run.middle g fault → (k : ℕ) (t : Suffix) → k ≤ length p
        → g (file_name_of dir k t) ≡ run.middle (file_name_of dir k t)
    from_cut cut k t within =
        let number = goes_on_number p (run.middle (top_name_of dir)) cut.publisher.number cut.publisher.time
        mid.folder.sequences mid.folder.top cut.ready.read.goes_on in
        let room = cut.ready.can_close.room in
        writes_before dir (written_of (closing cut.publisher cut.time)) k t cut.count run.middle g
        (omega (arith, number, within)) (omega (arith, room)) cut.written

    by_stop : PublishStops (IsTrue true) dir changes run.now run.middle g fault → Agrees p lost m given dir save changes extract start g l n
    by_stop (inl a) = subst (λ (h : Files). Agrees p lost m given dir save changes extract start h l n) (sym a.1) mid
    by_stop (inr a) = untouched p lost m given dir save changes extract start run.middle g l n (run.is_so.keeps p mid.folder)
        (λ k t within. from_cut (a.1 refl) k t within)
        (run.others save apart.save_is, run.others (journal_name_of save) (journal_outside dir save))
        (run.others extract apart.extract_is) (λ name o. run.others name o.folder) mid
