-- What a run of the follower over a spoiled file leaves, and why it stops.
use Rattle.std.proofs.Common.{◌≡◌, ℕ, ◌+◌, ◌-◌, ◌<◌, ◌≤◌, List, [], length, Bool, true, false, Option, Some, None, inl, inr}
use Rattle.std.proofs.Common.{arith, refl, sym, ap, ◌∙◌, subst}
use Rattle.std.specs.Prelude.{IsTrue, is_none, is_some}
use Rattle.std.specs.Str.{bytes_eq}
use Rattle.std.proofs.lemmas.Bool.{cases_Bool}
use Rattle.std.proofs.lemmas.Slice.Eq.{bytes_eq-Decides}
use Rattle.osm_model.specs.Filter.{FilterValue}
use Rattle.osm_model.specs.Limits.{max_file}
use Rattle.osm_save.specs.declared.save.Saved.{Saved}
use Rattle.osm_state.specs.StateLaws.{NoFaultBesideState}
use Rattle.osm_state.specs.declared.paths.Suffix.{Suffix}
use Rattle.osm_state.specs.declared.paths.Suffix.TheVariants.{O5c, Opl, State}
use Rattle.osm_publisher.specs.Published.{PublishedValue, sequence_at}
use Rattle.osm_store.specs.Files.{Files, Puts}
use Rattle.osm_runs.specs.Following.{IsSaved, ranges}
use Rattle.osm_runs.specs.Keeping.{IsKept, IsKeptOf}
use Rattle.osm_runs.specs.Names.{file_name_of}
use Rattle.osm_runs.specs.Reports.{ReportValue, follow_report_of}
use Rattle.osm_runs.specs.declared.fault.FileName.TheVariants.{Sequence}
use Rattle.osm_runs.specs.declared.fault.RunFault.{RunFault}
use Rattle.osm_runs.specs.declared.fault.RunFault.TheVariants.{BadState, BadChange}
use Rattle.osm_runs.proofs.KeepingLemmas.{no_bad_journal, one_is_kept}
use Rattle.osm_kept.specs.Names.{journal_name_of}
use Rattle.osm_kept.specs.Refusal.{IsOther}
use Rattle.osm_round.specs.Keeping.{ChangesBoth, GoesOnFrom, GoesOnInPart, GoesUpTo, IsShortAfter, SavesAlone}
use Rattle.osm_operations.specs.Allowed.{IsReadIn}
use Rattle.osm_operations.specs.Correct.{AreApart}
use Rattle.osm_operations.specs.History as hist
use Rattle.osm_operations.specs.History.{Standing, count_from, text_of}
use Rattle.osm_operations.specs.Spoiling.{IsSpoiledFault, number_before, spoiled}
use Rattle.osm_operations.specs.Stepping.{KeptLaws}
use Rattle.osm_operations.proofs.AgreeLemmas.{Agrees, SameSave, few, is_kept_same}
use Rattle.osm_operations.proofs.KeptLemmas.{LeavesBoth, both_agrees, has_file, kept_on}
use Rattle.osm_operations.proofs.NameLemmas.{journal_outside}
use Rattle.osm_operations.proofs.FollowLemmas.{count_least, lost_same, number_lost, none_kept}
use Rattle.osm_operations.proofs.SpoiledRunLemmas.{IsReadAt, IsSpoiledFolder, before, same_part, same_run, unread, up_to}
use Rattle.osm_runs.specs.Following.{plainly}

-- ---- the files after the run

-- what a run leaves that changes the save and its journal alone, once the spoiled file is mended
pub record IsMended (save : List ℕ) (old after new : Files) : Type 0 where
  pub both : SameSave save after new
  pub others : ChangesBoth save old new

pub mended : (name save bytes : List ℕ) (old during after new : Files) → (name ≡ save → ⊥) → (name ≡ journal_name_of save → ⊥)
    → old name ≡ Some bytes → Puts old name (Some spoiled) during → ChangesBoth save during after
    → (is_some (after name) ≡ true → Puts after name (Some bytes) new) → IsMended save old after new
mended name save bytes old during after new apart apart_journal there put kept back =
    let is : after name ≡ Some spoiled = kept name apart apart_journal ∙ put.there in
    let b : Puts after name (Some bytes) new = back (ap is_some is) in
    record {
      both = (b.others save (λ e. apart (sym e)), b.others (journal_name_of save) (λ e. apart_journal (sym e)));
      others = λ x other other_journal. (let d = bytes_eq-Decides x name in elim (cases_Bool (bytes_eq x name)) [
        | inl found ↦ (let same : x ≡ name = d.0 found in rw same (b.there ∙ sym there))
        | inr other_one ↦ (let differs : x ≡ name → ⊥ = λ e. (let bad : true ≡ false = sym (d.1 e) ∙ other_one in cc) in
            b.others x differs ∙ (kept x other other_journal ∙ put.others x differs))
      ]);
    }

-- the spoiled file is mended after a run that is done
pub mended_leaves : (given : FilterValue) (save : List ℕ) (f during after g : Files) → SameSave save f during → IsMended save f after g
    → LeavesBoth given save during after → LeavesBoth given save f g
mended_leaves given save f during after g same is left = record {
  still = λ start reached told now same_number. (λ i x. stays start reached told now same_number x i);
  others = is.others;
  alone = alone left.alone;
  short = short left.short;
  free = λ n other. left.free n (subst (λ o. IsOther o (after (journal_name_of save)) n) is.both.0
      (subst (λ o. IsOther (g save) o n) is.both.1 other));
  laws = left.laws;
}
  where
    stays : (start reached : Saved) → IsKept given save f start → IsKept given save g reached → reached.number ≡ start.number
        → (x : List ℕ) → g x ≡ f x
    stays start reached told now same_number x =
        let unchanged : after ≡ during = left.still start reached (is_kept_same given save f during start same told)
        (is_kept_same given save g after reached (sym is.both.0, sym is.both.1) now) same_number in
        unless (λ e. rw e (is.both.0 ∙ (ap (λ (h : Files). h save) unchanged ∙ same.0)))
        (λ e. rw e (is.both.1 ∙ (ap (λ (h : Files). h (journal_name_of save)) unchanged ∙ same.1)))
      where
        unless : (x ≡ save → g x ≡ f x) → (x ≡ journal_name_of save → g x ≡ f x) → g x ≡ f x
        unless at_save at_journal = (let d = bytes_eq-Decides x save in elim (cases_Bool (bytes_eq x save)) [
          | inl found ↦ at_save (d.0 found)
          | inr no_save ↦ (let e = bytes_eq-Decides x (journal_name_of save) in elim (cases_Bool (bytes_eq x (journal_name_of save))) [
            | inl found ↦ at_journal (e.0 found)
            | inr no_journal ↦ is.others x (λ y. (let bad : true ≡ false = sym (d.1 y) ∙ no_save in cc))
                (λ y. (let bad : true ≡ false = sym (e.1 y) ∙ no_journal in cc))
          ])
        ])

    alone : SavesAlone given save during after → SavesAlone given save f g
    alone (inl stays) = inl (is.both.0 ∙ (stays ∙ same.0))
    alone (inr saves) = inr (λ v kept. subst (λ o. IsSaved given o v) (sym is.both.0)
        (saves v (is_kept_same given save g after v (sym is.both.0, sym is.both.1) kept)))

    short : IsShortAfter max_file save during after → IsShortAfter max_file save f g
    short (inl stays) = inl (is.both.1 ∙ (stays ∙ same.1))
    short (inr (bytes, there, few)) = inr (bytes, is.both.1 ∙ there, few)

-- after one that is refused all files are as they were
pub mended_same : (name bytes : List ℕ) (old during after new : Files) → old name ≡ Some bytes → Puts old name (Some spoiled) during → after ≡ during
    → (is_some (after name) ≡ true → Puts after name (Some bytes) new) → new ≡ old
mended_same name bytes old during after new there put same back = λ i x. at x i
  where
    b : Puts after name (Some bytes) new
    b = back (ap is_some (ap (λ (h : Files). h name) same ∙ put.there))

    at : (x : List ℕ) → new x ≡ old x
    at x = (let d = bytes_eq-Decides x name in elim (cases_Bool (bytes_eq x name)) [
      | inl found ↦ (let e : x ≡ name = d.0 found in rw e (b.there ∙ sym there))
      | inr other_one ↦ (let differs : x ≡ name → ⊥ = λ e. (let bad : true ≡ false = sym (d.1 e) ∙ other_one in cc) in
          b.others x differs ∙ (ap (λ (h : Files). h x) same ∙ put.others x differs))
    ])

number_of_fault : (k : ℕ) (t : Suffix) (fault : RunFault) → IsSpoiledFault k t fault → number_before fault ≡ k - 1
number_of_fault k t (BadState (Sequence j State) cause) h = ap (λ (i : ℕ). i - 1) h.0
number_of_fault k t (BadChange (Sequence j O5c) place why) h = ap (λ (i : ℕ). i - 1) h.0
number_of_fault k t (BadChange (Sequence j Opl) place why) h = ap (λ (i : ℕ). i - 1) h.0
number_of_fault k t fault h = absurd h

-- ---- over the folder of what was published

module _ (p : List PublishedValue) (lost : ℕ → Suffix → Bool) (m : Standing) (given : FilterValue) (dir save changes extract : List ℕ)
    (start f l : Files) (n : ℕ) (apart : AreApart dir save changes extract) (s : Agrees p lost m given dir save changes extract start f l n) where
  pub over_spoiled : (k : ℕ) (t : Suffix) (bytes : List ℕ) (during : Files) → 0 < k → k ≤ length p → f (file_name_of dir k t) ≡ Some bytes
      → Puts f (file_name_of dir k t) (Some spoiled) during → IsSpoiledFolder given p m.base m.number dir save k t f during
  over_spoiled k t bytes during above within there put =
      let most = few p s.folder.sequences in
      record {
        folder = s.folder;
        saved = s.saved.save_is;
        alone = s.saved.alone;
        apart = apart.save_is;
        apart_journal = journal_outside dir save;
        above = above;
        within = within;
        is = record { most = omega (arith, within, most); bytes = bytes; there = there; put = put };
      }

  pub save_apart : (k : ℕ) (t : Suffix) → k ≤ length p → file_name_of dir k t ≡ save → ⊥
  save_apart k t within e = (let most = few p s.folder.sequences in apart.save_is.each k t (omega (arith, within, most)) (sym e))

  pub journal_apart : (k : ℕ) (t : Suffix) → k ≤ length p → file_name_of dir k t ≡ journal_name_of save → ⊥
  journal_apart k t within e = (let most = few p s.folder.sequences in (journal_outside dir save).each k t (omega (arith, within, most)) (sym e))

  -- while it is spoiled, the save and its journal are as they were
  pub same_beside : (k : ℕ) (t : Suffix) → k ≤ length p → (during : Files) → Puts f (file_name_of dir k t) (Some spoiled) during → SameSave save f during
  same_beside k t within during put = (
    put.others save (λ e. save_apart k t within (sym e)),
    put.others (journal_name_of save) (λ e. journal_apart k t within (sym e)),
  )

  pub kept_beside : (k : ℕ) (t : Suffix) → k ≤ length p → (during : Files) → Puts f (file_name_of dir k t) (Some spoiled) during
      → (o : IsSpoiledFolder given p m.base m.number dir save k t f during) → IsKept given save during o.saved.value
  kept_beside k t within during put o = is_kept_same given save f during o.saved.value (same_beside k t within during put) o.saved.kept

  pub mended_beside : (k : ℕ) (t : Suffix) → k ≤ length p → (bytes : List ℕ) (during after new : Files) → f (file_name_of dir k t) ≡ Some bytes
      → Puts f (file_name_of dir k t) (Some spoiled) during → ChangesBoth save during after
      → (is_some (after (file_name_of dir k t)) ≡ true → Puts after (file_name_of dir k t) (Some bytes) new) → IsMended save f after new
  mended_beside k t within bytes during after new there put kept back =
      mended (file_name_of dir k t) save bytes f during after new (save_apart k t within) (journal_apart k t within) there put kept back

  -- a file of a published number is there exactly if it isn't lost
  pub lost_is : (k : ℕ) (t : Suffix) → 0 < k → k ≤ length p → is_none (f (file_name_of dir k t)) ≡ lost k t
  lost_is k t above within = ap is_none (s.each k t above within) ∙ none_kept (lost k t) (text_of t (sequence_at p k))

  pub file_there : (k : ℕ) (t : Suffix) (bytes : List ℕ) → 0 < k → k ≤ length p → f (file_name_of dir k t) ≡ Some bytes → lost k t ≡ false
  file_there k t bytes above within there = sym (lost_is k t above within) ∙ ap is_none there

  -- ---- a run that is done as over the right file

  value_is : KeptLaws → (k : ℕ) (t : Suffix) (during : Files) → (o : IsSpoiledFolder given p m.base m.number dir save k t f during)
      → o.saved.value ≡ s.saved.save_is.value
  value_is laws k t during o = one_is_kept laws.one given save f o.saved.value s.saved.save_is.value o.saved.kept s.saved.save_is.kept

  pub spoiled_followed : KeptLaws → (limit : Option ℕ) (k : ℕ) (t : Suffix) (during after g : Files) (report : ReportValue)
      → (o : IsSpoiledFolder given p m.base m.number dir save k t f during)
      → GoesOnFrom (up_to given limit) dir save during after report o.saved.value → IsMended save f after g
      → GoesOnFrom (up_to given limit) dir save f g report s.saved.save_is.value
  spoiled_followed laws limit k t during after g report o run is =
      subst (λ (v : Saved). GoesOnFrom (up_to given limit) dir save f g report v) (value_is laws k t during o)
      (same_run given p m.base m.number dir save k t f during o limit after g report run (λ v kept. is_kept_same given save after g v is.both kept))

  -- it didn't read the spoiled file
  not_among : (limit : Option ℕ) (k : ℕ) (t : Suffix) (during after : Files) (report : ReportValue)
      → (o : IsSpoiledFolder given p m.base m.number dir save k t f during)
      → (run : GoesOnFrom (up_to given limit) dir save during after report o.saved.value)
      → m.number < k → k ≤ m.number + run.count → (t ≡ Opl) × (lost k O5c ≡ false)
  not_among limit k t during after report o run above until =
      let u = unread given p m.base m.number dir save k t f during o limit after report run above until in
      (u.0, sym (lost_is k O5c o.above o.within) ∙ u.1)

  pub not_read : KeptLaws → (k : ℕ) (t : Suffix) (during after g : Files) (report : ReportValue) (count : ℕ)
      → (o : IsSpoiledFolder given p m.base m.number dir save k t f during)
      → GoesOnFrom (plainly given) dir save during after report o.saved.value → IsMended save f after g
      → IsKeptOf p given m.base (m.number + count) save g → m.number < k → k ≤ m.number + count
      → (t ≡ Opl) × (lost k O5c ≡ false)
  not_read laws k t during after g report count o run is kept above until =
      let told : IsKept given save g run.reached = is_kept_same given save after g run.reached is.both run.kept in
      let same = ap (λ (v : Saved). v.number) (one_is_kept laws.one given save g kept.value run.reached kept.kept told) in
      let at = run.goes_on.number in
      let number = kept.number_is in
      let from = o.saved.number_is in
      let counts : run.count ≡ count = omega (arith, same, at, number, from) in
      not_among None k t during after report o run above (rw counts until)

  -- ---- a run that came to a part, as over the right file

  pub spoiled_part : KeptLaws → (k : ℕ) (t : Suffix) (during after g : Files) (report : ReportValue) (count : ℕ)
      → (o : IsSpoiledFolder given p m.base m.number dir save k t f during)
      → GoesOnInPart (plainly given) dir save during after report count o.saved.value
      → IsMended save f after g → GoesOnInPart (plainly given) dir save f g report count s.saved.save_is.value
  spoiled_part laws k t during after g report count o run is =
      subst (λ (v : Saved). GoesOnInPart (plainly given) dir save f g report count v) (value_is laws k t during o)
      (same_part given p m.base m.number dir save k t f during o after g report count run (λ v kept. is_kept_same given save after g v is.both kept))

  pub not_read_part : (k : ℕ) (t : Suffix) (during after : Files) (report : ReportValue) (count : ℕ)
      → (o : IsSpoiledFolder given p m.base m.number dir save k t f during)
      → GoesOnInPart (plainly given) dir save during after report count o.saved.value
      → m.number < k → k ≤ m.number + count → (t ≡ Opl) × (lost k O5c ≡ false)
  not_read_part k t during after report count o run above until =
      not_among (Some count) k t during after report o run.goes above (rw run.count_is until)

  -- ---- a run that comes to the number before the spoiled file

  pub read_in : (k : ℕ) (t : Suffix) → 0 < k → k ≤ length p → IsReadAt f dir k t → (h : hist.History) → hist.is_file_lost h ≡ lost → IsReadIn h k t
  read_in k State above within read h same = tt
  read_in k O5c above within read h same =
      ap (λ (x : ℕ → Suffix → Bool). x k State) same ∙ (sym (lost_is k State above within) ∙ read)
  read_in k Opl above within read h same = (
    ap (λ (x : ℕ → Suffix → Bool). x k State) same ∙ (sym (lost_is k State above within) ∙ read.0),
    ap (λ (x : ℕ → Suffix → Bool). x k O5c) same ∙ (sym (lost_is k O5c above within) ∙ read.1),
  )

  -- what a history says of the save after such a run
  abbrev pub stopped_at : RunFault → Standing
  stopped_at fault = record { number = number_before fault; base = m.base; is_saved = true; exported = m.exported; cut = None }

  -- what such a run leaves and prints
  pub record CameBefore (k : ℕ) (t : Suffix) (g : Files) (report : ReportValue) (fault : RunFault) : Type 0 where
    pub agrees : Agrees p lost (stopped_at fault) given dir save changes extract start g l n
    pub number : number_before fault ≡ k - 1
    pub from : m.number + 1 < k
    pub turn : k ≤ m.number + count_from (number_lost lost) m.number (length p - m.number) + 1
    pub report_is : report ≡ follow_report_of (ranges m.number (k - 1 - m.number)) [] (k - 1)
    pub fault_is : IsSpoiledFault k t fault
    pub read : IsReadAt f dir k t

  pub came_before : NoFaultBesideState → (k : ℕ) (t : Suffix) (during after g : Files) (report : ReportValue) (fault : RunFault)
      → (o : IsSpoiledFolder given p m.base m.number dir save k t f during)
      → GoesUpTo (IsTrue true) (plainly given) dir save during after fault report o.saved.value
      → IsMended save f after g → LeavesBoth given save f g → CameBefore k t g report fault
  came_before law k t during after g report fault o run is left =
      let b = before given p m.base m.number dir save k t f during o law (IsTrue true) refl after fault report run in
      let told : IsKept given save g b.value = is_kept_same given save after g b.value is.both b.kept in
      let next = b.next_is in
      let within = o.within in
      let some = b.some in
      let count : b.count ≡ k - 1 - m.number = omega (arith, next) in
      let last : m.number + b.count ≡ k - 1 = omega (arith, next) in
      let number = number_of_fault k t fault b.fault_is in
      let value_is = b.value_is in
      let file = has_file given save g b.value told (omega (arith, some, value_is)) in
      let least = count_least (number_lost lost) m.number (length p - m.number) b.count (omega (arith, next, within))
      (λ j above until. sym (lost_same p lost m given dir save changes extract start f l n j s (omega (arith, above)) (omega (arith, until, next, within)))
      ∙ b.each j above (omega (arith, until, next))) in
      record {
        agrees = both_agrees p lost m (stopped_at fault) given dir save changes extract start f g l n apart s is.others
            (kept_on p given m m.base (number_before fault) true save extract (start extract) f g s.saved left (record {
              value = b.value;
              kept = told;
              right = no_bad_journal left.laws.nothing given save file.0 g b.value file.1 told;
              base_is = b.base_is;
              number_is = b.value_is ∙ (last ∙ sym number);
              in_step = b.in_step;
            }) (ap is_none file.1) (is.others extract apart.not_saved apart.not_journal));
        number = number;
        from = omega (arith, next, some);
        turn = omega (arith, least, next);
        report_is = b.report_is ∙ (ap (λ j. follow_report_of (ranges m.number j) [] (m.number + b.count)) count
            ∙ ap (λ j. follow_report_of (ranges m.number (k - 1 - m.number)) [] j) last);
        fault_is = b.fault_is;
        read = b.read;
      }
