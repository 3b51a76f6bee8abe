-- What a publication by number leaves of the folder of published sequences, some of whose files may be lost.
use Rattle.std.proofs.Common.{◌≡◌, ℕ, ◌+◌, ◌<◌, ◌≤◌, List, [], ◌∷◌, ◌++◌, length, Bool, true, false}
use Rattle.std.proofs.Common.{Option, Some, None, inl, inr, arith, refl, sym, ap, subst, ◌∙◌, length-append}
use Rattle.std.specs.Prelude.{◌⊎◌, ◌&&◌, ◌||◌, ◌==◌, not, if◌then◌else◌}
use Rattle.std.proofs.lemmas.Bool.{cases_Bool, cases_lt, eqb-true, eq-eqb, ne_eqb}
use Rattle.osm_model.specs.Change.{ChangeValue}
use Rattle.osm_model.specs.Filter.{FilterValue}
use Rattle.osm_model.specs.Limits.{max_sequence}
use Rattle.osm_model.specs.Time.{Shows}
use Rattle.osm_opl.proofs.FileLaws as opl_laws
use Rattle.osm_opl.proofs.RoundTrip as opl_trip
use Rattle.osm_opl.specs.File.{SpellsOpl}
use Rattle.osm_opl.specs.Written.{opl_text}
use Rattle.osm_reading.specs.Sequence.{SpellsSequence}
use Rattle.osm_state.specs.declared.paths.Suffix.{Suffix}
use Rattle.osm_state.specs.declared.paths.Suffix.TheVariants.{O5c, Opl, State}
use Rattle.osm_publisher.specs.Published.{PublishedValue, sequence_at, written_of}
use Rattle.osm_kept.specs.Names.{journal_name_of}
use Rattle.osm_store.specs.Files.{Files}
use Rattle.osm_runs.specs.Folder.{IsFolderOf, IsThere}
use Rattle.osm_runs.specs.Following.{is_lost}
use Rattle.osm_runs.specs.Names.{file_name_of, top_name_of}
use Rattle.osm_publishing.specs.Numbered.{IsAsked, IsPublishedIn, IsRepeated, PutsSequence, numbered_calls}
use Rattle.osm_publishing.specs.Publication.{GoesOnFrom, IsAdded, Writes, writes_of}
use Rattle.osm_runs.specs.Reports.{ReportValue, publish_report_of}
use Rattle.osm_publishing.proofs.FolderLemmas.{goes_on_number, sequence_last}
use Rattle.osm_operations.specs.Allowed.{place_of}
use Rattle.osm_operations.specs.Correct.{AreApart}
use Rattle.osm_operations.specs.History.{Standing, text_of, unless_lost, wrote}
use Rattle.osm_operations.specs.Killing.{HasCalls}
use Rattle.osm_operations.specs.Stepping.{AreChangesPut, IsNumberText, IsPublishRun, PublishesAs}
use Rattle.osm_operations.specs.Stepping.{ReturnForms, named}
use Rattle.osm_operations.proofs.AgreeLemmas.{Agrees, agrees_more, changes_put, few, one_shown, read_batch}
use Rattle.osm_operations.proofs.AgreeLemmas.{same_sequence}
use Rattle.osm_operations.proofs.FollowLemmas.{lost_same, number_lost}
use Rattle.osm_operations.proofs.NumberLemmas.{AreBack, AreGone, WasBack, are_back, lost_alike, named_is, named_least}
use Rattle.osm_operations.proofs.NumberLemmas.{named_most, none_back, rewritten, text_same, unless_back, written_so_far}
use Rattle.osm_operations.proofs.NameLemmas.{journal_outside}

-- the sequence of that number, with those changes at that time
abbrev pub value_of : ℕ → List ChangeValue → ℕ → PublishedValue
value_of n batch time = record { number = n; changes = batch; time = time }

-- what was asked for
pub asked_is : (dir changes now sequence : List ℕ) (batch : List ChangeValue) (time n : ℕ) (f m : Files) (top t : ℕ)
    (x : PublishedValue) → IsNumberText n sequence → Shows now time → AreChangesPut changes batch f m
    → IsAsked dir changes now sequence m top t x → x ≡ value_of n batch time
asked_is dir changes now sequence batch time n f m top t x text shows put asked =
    same_sequence x.number n x.changes batch x.time time (text.only x.number asked.number_is)
    (read_batch dir changes now batch f m asked.bytes x.changes put asked.there asked.spelled)
    (one_shown now x.time time asked.now_is.shows shows)

-- the file of changes spells that batch alone
pub one_put : (changes : List ℕ) (batch a : List ChangeValue) (f m : Files) → AreChangesPut changes batch f m
    → IsThere (m changes) (λ bytes. SpellsOpl bytes a) → a ≡ batch
one_put changes batch a f m put there =
    opl_laws.one_batch (opl_text batch) a batch (subst (λ o. IsThere o (λ bytes. SpellsOpl bytes a)) put.put.there
    there) (opl_trip.text_spells batch put.limits)

-- the sequence is published, and can be read
abbrev pub IsAgain : List PublishedValue → (ℕ → Suffix → Bool) → ℕ → List ChangeValue → ℕ → Type 0
IsAgain p lost n batch time =
    (0 < n) × (n ≤ length p) × (sequence_at p n ≡ value_of n batch time) × (number_lost lost n ≡ false)

pub wrote_not : (n newest i : ℕ) → (n ≡ newest → ⊥) → wrote n newest i ≡ false
wrote_not n newest i differ = rw (ne_eqb n newest differ) (elim (cases_Bool (n == i)) [ inl same ↦ rw same refl | inr other ↦ rw other refl ])

wrote_other : (n newest i : ℕ) → (i ≡ n → ⊥) → wrote n newest i ≡ false
wrote_other n newest i differ = rw (ne_eqb n i (λ e. differ (sym e))) refl

wrote_it : (n newest : ℕ) → n ≡ newest → wrote n newest n ≡ true
wrote_it n newest e = rw (eq-eqb n n refl, eq-eqb n newest e) refl

gone_now : (r : Bool) (here gone : Option (List ℕ)) (text : List ℕ) → here ≡ Some text → WasBack r here gone → unless_back r gone ≡ None
gone_now true here told text there was = refl
gone_now false here told text there (inl e) = absurd (let bad : Some text ≡ None = sym there ∙ e in cc)
gone_now false here told text there (inr e) = e

place_low : (t : Suffix) → place_of t < 3
place_low O5c = omega arith
place_low Opl = omega arith
place_low State = omega arith

pub or_false : (a b : Bool) → (a || b) ≡ false → (a ≡ false) × (b ≡ false)
or_false false b e = (refl, e)
or_false true b e = absurd (let bad : true ≡ false = e in cc)

-- ---- a publication by number that is done

module _ (left : Option ℕ) (p : List PublishedValue) (lost : ℕ → Suffix → Bool) (m : Standing) (given : FilterValue) (dir save changes extract : List ℕ)
    (start f g l k : Files) (c : ℕ) (batch : List ChangeValue) (time n : ℕ) (report : ReportValue) (o5c opl : Bool)
    (apart : AreApart dir save changes extract) (s : Agrees p lost m given dir save changes extract start f l c)
    (run : IsPublishRun dir changes batch time f g (PublishesAs left dir changes n report g))
    (back : ReturnForms o5c opl dir (named n) g l k) where
  mid : Agrees p lost m given dir save changes extract start run.middle l c
  mid = changes_put p lost m given dir save changes extract start f run.middle l c (Some (opl_text batch)) apart run.there.put s

  most : length p ≤ max_sequence
  most = few p s.folder.sequences

  asked : run.is_so.published.asked_for ≡ value_of n batch time
  asked = asked_is dir changes run.now run.is_so.sequence batch time n f run.middle run.is_so.published.top
      run.is_so.published.time run.is_so.published.asked_for run.is_so.number_is run.shows run.there
      run.is_so.published.asked

  asked_number : run.is_so.published.asked_for.number ≡ n
  asked_number = ap (λ (x : PublishedValue). x.number) asked

  top_is : run.is_so.published.top ≡ length p
  top_is = goes_on_number p (run.middle (top_name_of dir)) run.is_so.published.top run.is_so.published.time
      mid.folder.sequences mid.folder.top run.is_so.published.asked.goes_on

  calls_are : HasCalls (numbered_calls n (length p)) left
  calls_are =
      run.is_so.calls n (length p) run.is_so.published.time (subst (SpellsSequence run.is_so.sequence) asked_number run.is_so.published.asked.number_is)
      (subst (λ i. GoesOnFrom (run.middle (top_name_of dir)) i run.is_so.published.time) top_is run.is_so.published.asked.goes_on)

  next_agrees : n ≡ length p + 1 → IsAdded p dir changes run.now run.middle g report
      → Agrees (p ++ value_of n batch time ∷ []) lost m given dir save changes extract start g k (c + 1)
  next_agrees next add =
      subst (λ (h : Files). Agrees (p ++ value_of n batch time ∷ []) lost m given dir save changes extract start g h (c + 1)) (sym gone.same) agrees
    where
      long : length (p ++ add.added ∷ []) ≡ length p + 1
      long = grind (arith, length-append)

      fits : n ≤ max_sequence
      fits = let all = few (p ++ add.added ∷ []) add.folder.sequences in omega (arith, all, long, next)

      number : add.added.number ≡ n
      number =
          let is = add.folder.sequences (length p + 1) (omega arith) (omega (arith, long)) in
          let last = ap (λ (x : PublishedValue). x.number) (sequence_last p add.added (length p + 1) refl) in
          let at = is.number_is in
          omega (arith, last, at, next)

      same : add.added ≡ value_of n batch time
      same = same_sequence add.added.number n add.added.changes batch add.added.time time number
          (one_put changes batch add.added.changes f run.middle run.there add.changes_are)
          (one_shown run.now add.added.time time add.time_is.shows run.shows)

      written : PutsSequence run.middle g dir run.is_so.published.top run.is_so.published.time
          run.is_so.published.asked_for → Writes (writes_of dir (written_of (value_of n batch time))) run.middle g
      written (inl w) = subst (λ x. Writes (writes_of dir (written_of x)) run.middle g) asked w.2
      written (inr w) = absurd (let below = w.0 in omega (arith, below, asked_number, top_is, next))

      agrees : Agrees (p ++ value_of n batch time ∷ []) lost m given dir save changes extract start g l (c + 1)
      agrees = agrees_more p lost m given dir save changes extract start run.middle g l c (value_of n batch time) next fits
          (subst (λ x. IsFolderOf (p ++ x ∷ []) g dir) same add.folder) (written run.is_so.published.put)
          run.others apart.save_is (journal_outside dir save) apart.extract_is mid

      gone : AreGone o5c opl l k
      gone = none_back p lost m given dir save changes extract start run.middle g l k c (named n) o5c opl mid (named_least n) (named_most n)
          (λ t within. (let at = named_is n (omega (arith, next)) fits in absurd (omega (arith, within, at, next)))) back

  published_in : n ≤ length p → PutsSequence run.middle g dir run.is_so.published.top run.is_so.published.time
      run.is_so.published.asked_for → IsPublishedIn run.middle dir run.is_so.published.top run.is_so.published.time
      run.is_so.published.asked_for
  published_in within (inl (inl next, small, w)) = absurd (let e = next.0 in omega (arith, e, within, asked_number, top_is))
  published_in within (inl (inr is, small, w)) = is.1
  published_in within (inr is) = is.1

  found : 0 < n → n ≤ length p → number_lost lost n ≡ false
  found above within =
      sym (lost_same p lost m given dir save changes extract start run.middle l c n mid above within)
      ∙ subst (λ i. is_lost run.middle dir i ≡ false) asked_number (published_in within run.is_so.published.put).files_are.found

  again_is : IsRepeated p dir changes run.now n run.middle g → IsAgain p lost n batch time
  again_is old = (
    old.above,
    old.within,
    same_sequence (sequence_at p n).number n (sequence_at p n).changes batch (sequence_at p n).time time (mid.folder.sequences n old.above old.within).number_is
        (one_put changes batch (sequence_at p n).changes f run.middle run.there old.changes_are)
        (one_shown run.now (sequence_at p n).time time old.time_is.shows run.shows),
    found old.above old.within,
  )

  newest_agrees : n ≡ length p → IsRepeated p dir changes run.now n run.middle g
      → Agrees p (λ i t. if wrote n (length p) i then false else lost i t) m given dir save changes extract start g k c
  newest_agrees newest old =
      rewritten p lost (λ i t. if wrote n (length p) i then false else lost i t) m given dir save changes extract start run.middle g l
      k c n 4 mid old.above newest (old.written newest) old.folder
      (run.others save apart.save_is, run.others (journal_name_of save) (journal_outside dir save))
      (run.others extract apart.extract_is) (λ name o. run.others name o.folder)
      (λ i t differ. rw (wrote_other n (length p) i differ) refl)
      (λ t. rw (wrote_it n (length p) newest) (there t))
      (λ t. rw (wrote_it n (length p) newest) (away t))
      both.others
    where
      at : (sequence_at p n).number ≡ n
      at = (mid.folder.sequences n old.above old.within).number_is

      there : (t : Suffix) → g (file_name_of dir n t) ≡ Some (text_of t (sequence_at p n))
      there t = elim (written_so_far dir (written_of (sequence_at p n)) (omega (arith, at, most, newest)) 4 t run.middle g (old.written newest)) [
        | inl e ↦ subst (λ i. g (file_name_of dir i t) ≡ Some (text_of t (sequence_at p n))) at (e.1 ∙ ap Some (text_same t (sequence_at p n)))
        | inr e ↦ (let low = place_low t in let high = e.0 in absurd (omega (arith, low, high)))
      ]

      both : AreBack o5c opl dir n g l k
      both = are_back o5c opl dir n g l k (omega (arith, newest, most)) (subst (λ i. ReturnForms o5c opl dir i g l k)
          (named_is n old.above (omega (arith, newest, most))) back)

      away : (t : Suffix) → k (file_name_of dir n t) ≡ None
      away O5c = both.first_left ∙ gone_now o5c (g (file_name_of dir n O5c)) (l (file_name_of dir n O5c)) (text_of O5c (sequence_at p n)) (there O5c) both.first
      away Opl = both.second_left ∙ gone_now opl (g (file_name_of dir n Opl)) (l (file_name_of dir n Opl))
          (text_of Opl (sequence_at p n)) (there Opl) both.second
      away State = both.state_left ∙ (mid.away n State old.above (omega (arith, newest, most))
          ∙ ap (λ b. unless_lost (not b) (text_of State (sequence_at p n)))
          (or_false (lost n State) (lost n O5c && lost n Opl) (found old.above old.within)).0)

  older_agrees : (n ≡ length p → ⊥) → IsRepeated p dir changes run.now n run.middle g
      → Agrees p (λ i t. if wrote n (length p) i then false else lost i t) m given dir save changes extract start g k c
  older_agrees differ old =
      lost_alike p lost (λ i t. if wrote n (length p) i then false else lost i t) m given dir save changes extract start g k c
      (λ i t. rw (wrote_not n (length p) i differ) refl)
      (subst (λ (h : Files). Agrees p lost m given dir save changes extract start g h c) (sym gone.same)
      (subst (λ (h : Files). Agrees p lost m given dir save changes extract start h l c) (sym same) mid))
    where
      below : n < length p
      below = elim (cases_lt n (length p)) [
        | inl h ↦ h
        | inr h ↦ (let within = old.within in absurd (differ (omega (arith, h, within))))
      ]

      same : g ≡ run.middle
      same = old.same below

      gone : AreGone o5c opl l k
      gone = none_back p lost m given dir save changes extract start run.middle g l k c (named n) o5c opl mid (named_least n) (named_most n)
          (λ t within. ap (λ (h : Files). h (file_name_of dir (named n) t)) same) back

  old_agrees : IsRepeated p dir changes run.now n run.middle g
      → Agrees p (λ i t. if wrote n (length p) i then false else lost i t) m given dir save changes extract start g k c
  old_agrees old = elim (cases_Bool (n == length p)) [
    | inl e ↦ newest_agrees (eqb-true n (length p) e) old
    | inr e ↦ older_agrees (λ h. (let bad : true ≡ false = sym (eq-eqb n (length p) h) ∙ e in cc)) old
  ]

  number_is : run.is_so.sequence ≡ run.is_so.sequence → (run.is_so.added p mid.folder).number ≡ n
  number_is e = run.is_so.number_is.only (run.is_so.added p mid.folder).number (run.is_so.added p mid.folder).number_is

  pub number_published :
      (((n ≡ length p + 1) × Agrees (p ++ value_of n batch time ∷ []) lost m given dir save changes extract start g k (c + 1))
      ⊎ (IsAgain p lost n batch time × Agrees p (λ i t. if wrote n (length p) i then false else lost i t) m given dir save
      changes extract start g k c)) × (report ≡ publish_report_of n) × HasCalls (numbered_calls n (length p)) left
  number_published = (
    elim (run.is_so.added p mid.folder).done [
      | inl next ↦ (let at = sym (number_is refl) ∙ next.0 in inl (at, next_agrees at next.1))
      | inr old ↦ (let repeated = subst (λ i. IsRepeated p dir changes run.now i run.middle g) (number_is refl) old in
          inr (again_is repeated, old_agrees repeated))
    ],
    (run.is_so.added p mid.folder).report_is ∙ ap publish_report_of (number_is refl),
    calls_are,
  )
