-- A publication by number that stopped.
use Rattle.std.proofs.Common.{◌≡◌, ℕ, ◌<◌, ◌≤◌, List, length, take, Bool, true, false}
use Rattle.std.proofs.Common.{Option, Some, None, inl, inr, arith, refl, sym, ap, subst, ◌∙◌}
use Rattle.std.specs.Prelude.{◌⊎◌, ◌&&◌, not, is_none, if◌then◌else◌}
use Rattle.std.proofs.lemmas.Bool.{eq-eqb, ne_eqb}
use Rattle.std.proofs.lemmas.Str.Parse.{digits_value_short, numerals_by_value, tells_digits}
use Rattle.std.specs.Str.Parse.{AllDigits}
use Rattle.osm_model.specs.Change.{ChangeValue}
use Rattle.osm_model.specs.Filter.{FilterValue}
use Rattle.osm_model.specs.Limits.{max_sequence}
use Rattle.osm_opl.specs.Written.{opl_text}
use Rattle.osm_reading.specs.Sequence.{SpellsSequence}
use Rattle.osm_state.specs.declared.paths.Suffix.{Suffix}
use Rattle.osm_state.specs.declared.paths.Suffix.TheVariants.{O5c, Opl, State}
use Rattle.osm_publisher.specs.Published.{PublishedValue, sequence_at, written_of}
use Rattle.osm_kept.specs.Names.{journal_name_of}
use Rattle.osm_store.specs.Files.{Files}
use Rattle.osm_runs.specs.Following.{is_lost}
use Rattle.osm_runs.specs.Names.{file_name_of, top_name_of}
use Rattle.osm_publishing.specs.Numbered.{IsNumberedCutOff, IsPublishedIn}
use Rattle.osm_publishing.specs.Publication.{CutsOff, Writes, writes_of}
use Rattle.osm_runs.specs.declared.fault.RunFault.{RunFault}
use Rattle.osm_publishing.proofs.FolderLemmas.{goes_on_number}
use Rattle.osm_publishing.proofs.NumberedLemmas as folder_numbers
use Rattle.osm_operations.specs.Allowed.{place_of}
use Rattle.osm_operations.specs.Correct.{AreApart}
use Rattle.osm_operations.specs.History.{Standing, same_file, same_suffix, text_of, unless_lost}
use Rattle.osm_operations.specs.Stepping.{IsPublishRun, ReturnForms, StopsPublishingAs, form_back, named}
use Rattle.osm_operations.proofs.AgreeLemmas.{Agrees, changes_put, few, untouched, writes_before}
use Rattle.osm_operations.proofs.FollowLemmas.{lost_same, number_lost}
use Rattle.osm_operations.proofs.NumberLemmas.{AreBack, AreGone, WasBack, are_back, named_is, named_least, named_most}
use Rattle.osm_operations.proofs.NumberLemmas.{none_back, rewritten, text_same, unless_back, written_so_far}
use Rattle.osm_operations.proofs.NumberedLemmas.{IsAgain, asked_is, or_false, value_of}
use Rattle.osm_operations.proofs.NameLemmas.{journal_outside}

-- the files are as before, or the lost one in a form of the newest sequence's changes is there again
abbrev pub StayOrReturn : List PublishedValue → (ℕ → Suffix → Bool) → Standing → FilterValue → List ℕ → List ℕ → List ℕ → List ℕ
    → Files → Files → Files → ℕ → List ChangeValue → ℕ → ℕ → RunFault → Option Suffix → Type 0
StayOrReturn p lost m given dir save changes extract start g k c batch time n fault None = Agrees p lost m given dir save changes extract start g k c
StayOrReturn p lost m given dir save changes extract start g k c batch time n fault (Some s) =
    Agrees p (λ i t. if same_file n s i t then false else lost i t) m given dir save changes extract start g k c
    × (n ≡ length p) × IsAgain p lost n batch time × (lost n s ≡ true)
    × ((count : ℕ) × (place_of s < count) × (count < 4) × CutsOff n count fault)

-- a number of at most 9 digits
number_fits : (number : ℕ) (text : List ℕ) → SpellsSequence text number → number ≤ max_sequence
number_fits number text is =
    let short = digits_value_short (numerals_by_value (AllDigits 10) tells_digits) text 9 is.numeral.1 is.short in
    let value = is.value in omega (arith, short, value)

same_file_self : (n : ℕ) (s : Suffix) → same_suffix s s ≡ true → same_file n s n s ≡ true
same_file_self n s e = rw (eq-eqb n n refl, e) refl

other_number : (n : ℕ) (s : Suffix) (i : ℕ) (t : Suffix) → (i ≡ n → ⊥) → same_file n s i t ≡ false
other_number n s i t differ = rw (ne_eqb n i (λ e. differ (sym e))) refl

other_form : (n : ℕ) (s t : Suffix) → same_suffix s t ≡ false → same_file n s n t ≡ false
other_form n s t e = rw (eq-eqb n n refl, e) refl

-- a file of the newest sequence that isn't lost holds its text after some of the writes
kept_text : (b : Bool) (text : List ℕ) (here before : Option (List ℕ)) → b ≡ false → before ≡ unless_lost b text
    → ((here ≡ Some text) ⊎ (here ≡ before)) → here ≡ Some text
kept_text b text here before e is (inl h) = h
kept_text b text here before e is (inr h) = h ∙ (is ∙ ap (λ a. unless_lost a text) e)

-- a lost file that isn't back isn't there
still_lost : (b : Bool) (text : List ℕ) (here before told : Option (List ℕ)) → before ≡ unless_lost b text
    → told ≡ unless_lost (not b) text → ((here ≡ Some text) ⊎ (here ≡ before)) → WasBack false here told
    → here ≡ unless_lost b text
still_lost false text here before told is away (inl h) was = h
still_lost false text here before told is away (inr h) was = h ∙ is
still_lost true text here before told is away h (inl e) = e
still_lost true text here before told is away h (inr e) = absurd (let bad : Some text ≡ None = sym away ∙ e in cc)

-- a file that is back was lost, and is written
was_lost : (b : Bool) (text : List ℕ) (told : Option (List ℕ)) → told ≡ unless_lost (not b) text → is_none told ≡ false → b ≡ true
was_lost true text told away e = refl
was_lost false text told away e = absurd (let bad : true ≡ false = sym (ap is_none away) ∙ e in cc)

is_written : (text : List ℕ) (here before : Option (List ℕ)) (low high : Type 0) → before ≡ None → is_none here ≡ false
    → ((low × (here ≡ Some text)) ⊎ (high × (here ≡ before))) → low × (here ≡ Some text)
is_written text here before low high none there (inl h) = h
is_written text here before low high none there (inr h) = absurd (let bad : true ≡ false = sym (ap is_none (h.1 ∙ none)) ∙ there in cc)

no_more : (b r : Bool) (text : List ℕ) (here told : Option (List ℕ)) → b ≡ false → told ≡ unless_lost (not b) text → WasBack r here told → r ≡ false
no_more b false text here told e away was = refl
no_more b true text here told e away was = absurd (let bad : true ≡ false = sym (was_lost b text told away was.1) ∙ e in cc)

and_true : (a b : Bool) → (a && b) ≡ false → a ≡ true → b ≡ false
and_true true b e h = e
and_true false b e h = absurd (let bad : false ≡ true = h in cc)

and_true_right : (a b : Bool) → (a && b) ≡ false → b ≡ true → a ≡ false
and_true_right false b e h = refl
and_true_right true b e h = absurd (let bad : true ≡ false = sym h ∙ e in cc)

to_sum : (low high a b : Type 0) → ((low × a) ⊎ (high × b)) → a ⊎ b
to_sum low high a b (inl h) = inl h.1
to_sum low high a b (inr h) = inr h.1

module _ (left : Option ℕ) (p : List PublishedValue) (lost : ℕ → Suffix → Bool) (m : Standing) (given : FilterValue) (dir save changes extract : List ℕ)
    (start f g l k : Files) (c : ℕ) (batch : List ChangeValue) (time n : ℕ) (fault : RunFault) (o5c opl : Bool)
    (apart : AreApart dir save changes extract) (s : Agrees p lost m given dir save changes extract start f l c)
    (run : IsPublishRun dir changes batch time f g (StopsPublishingAs left dir changes n fault g))
    (back : ReturnForms o5c opl dir (named n) g l k) where
  pub middle_agrees : Agrees p lost m given dir save changes extract start run.middle l c
  middle_agrees = changes_put p lost m given dir save changes extract start f run.middle l c (Some (opl_text batch)) apart run.there.put s

  most : length p ≤ max_sequence
  most = few p s.folder.sequences

  -- nothing of the folder's own sequences is written
  stays : ((t : Suffix) (i : ℕ) → i ≤ length p → g (file_name_of dir i t) ≡ run.middle (file_name_of dir i t))
      → StayOrReturn p lost m given dir save changes extract start g k c batch time n fault (form_back o5c opl)
  stays same =
      subst (λ b. StayOrReturn p lost m given dir save changes extract start g k c batch time n fault (form_back b opl)) (sym gone.first)
      (subst (λ b. StayOrReturn p lost m given dir save changes extract start g k c batch time n fault (form_back false b)) (sym gone.second)
      (subst (λ (h : Files). Agrees p lost m given dir save changes extract start g h c) (sym gone.same)
      (untouched p lost m given dir save changes extract start run.middle g l c (run.is_so.keeps p middle_agrees.folder) (λ i t within. same t i within)
      (run.others save apart.save_is, run.others (journal_name_of save) (journal_outside dir save))
      (run.others extract apart.extract_is) (λ name o. run.others name o.folder) middle_agrees)))
    where
      gone : AreGone o5c opl l k
      gone = none_back p lost m given dir save changes extract start run.middle g l k c (named n) o5c opl middle_agrees (named_least n) (named_most n)
          (λ t within. same t (named n) within) back

  -- the newest sequence was written again in part
  again : IsNumberedCutOff dir changes run.now run.is_so.sequence run.middle g fault
      → StayOrReturn p lost m given dir save changes extract start g k c batch time n fault (form_back o5c opl)
  again cut = elim cut.to_write [
    | inl next ↦ stays (λ t i within. before t i (let e = next.0 in omega (arith, e, top_is, within)))
    | inr is ↦ rewrites is.0 is.1
  ]
    where
      asked : cut.asked_for ≡ value_of n batch time
      asked = asked_is dir changes run.now run.is_so.sequence batch time n f run.middle cut.top cut.time cut.asked_for
          run.is_so.number_is run.shows run.there cut.asked

      number : cut.asked_for.number ≡ n
      number = ap (λ (x : PublishedValue). x.number) asked

      top_is : cut.top ≡ length p
      top_is = goes_on_number p (run.middle (top_name_of dir)) cut.top cut.time middle_agrees.folder.sequences middle_agrees.folder.top cut.asked.goes_on

      fits : cut.asked_for.number ≤ max_sequence
      fits = number_fits cut.asked_for.number run.is_so.sequence cut.asked.number_is

      before : (t : Suffix) (i : ℕ) → i < cut.asked_for.number → g (file_name_of dir i t) ≡ run.middle (file_name_of dir i t)
      before t i below = writes_before dir (written_of cut.asked_for) i t cut.count run.middle g below fits cut.written

      rewrites : cut.asked_for.number ≡ cut.top → IsPublishedIn run.middle dir cut.top cut.time cut.asked_for
          → StayOrReturn p lost m given dir save changes extract start g k c batch time n fault (form_back o5c opl)
      rewrites same_number in_folder = by_back o5c opl refl refl
        where
          newest : n ≡ length p
          newest = sym number ∙ (same_number ∙ top_is)

          above : 0 < n
          above = subst (λ i. 0 < i) number in_folder.above

          own : cut.asked_for ≡ sequence_at p n
          own = subst (λ i. cut.asked_for ≡ sequence_at p i) number
              (folder_numbers.same_sequence p run.middle dir cut.top cut.time cut.asked_for middle_agrees.folder (omega (arith, same_number, top_is)) in_folder)

          found : number_lost lost n ≡ false
          found = sym (lost_same p lost m given dir save changes extract start run.middle l c n middle_agrees above (omega (arith, newest)))
              ∙ subst (λ i. is_lost run.middle dir i ≡ false) number in_folder.files_are.found

          both_found : (lost n State ≡ false) × ((lost n O5c && lost n Opl) ≡ false)
          both_found = or_false (lost n State) (lost n O5c && lost n Opl) found

          is_again : IsAgain p lost n batch time
          is_again = (above, omega (arith, newest), sym own ∙ asked, found)

          written : Writes (take cut.count (writes_of dir (written_of (sequence_at p n)))) run.middle g
          written = subst (λ x. Writes (take cut.count (writes_of dir (written_of x))) run.middle g) own cut.written

          at : (sequence_at p n).number ≡ n
          at = (middle_agrees.folder.sequences n above (omega (arith, newest))).number_is

          so_far : (t : Suffix)
              → ((place_of t < cut.count) × (g (file_name_of dir n t) ≡ Some (text_of t (sequence_at p n))))
              ⊎ ((cut.count ≤ place_of t) × (g (file_name_of dir n t) ≡ run.middle (file_name_of dir n t)))
          so_far t =
              subst (λ i. ((place_of t < cut.count) × (g (file_name_of dir i t) ≡ Some (text_of t (sequence_at p n))))
              ⊎ ((cut.count ≤ place_of t) × (g (file_name_of dir i t) ≡ run.middle (file_name_of dir i t)))) at
              (elim (written_so_far dir (written_of (sequence_at p n)) (omega (arith, at, newest, most)) cut.count t run.middle g written) [
                | inl e ↦ inl (e.0, e.1 ∙ ap Some (text_same t (sequence_at p n)))
                | inr e ↦ inr e
              ])

          some : (t : Suffix) → (g (file_name_of dir n t) ≡ Some (text_of t (sequence_at p n))) ⊎ (g (file_name_of dir n t) ≡ run.middle (file_name_of dir n t))
          some t = to_sum (place_of t < cut.count) (cut.count ≤ place_of t)
              (g (file_name_of dir n t) ≡ Some (text_of t (sequence_at p n)))
              (g (file_name_of dir n t) ≡ run.middle (file_name_of dir n t)) (so_far t)

          was : (t : Suffix) → run.middle (file_name_of dir n t) ≡ unless_lost (lost n t) (text_of t (sequence_at p n))
          was t = middle_agrees.each n t above (omega (arith, newest))

          kept : (t : Suffix) → l (file_name_of dir n t) ≡ unless_lost (not (lost n t)) (text_of t (sequence_at p n))
          kept t = middle_agrees.away n t above (omega (arith, newest, most))

          there : (t : Suffix) → lost n t ≡ false → g (file_name_of dir n t) ≡ Some (text_of t (sequence_at p n))
          there t e = kept_text (lost n t) (text_of t (sequence_at p n)) (g (file_name_of dir n t)) (run.middle (file_name_of dir n t)) e (was t) (some t)

          both : AreBack o5c opl dir n g l k
          both = are_back o5c opl dir n g l k (omega (arith, newest, most))
              (subst (λ i. ReturnForms o5c opl dir i g l k) (named_is n above (omega (arith, newest, most))) back)

          state_away : k (file_name_of dir n State) ≡ None
          state_away = both.state_left ∙ (kept State ∙ ap (λ b. unless_lost (not b) (text_of State (sequence_at p n))) both_found.0)

          by_all : (gone : ℕ → Suffix → Bool) → ((i : ℕ) (t : Suffix) → (i ≡ n → ⊥) → gone i t ≡ lost i t)
              → ((t : Suffix) → g (file_name_of dir n t) ≡ unless_lost (gone n t) (text_of t (sequence_at p n)))
              → ((t : Suffix) → k (file_name_of dir n t) ≡ unless_lost (not (gone n t)) (text_of t (sequence_at p n)))
              → Agrees p gone m given dir save changes extract start g k c
          by_all gone alike here away =
              rewritten p lost gone m given dir save changes extract start run.middle g l k c n cut.count middle_agrees above newest
              written (run.is_so.keeps p middle_agrees.folder)
              (run.others save apart.save_is, run.others (journal_name_of save) (journal_outside dir save))
              (run.others extract apart.extract_is) (λ name o. run.others name o.folder) alike here away both.others

          by_back : (a b : Bool) → o5c ≡ a → opl ≡ b → StayOrReturn p lost m given dir save changes extract start g k c batch time n fault (form_back o5c opl)
          by_back false false e d =
              subst (λ x. StayOrReturn p lost m given dir save changes extract start g k c batch time n fault (form_back x opl)) (sym e)
              (subst (λ x. StayOrReturn p lost m given dir save changes extract start g k c batch time n fault (form_back false x)) (sym d)
              (by_all lost (λ i t differ. refl) here away))
            where
              here : (t : Suffix) → g (file_name_of dir n t) ≡ unless_lost (lost n t) (text_of t (sequence_at p n))
              here O5c = still_lost (lost n O5c) (text_of O5c (sequence_at p n)) (g (file_name_of dir n O5c))
                  (run.middle (file_name_of dir n O5c)) (l (file_name_of dir n O5c)) (was O5c) (kept O5c) (some O5c)
                  (subst (λ x. WasBack x (g (file_name_of dir n O5c)) (l (file_name_of dir n O5c))) e both.first)
              here Opl = still_lost (lost n Opl) (text_of Opl (sequence_at p n)) (g (file_name_of dir n Opl))
                  (run.middle (file_name_of dir n Opl)) (l (file_name_of dir n Opl)) (was Opl) (kept Opl) (some Opl)
                  (subst (λ x. WasBack x (g (file_name_of dir n Opl)) (l (file_name_of dir n Opl))) d both.second)
              here State = there State both_found.0 ∙ ap (λ x. unless_lost x (text_of State (sequence_at p n))) (sym both_found.0)

              away : (t : Suffix) → k (file_name_of dir n t) ≡ unless_lost (not (lost n t)) (text_of t (sequence_at p n))
              away O5c = both.first_left ∙ (ap (λ x. unless_back x (l (file_name_of dir n O5c))) e ∙ kept O5c)
              away Opl = both.second_left ∙ (ap (λ x. unless_back x (l (file_name_of dir n Opl))) d ∙ kept Opl)
              away State = both.state_left ∙ kept State
          by_back true b e d =
              subst (λ x. StayOrReturn p lost m given dir save changes extract start g k c batch time n fault (form_back x opl)) (sym e) (
                by_all (λ i t. if same_file n O5c i t then false else lost i t) (λ i t differ. rw (other_number n O5c i t differ) refl) here away,
                newest,
                is_again,
                lost_it,
                (cut.count, write.0, cut.few, subst (λ i. CutsOff i cut.count fault) number cut.cut),
              )
            where
              was_back : WasBack true (g (file_name_of dir n O5c)) (l (file_name_of dir n O5c))
              was_back = subst (λ x. WasBack x (g (file_name_of dir n O5c)) (l (file_name_of dir n O5c))) e both.first

              lost_it : lost n O5c ≡ true
              lost_it = was_lost (lost n O5c) (text_of O5c (sequence_at p n)) (l (file_name_of dir n O5c)) (kept O5c) was_back.1

              write : (place_of O5c < cut.count) × (g (file_name_of dir n O5c) ≡ Some (text_of O5c (sequence_at p n)))
              write = is_written (text_of O5c (sequence_at p n)) (g (file_name_of dir n O5c))
                  (run.middle (file_name_of dir n O5c)) (place_of O5c < cut.count) (cut.count ≤ place_of O5c)
                  (was O5c ∙ ap (λ x. unless_lost x (text_of O5c (sequence_at p n))) lost_it) was_back.0 (so_far O5c)

              opl_there : lost n Opl ≡ false
              opl_there = and_true (lost n O5c) (lost n Opl) both_found.1 lost_it

              not_second : opl ≡ false
              not_second = no_more (lost n Opl) opl (text_of Opl (sequence_at p n)) (g (file_name_of dir n Opl))
                  (l (file_name_of dir n Opl)) opl_there (kept Opl) both.second

              here : (t : Suffix) → g (file_name_of dir n t) ≡ unless_lost (if same_file n O5c n t then false else lost n t) (text_of t (sequence_at p n))
              here O5c = rw (same_file_self n O5c refl) write.1
              here Opl = rw (other_form n O5c Opl refl, opl_there) (there Opl opl_there)
              here State = rw (other_form n O5c State refl, both_found.0) (there State both_found.0)

              away : (t : Suffix) → k (file_name_of dir n t) ≡ unless_lost (not (if same_file n O5c n t then false else lost n t)) (text_of t (sequence_at p n))
              away O5c = rw (same_file_self n O5c refl) (both.first_left ∙ ap (λ x. unless_back x (l (file_name_of dir n O5c))) e)
              away Opl = rw (other_form n O5c Opl refl) (both.second_left ∙ (ap (λ x. unless_back x (l (file_name_of dir n Opl))) not_second ∙ kept Opl))
              away State = rw (other_form n O5c State refl) (both.state_left ∙ kept State)
          by_back false true e d =
              subst (λ x. StayOrReturn p lost m given dir save changes extract start g k c batch time n fault (form_back x opl)) (sym e)
              (subst (λ x. StayOrReturn p lost m given dir save changes extract start g k c batch time n fault (form_back false x)) (sym d) (
                by_all (λ i t. if same_file n Opl i t then false else lost i t) (λ i t differ. rw (other_number n Opl i t differ) refl) here away,
                newest,
                is_again,
                lost_it,
                (cut.count, write.0, cut.few, subst (λ i. CutsOff i cut.count fault) number cut.cut),
              ))
            where
              was_back : WasBack true (g (file_name_of dir n Opl)) (l (file_name_of dir n Opl))
              was_back = subst (λ x. WasBack x (g (file_name_of dir n Opl)) (l (file_name_of dir n Opl))) d both.second

              lost_it : lost n Opl ≡ true
              lost_it = was_lost (lost n Opl) (text_of Opl (sequence_at p n)) (l (file_name_of dir n Opl)) (kept Opl) was_back.1

              write : (place_of Opl < cut.count) × (g (file_name_of dir n Opl) ≡ Some (text_of Opl (sequence_at p n)))
              write = is_written (text_of Opl (sequence_at p n)) (g (file_name_of dir n Opl))
                  (run.middle (file_name_of dir n Opl)) (place_of Opl < cut.count) (cut.count ≤ place_of Opl)
                  (was Opl ∙ ap (λ x. unless_lost x (text_of Opl (sequence_at p n))) lost_it) was_back.0 (so_far Opl)

              o5c_there : lost n O5c ≡ false
              o5c_there = and_true_right (lost n O5c) (lost n Opl) both_found.1 lost_it

              here : (t : Suffix) → g (file_name_of dir n t) ≡ unless_lost (if same_file n Opl n t then false else lost n t) (text_of t (sequence_at p n))
              here Opl = rw (same_file_self n Opl refl) write.1
              here O5c = rw (other_form n Opl O5c refl, o5c_there) (there O5c o5c_there)
              here State = rw (other_form n Opl State refl, both_found.0) (there State both_found.0)

              away : (t : Suffix) → k (file_name_of dir n t) ≡ unless_lost (not (if same_file n Opl n t then false else lost n t)) (text_of t (sequence_at p n))
              away Opl = rw (same_file_self n Opl refl) (both.second_left ∙ ap (λ x. unless_back x (l (file_name_of dir n Opl))) d)
              away O5c = rw (other_form n Opl O5c refl) (both.first_left ∙ (ap (λ x. unless_back x (l (file_name_of dir n O5c))) e ∙ kept O5c))
              away State = rw (other_form n Opl State refl) (both.state_left ∙ kept State)

  pub number_stopped : StayOrReturn p lost m given dir save changes extract start g k c batch time n fault (form_back o5c opl)
  number_stopped = elim run.is_so.stops [
    | inl a ↦ stays (λ t i within. ap (λ (h : Files). h (file_name_of dir i t)) a.1)
    | inr a ↦ again (a.1 refl)
  ]

-- nothing was run
pub unrun_stays : (p : List PublishedValue) (lost : ℕ → Suffix → Bool) (m : Standing) (given : FilterValue) (dir save changes extract : List ℕ)
    (start f g l k : Files) (c : ℕ) (batch : List ChangeValue) (time n : ℕ) (fault : RunFault) (o5c opl : Bool)
    → Agrees p lost m given dir save changes extract start f l c → g ≡ f → ReturnForms o5c opl dir (named n) g l k
    → StayOrReturn p lost m given dir save changes extract start g k c batch time n fault (form_back o5c opl)
unrun_stays p lost m given dir save changes extract start f g l k c batch time n fault o5c opl s same back =
    subst (λ b. StayOrReturn p lost m given dir save changes extract start g k c batch time n fault (form_back b opl)) (sym gone.first)
    (subst (λ b. StayOrReturn p lost m given dir save changes extract start g k c batch time n fault (form_back false b)) (sym gone.second)
    (subst (λ (h : Files). Agrees p lost m given dir save changes extract start g h c) (sym gone.same)
    (subst (λ (h : Files). Agrees p lost m given dir save changes extract start h l c) (sym same) s)))
  where
    gone : AreGone o5c opl l k
    gone = none_back p lost m given dir save changes extract start f g l k c (named n) o5c opl s (named_least n) (named_most n)
        (λ t within. ap (λ (h : Files). h (file_name_of dir (named n) t)) same) back
