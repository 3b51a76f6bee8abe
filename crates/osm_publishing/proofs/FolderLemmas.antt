-- What the writes of a publication do to a folder.
use Rattle.std.proofs.Common.{◌≡◌, ℕ, zero, suc, ◌+◌, ◌-◌, ◌<◌, ◌≤◌, List, [], ◌∷◌, ◌++◌, length, take, Option, Some}
use Rattle.std.proofs.Common.{None, inl, inr, arith, refl, sym, ap, subst, ◌∙◌, length-append}
use Rattle.std.specs.List.{AllByRecursion}
use Rattle.std.proofs.lemmas.List.{get_or_append_left}
use Rattle.std.proofs.Math.Seq.{get_or-append_seam}
use Rattle.std.proofs.lemmas.Bool.{cases_lt}
use Rattle.osm_model.specs.Limits.{max_sequence}
use Rattle.osm_publisher.specs.Published.{AreSequences, IsSequence, PublishedTexts, PublishedValue, sequence_at, unpublished, written_of}
use Rattle.osm_publisher.specs.Publisher.{IsSmall, PublisherValue, closing}
use Rattle.osm_o5c.proofs.WrittenFile as o5c_file
use Rattle.osm_opl.proofs.RoundTrip as opl_file
use Rattle.osm_state.proofs.StateLemmas.{one_state}
use Rattle.osm_state.proofs.WrittenLemmas.{written_is_read}
use Rattle.osm_state.specs.State.{StateValue, IsState}
use Rattle.osm_state.specs.StateText.{state_text}
use Rattle.osm_state.specs.declared.paths.Suffix.{Suffix}
use Rattle.osm_state.specs.declared.paths.Suffix.TheVariants.{O5c, Opl, State}
use Rattle.osm_store.specs.Files.{Files, Puts}
use Rattle.osm_runs.specs.Folder.{IsAbsentOr, IsApart, IsFile, IsFolderOf, IsStateFile, IsTop, NeverFall}
use Rattle.osm_runs.specs.Names.{file_name_of, top_name_of}
use Rattle.osm_publishing.specs.Publication.{GoesOnFrom, IsReady, Writes, writes_of}
use Rattle.osm_runs.proofs.NameLemmas.{one_file, top_is_no_file}
use Rattle.osm_publishing.proofs.StateLemmas.{state_short}

-- a publisher goes on from the folder's last sequence
pub goes_on_number : (p : List PublishedValue) (told : Option (List ℕ)) (number time : ℕ) → AreSequences p
    → IsTop p told → GoesOnFrom told number time → number ≡ length p
goes_on_number p None number time s (inl a) g = g.0 ∙ sym a.0
goes_on_number p None number time s (inr a) g = absurd a.1
goes_on_number p (Some b) number time s (inl a) g = absurd (let e : Some b ≡ None = a.1 in cc)
goes_on_number p (Some b) number time s (inr a) g =
    let last = s (length p) a.0 (omega arith) in
    ap (λ (t : StateValue). t.sequence) (one_state b (record { sequence = number; time = time }) _ g.names a.1.names) ∙ last.number_is

-- at that one's time
pub last_time : (p : List PublishedValue) (told : Option (List ℕ)) (number time : ℕ) → 0 < length p → IsTop p told
    → GoesOnFrom told number time → time ≡ (sequence_at p (length p)).time
last_time p None number time some (inl a) g = absurd (let none = a.0 in omega arith)
last_time p None number time some (inr a) g = absurd a.1
last_time p (Some bytes) number time some (inl a) g = absurd (let none = a.0 in omega arith)
last_time p (Some bytes) number time some (inr a) g =
    ap (λ (s : StateValue). s.time) (one_state bytes (record { sequence = number; time = time }) _ g.names a.1.names)

-- a file of a later number
later_keeps : (p : List PublishedValue) (dir : List ℕ) (k : ℕ) (s : Suffix) (w : Option (List ℕ)) (f g : Files)
    → length p < k → k ≤ max_sequence → Puts f (file_name_of dir k s) w g → IsFolderOf p f dir → IsFolderOf p g dir
later_keeps p dir k s w f g later fits put is = record {
  sequences = is.sequences;
  rising = is.rising;
  top = subst (IsTop p) (sym (put.others (top_name_of dir) (top_is_no_file dir k s))) is.top;
  each = λ j t above within. subst (λ o. IsAbsentOr o (IsFile t (sequence_at p j)))
      (sym (put.others (file_name_of dir j t) (λ e. (let one = one_file dir j k t s (omega arith) fits e in let same = one.0 in omega arith))))
      (is.each j t above within);
}

-- some of the writes, never the last of them
pub some_keep : (p : List PublishedValue) (dir : List ℕ) (x : PublishedTexts) (count : ℕ) (f g : Files) → count < 4
    → length p < x.number → x.number ≤ max_sequence → Writes (take count (writes_of dir x)) f g → IsFolderOf p f dir
    → IsFolderOf p g dir
some_keep p dir x zero f g few later fits w is = subst (λ (h : Files). IsFolderOf p h dir) (sym w) is
some_keep p dir x (suc zero) f g few later fits w is =
    subst (λ (h : Files). IsFolderOf p h dir) (sym w.2) (later_keeps p dir x.number O5c (Some x.o5c) f w.0 later fits w.1 is)
some_keep p dir x (suc (suc zero)) f g few later fits w is =
    let first = later_keeps p dir x.number O5c (Some x.o5c) f w.0 later fits w.1 is in
    let second = later_keeps p dir x.number Opl (Some x.opl) w.0 w.2.0 later fits w.2.1 first in
    subst (λ (h : Files). IsFolderOf p h dir) (sym w.2.2) second
some_keep p dir x (suc (suc (suc zero))) f g few later fits w is =
    let first = later_keeps p dir x.number O5c (Some x.o5c) f w.0 later fits w.1 is in
    let second = later_keeps p dir x.number Opl (Some x.opl) w.0 w.2.0 later fits w.2.1 first in
    let third = later_keeps p dir x.number State (Some x.state) w.2.0 w.2.2.0 later fits w.2.2.1 second in
    subst (λ (h : Files). IsFolderOf p h dir) (sym w.2.2.2) third
some_keep p dir x (suc (suc (suc (suc n)))) f g few later fits w is = absurd (omega arith)

sequence_before : (p : List PublishedValue) (x : PublishedValue) (k : ℕ) → 0 < k → k ≤ length p → sequence_at (p ++ x ∷ []) k ≡ sequence_at p k
sequence_before p x k above within = get_or_append_left p (x ∷ []) unpublished (k - 1) (omega arith)

pub sequence_last : (p : List PublishedValue) (x : PublishedValue) (k : ℕ) → k ≡ length p + 1 → sequence_at (p ++ x ∷ []) k ≡ x
sequence_last p x k e = let at : k - 1 ≡ length p = omega arith in rw at (get_or-append_seam p x [] unpublished)

-- a sequence that isn't before the last one
rising_more : (p : List PublishedValue) (x : PublishedValue) → NeverFall p → (0 < length p → (sequence_at p (length p)).time ≤ x.time)
    → NeverFall (p ++ x ∷ [])
rising_more p x rising last k above below =
    let all = length-append p (x ∷ []) in
    elim (cases_lt k (length p)) [
      | inl within ↦ rw (sequence_before p x k above (omega arith), sequence_before p x (k + 1) (omega arith) (omega arith)) (rising k above within)
      | inr past ↦ (let same : k ≡ length p = omega (arith, all) in
          rw (sequence_before p x k above (omega arith), sequence_last p x (k + 1) (omega arith))
          (subst (λ n. (sequence_at p n).time ≤ x.time) (sym same) (last (omega arith))))
    ]

-- a sequence as it is written
pub record IsWritten (x : PublishedValue) : Type 0 where
  pub sequence : IsSequence x.number x
  pub small : IsSmall x.changes

pub written_state : (x : PublishedValue) → IsWritten x → IsStateFile x.number x.time (state_text (record { sequence = x.number; time = x.time }))
written_state x is =
    let limits : IsState (record { sequence = x.number; time = x.time }) = record { sequence = is.sequence.most; time = is.sequence.time } in
    record {
      small = state_short (record { sequence = x.number; time = x.time }) limits;
      names =
          written_is_read (record { sequence = x.number; time = x.time }) limits;
    }

-- all of the writes
pub all_add : (p : List PublishedValue) (dir : List ℕ) (x : PublishedValue) (f g : Files) → x.number ≡ length p + 1
    → IsWritten x → (0 < length p → (sequence_at p (length p)).time ≤ x.time) → Writes (writes_of dir (written_of x)) f g → IsFolderOf p f dir
    → IsFolderOf (p ++ x ∷ []) g dir
all_add p dir x f g next is onward w folder =
    record {
      sequences = λ k above within. (let m = more in let h = cases_lt (length p) k in elim h [
        | inl past ↦ (let same : k ≡ length p + 1 = omega arith in rw (sequence_last p x k same) (subst (λ n. IsSequence n x) (next ∙ sym same) is.sequence))
        | inr until ↦ rw (sequence_before p x k above until) (folder.sequences k above until)
      ]);
      rising = rising_more p x folder.rising onward;
      top = inr (omega (arith, more), rw (g_top, sequence_last p x (length (p ++ x ∷ [])) more) (written_state x is));
      each = λ k s above within. (let m = more in let h = cases_lt (length p) k in elim h [
        | inl past ↦ (let same : k ≡ length p + 1 = omega arith in rw (sequence_last p x k same, same ∙ sym next) (of_last s))
        | inr until ↦ rw (sequence_before p x k above until) (subst (λ o. IsAbsentOr o (IsFile s (sequence_at p k)))
            (sym (in_g k s)) (before.each k s above until))
      ]);
    }
  where
    fits : x.number ≤ max_sequence
    fits = is.sequence.most

    more : length (p ++ x ∷ []) ≡ length p + 1
    more = grind (arith, length-append)

    before : IsFolderOf p w.2.2.0 dir
    before = some_keep p dir (written_of x) 3 f w.2.2.0 (omega arith) (omega arith) fits (w.0, w.1, (w.2.0, w.2.1, (w.2.2.0, w.2.2.1, refl))) folder

    in_g : (k : ℕ) (s : Suffix) → g (file_name_of dir k s) ≡ w.2.2.0 (file_name_of dir k s)
    in_g k s = ap (λ (h : Files). h (file_name_of dir k s)) w.2.2.2.2 ∙ w.2.2.2.1.others (file_name_of dir k s) (λ e. top_is_no_file dir k s (sym e))

    g_top : g (top_name_of dir) ≡ Some (state_text (record { sequence = x.number; time = x.time }))
    g_top = ap (λ (h : Files). h (top_name_of dir)) w.2.2.2.2 ∙ w.2.2.2.1.there

    of_last : (s : Suffix) → IsAbsentOr (g (file_name_of dir x.number s)) (IsFile s x)
    of_last State = rw (in_g x.number State, w.2.2.1.there) (written_state x is)
    of_last Opl =
        let apart : file_name_of dir x.number Opl ≡ file_name_of dir x.number State → ⊥ =
        λ e. (let one = one_file dir x.number x.number Opl State fits fits e in let same = one.1 in cc) in
        rw (in_g x.number Opl, w.2.2.1.others (file_name_of dir x.number Opl) apart, w.2.1.there)
        (is.small.opl, opl_file.text_spells x.changes is.sequence.changes)
    of_last O5c =
        let apart : file_name_of dir x.number O5c ≡ file_name_of dir x.number State → ⊥ =
        λ e. (let one = one_file dir x.number x.number O5c State fits fits e in let same = one.1 in cc) in
        let apart_opl : file_name_of dir x.number O5c ≡ file_name_of dir x.number Opl → ⊥ =
        λ e. (let one = one_file dir x.number x.number O5c Opl fits fits e in let same = one.1 in cc) in
        rw (
          in_g x.number O5c,
          w.2.2.1.others (file_name_of dir x.number O5c) apart,
          w.2.1.others (file_name_of dir x.number O5c) apart_opl,
          w.1.there,
        )
        (is.small.o5c, o5c_file.text_spells x.changes is.sequence.changes)

-- writes that leave a name alone
others : (name : List ℕ) (ws : List (List ℕ × List ℕ)) (f g : Files)
    → AllByRecursion (λ (w : List ℕ × List ℕ). name ≡ w.0 → ⊥) ws → Writes ws f g → g name ≡ f name
others name [] f g apart w = ap (λ (h : Files). h name) w
others name (v ∷ ws) f g apart w = others name ws w.0 g apart.1 w.2 ∙ w.1.others name apart.0

pub take_apart : (name : List ℕ) (count : ℕ) (ws : List (List ℕ × List ℕ))
    → AllByRecursion (λ (w : List ℕ × List ℕ). name ≡ w.0 → ⊥) ws → AllByRecursion (λ (w : List ℕ × List ℕ). name ≡ w.0
    → ⊥) (take count ws)
take_apart name zero ws apart = tt
take_apart name (suc n) [] apart = tt
take_apart name (suc n) (v ∷ ws) apart = (apart.0, take_apart name n ws apart.1)

pub writes_others : (dir name : List ℕ) (x : PublishedTexts) (count : ℕ) (f g : Files) → x.number ≤ max_sequence
    → IsApart dir name → Writes (take count (writes_of dir x)) f g → g name ≡ f name
writes_others dir name x count f g fits apart w =
    others name (take count (writes_of dir x)) f g
    (take_apart name count (writes_of dir x)
    (apart.each x.number O5c fits, (apart.each x.number Opl fits, (apart.each x.number State fits, (apart.top, tt))))) w

-- what a ready publisher writes
pub ready_written : (dir changes now : List ℕ) (files : Files) (a : PublisherValue) (time : ℕ)
    → IsReady dir changes now files a time → IsWritten (closing a time)
ready_written dir changes now files a time r =
    let can = r.can_close in
    let room = can.room in
    record {
      sequence = record { number_is = refl; most = omega arith; changes = r.read.spelled.limits; time = r.read.now_is.limits };
      small = r.fits;
    }
