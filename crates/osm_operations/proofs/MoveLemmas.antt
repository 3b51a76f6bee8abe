-- A file of a published sequence that is lost or put back.
use Rattle.std.proofs.Common.{◌≡◌, ℕ, ◌<◌, ◌≤◌, List, length, Bool, true, false, Option, Some, None, inl, inr, arith, refl, sym, subst, ◌∙◌}
use Rattle.std.specs.Prelude.{not, ◌&&◌, ◌==◌, if◌then◌else◌}
use Rattle.std.proofs.lemmas.Bool.{cases_Bool, eqb-true, eq-eqb}
use Rattle.std.proofs.lemmas.Option.{same_Some}
use Rattle.osm_model.specs.Filter.{FilterValue}
use Rattle.osm_model.specs.Limits.{max_sequence}
use Rattle.osm_state.specs.declared.paths.Suffix.{Suffix}
use Rattle.osm_state.specs.declared.paths.Suffix.TheVariants.{O5c, Opl, State}
use Rattle.osm_publisher.specs.Published.{PublishedValue, sequence_at}
use Rattle.osm_kept.specs.Names.{journal_name_of}
use Rattle.osm_store.specs.Files.{Files, Puts}
use Rattle.osm_runs.specs.Folder.{IsAbsentOr, IsFile, IsTop}
use Rattle.osm_runs.specs.Names.{file_name_of, top_name_of}
use Rattle.osm_runs.proofs.NameLemmas.{one_file, top_is_no_file}
use Rattle.osm_operations.specs.Correct.{AreApart}
use Rattle.osm_operations.specs.History.{Standing, same_file, same_suffix, text_of, unless_lost}
use Rattle.osm_operations.specs.Stepping.{Moves}
use Rattle.osm_operations.proofs.AgreeLemmas.{Agrees, few, kept_same}
use Rattle.osm_operations.proofs.NameLemmas.{journal_outside}

suffix_one : (s t : Suffix) → same_suffix s t ≡ true → s ≡ t
suffix_one O5c O5c e = refl
suffix_one Opl Opl e = refl
suffix_one State State e = refl
suffix_one s t e = absurd (let h : false ≡ true = e in cc)

suffix_same : (s : Suffix) → same_suffix s s ≡ true
suffix_same O5c = refl
suffix_same Opl = refl
suffix_same State = refl

both : (a b : Bool) → (a && b) ≡ true → (a ≡ true) × (b ≡ true)
both true b e = (refl, e)
both false b e = absurd (let h : false ≡ true = e in cc)

file_one : (j : ℕ) (s : Suffix) (k : ℕ) (t : Suffix) → same_file j s k t ≡ true → (j ≡ k) × (s ≡ t)
file_one j s k t e = let h = both (j == k) (same_suffix s t) e in (eqb-true j k h.0, suffix_one s t h.1)

file_same : (j : ℕ) (s : Suffix) (k : ℕ) (t : Suffix) → j ≡ k → s ≡ t → same_file j s k t ≡ true
file_same j s k t e d = rw (← e, ← d, eq-eqb j j refl) (suffix_same s)

-- what a put leaves under the names of other files
put_other : (dir : List ℕ) (j : ℕ) (s : Suffix) (w : Option (List ℕ)) (f g : Files) → j ≤ max_sequence
    → Puts f (file_name_of dir j s) w g → (k : ℕ) (t : Suffix) → k ≤ max_sequence → same_file j s k t ≡ false
    → g (file_name_of dir k t) ≡ f (file_name_of dir k t)
put_other dir j s w f g most put k t fits differ = put.others (file_name_of dir k t) (λ e.
    (let one = one_file dir k j t s fits most e in
    let yes : same_file j s k t ≡ true = file_same j s k t (sym one.0) (sym one.1) in
    let bad : true ≡ false = sym yes ∙ differ in cc))

-- what a put leaves under the name of the file
put_here : (dir : List ℕ) (j : ℕ) (s : Suffix) (w : Option (List ℕ)) (f g : Files) → Puts f (file_name_of dir j s) w g
    → (k : ℕ) (t : Suffix) → same_file j s k t ≡ true → g (file_name_of dir k t) ≡ w
put_here dir j s w f g put k t same =
    let one = file_one j s k t same in
    subst (λ (u : Suffix). g (file_name_of dir k u) ≡ w) one.1 (subst (λ (i : ℕ). g (file_name_of dir i s) ≡ w) one.0 put.there)

text_here : (p : List PublishedValue) (j : ℕ) (s : Suffix) (k : ℕ) (t : Suffix) → same_file j s k t ≡ true
    → text_of s (sequence_at p j) ≡ text_of t (sequence_at p k)
text_here p j s k t same = let one = file_one j s k t same in rw (one.0, one.1) refl

kept_right : (b : Bool) (text : List ℕ) (holds : List ℕ → Type 0) → holds text → IsAbsentOr (unless_lost b text) holds
kept_right true text holds h = tt
kept_right false text holds h = h

-- the file comes or goes
pub set_agrees : (b : Bool) (p : List PublishedValue) (lost : ℕ → Suffix → Bool) (m : Standing) (given : FilterValue) (dir save changes extract : List ℕ)
    (start f l g k : Files) (n j : ℕ) (s : Suffix) → AreApart dir save changes extract → 0 < j → j ≤ length p
    → Puts f (file_name_of dir j s) (unless_lost b (text_of s (sequence_at p j))) g
    → Puts l (file_name_of dir j s) (unless_lost (not b) (text_of s (sequence_at p j))) k
    → Agrees p lost m given dir save changes extract start f l n → Agrees p (λ i t. if same_file j s i t then b else lost i t) m given dir
    save changes extract start g k n
set_agrees b p lost m given dir save changes extract start f l g k n j s apart above within put taken is = record {
  folder = record {
    sequences = is.folder.sequences;
    rising = is.folder.rising;
    top = subst (IsTop p) (sym (put.others (top_name_of dir) (top_is_no_file dir j s))) is.folder.top;
    each = λ i t from until. subst (λ o. IsAbsentOr o (IsFile t (sequence_at p i))) (sym (each i t from until))
        (kept_right (if same_file j s i t then b else lost i t) (text_of t (sequence_at p i))
        (IsFile t (sequence_at p i)) (is.right i t from until));
  };
  each = each;
  away = away;
  fresh = λ i t past. elim (cases_Bool (same_file j s i t)) [
    | inl same ↦ (let one = file_one j s i t same in let at = one.0 in absurd (omega (arith, at, past, within)))
    | inr other ↦ rw other (is.fresh i t past)
  ];
  right = is.right;
  zero = put.others (file_name_of dir 0 State) (λ e. (let one = one_file dir 0 j State s (omega arith) most e in
      let same = one.0 in omega (arith, same, above))) ∙ is.zero;
  saved = kept_same p given m save extract (start extract) f g
      (put.others save (apart.save_is.each j s most), put.others (journal_name_of save) ((journal_outside dir save).each j s most))
      (put.others extract (apart.extract_is.each j s most)) is.saved;
  others = λ name o. put.others name (o.folder.each j s most) ∙ is.others name o;
  number = is.number;
}
  where
    most : j ≤ max_sequence
    most = let all = few p is.folder.sequences in omega (arith, all, within)

    fits : (i : ℕ) → i ≤ length p → i ≤ max_sequence
    fits i until = let all = few p is.folder.sequences in omega (arith, all, until)

    each : (i : ℕ) (t : Suffix) → 0 < i → i ≤ length p → g (file_name_of dir i t) ≡ unless_lost
        (if same_file j s i t then b else lost i t) (text_of t (sequence_at p i))
    each i t from until = elim (cases_Bool (same_file j s i t)) [
      | inl same ↦ rw (put_here dir j s (unless_lost b (text_of s (sequence_at p j))) f g put i t same, text_here p j s i t same, same) refl
      | inr other ↦ rw other (put_other dir j s (unless_lost b (text_of s (sequence_at p j))) f g most put i t (fits i until) other ∙ is.each i t from until)
    ]

    away : (i : ℕ) (t : Suffix) → 0 < i → i ≤ max_sequence → k (file_name_of dir i t) ≡ unless_lost
        (not (if same_file j s i t then b else lost i t)) (text_of t (sequence_at p i))
    away i t from until = elim (cases_Bool (same_file j s i t)) [
      | inl same ↦ rw (put_here dir j s (unless_lost (not b) (text_of s (sequence_at p j))) l k taken i t same, text_here p j s i t same, same) refl
      | inr other ↦ rw other (put_other dir j s (unless_lost (not b) (text_of s (sequence_at p j))) l k most taken i t until other ∙ is.away i t from until)
    ]

kept_some : (b : Bool) (text bytes : List ℕ) → unless_lost b text ≡ Some bytes → (b ≡ false) × (text ≡ bytes)
kept_some true text bytes e = absurd (let h : None ≡ Some bytes = e in cc)
kept_some false text bytes e = (refl, same_Some text bytes e)

pub kept_none : (b : Bool) (text : List ℕ) → unless_lost b text ≡ None → b ≡ true
kept_none true text e = refl
kept_none false text e = absurd (let h : Some text ≡ None = e in cc)

pub not_false : (b : Bool) → not b ≡ false → b ≡ true
not_false true e = refl
not_false false e = absurd (let h : true ≡ false = e in cc)

pub not_true : (b : Bool) → not b ≡ true → b ≡ false
not_true false e = refl
not_true true e = absurd (let h : false ≡ true = e in cc)

-- a file is lost
pub lost_agrees : (p : List PublishedValue) (lost : ℕ → Suffix → Bool) (m : Standing) (given : FilterValue) (dir save changes extract : List ℕ)
    (start f l g k : Files) (n j : ℕ) (s : Suffix) → AreApart dir save changes extract → 0 < j → j ≤ length p
    → Moves true (file_name_of dir j s) f l g k → Agrees p lost m given dir save changes extract start f l n
    → Agrees p (λ i t. if same_file j s i t then true else lost i t) m given dir save changes extract start g k n × (lost j s ≡ false)
lost_agrees p lost m given dir save changes extract start f l g k n j s apart above within (bytes, there, put, gone) is =
    let was = kept_some (lost j s) (text_of s (sequence_at p j)) bytes (sym (is.each j s above within) ∙ there) in (
      set_agrees true p lost m given dir save changes extract start f l g k n j s apart above within gone
          (subst (λ bs. Puts l (file_name_of dir j s) (Some bs) k) (sym was.1) put) is,
      was.0,
    )

-- a file is put back
pub back_agrees : (p : List PublishedValue) (lost : ℕ → Suffix → Bool) (m : Standing) (given : FilterValue) (dir save changes extract : List ℕ)
    (start f l g k : Files) (n j : ℕ) (s : Suffix) → AreApart dir save changes extract → 0 < j → j ≤ length p
    → Moves true (file_name_of dir j s) l f k g → Agrees p lost m given dir save changes extract start f l n
    → Agrees p (λ i t. if same_file j s i t then false else lost i t) m given dir save changes extract start g k n × (lost j s ≡ true)
back_agrees p lost m given dir save changes extract start f l g k n j s apart above within (bytes, there, put, gone) is =
    let most = few p is.folder.sequences in
    let was = kept_some (not (lost j s)) (text_of s (sequence_at p j)) bytes (sym (is.away j s above (omega (arith, most, within))) ∙ there) in (
      set_agrees false p lost m given dir save changes extract start f l g k n j s apart above within
          (subst (λ bs. Puts f (file_name_of dir j s) (Some bs) g) (sym was.1) put) gone is,
      not_false (lost j s) was.0,
    )
