-- Publications by number over the folder of published sequences, some of whose files may be lost.
use Rattle.std.proofs.Common.{◌≡◌, ℕ, zero, suc, ◌<◌, ◌≤◌, List, [], ◌∷◌, length, take, Bool, true, false}
use Rattle.std.proofs.Common.{Option, Some, None, inl, inr, arith, refl, sym, ap, subst, ◌∙◌}
use Rattle.std.specs.Prelude.{◌⊎◌, ◌==◌, not, is_none}
use Rattle.std.specs.List.{AllByRecursion}
use Rattle.std.proofs.lemmas.Bool.{cases_Bool, cases_lt, eqb-true, eq-eqb}
use Rattle.osm_model.specs.Filter.{FilterValue}
use Rattle.osm_model.specs.Limits.{max_sequence}
use Rattle.osm_state.specs.declared.paths.Suffix.{Suffix}
use Rattle.osm_state.specs.declared.paths.Suffix.TheVariants.{O5c, Opl, State}
use Rattle.osm_publisher.specs.Published.{PublishedTexts, PublishedValue, sequence_at, written_of}
use Rattle.osm_store.specs.Files.{Files}
use Rattle.osm_runs.specs.Folder.{IsFolderOf}
use Rattle.osm_runs.specs.Names.{file_name_of, top_name_of}
use Rattle.osm_publishing.specs.Publication.{Writes, writes_of}
use Rattle.osm_publishing.proofs.FolderLemmas.{take_apart}
use Rattle.osm_runs.proofs.NameLemmas.{one_file, top_is_no_file}
use Rattle.osm_operations.specs.Allowed.{place_of}
use Rattle.osm_operations.specs.Correct.{IsOther}
use Rattle.osm_operations.specs.History.{Standing, text_of, unless_lost}
use Rattle.osm_operations.specs.Stepping.{ReturnForms, Returns, named}
use Rattle.osm_operations.proofs.AgreeLemmas.{Agrees, SameSave, few, leaves, kept_same, text_in}

-- ---- the number whose files are named

pub named_least : (n : ℕ) → 0 < named n
named_least n = grind (arith)

pub named_most : (n : ℕ) → named n ≤ max_sequence
named_most n = grind (arith)

pub named_is : (n : ℕ) → 0 < n → n ≤ max_sequence → named n ≡ n
named_is n above most = grind (arith)

-- ---- the files of a number after some of its writes

pub text_same : (t : Suffix) (x : PublishedValue) → text_in t (written_of x) ≡ text_of t x
text_same O5c x = refl
text_same Opl x = refl
text_same State x = refl

module _ (dir : List ℕ) (x : PublishedTexts) (most : x.number ≤ max_sequence) where
  differ : (s t : Suffix) → (s ≡ t → ⊥) → file_name_of dir x.number s ≡ file_name_of dir x.number t → ⊥
  differ s t apart e = (let one = one_file dir x.number x.number s t most most e in apart one.1)

  top_differs : (s : Suffix) → file_name_of dir x.number s ≡ top_name_of dir → ⊥
  top_differs s e = top_is_no_file dir x.number s (sym e)

  past_all : (s : Suffix) (count : ℕ) (ws : List (List ℕ × List ℕ)) (f g : Files)
      → AllByRecursion (λ (w : List ℕ × List ℕ). file_name_of dir x.number s ≡ w.0 → ⊥) ws → Writes (take count ws) f g
      → g (file_name_of dir x.number s) ≡ f (file_name_of dir x.number s)
  past_all s count ws f g apart w = leaves (file_name_of dir x.number s) (take count ws) f g (take_apart (file_name_of dir x.number s) count ws apart) w

  pub written_so_far : (count : ℕ) (t : Suffix) (f g : Files) → Writes (take count (writes_of dir x)) f g
      → ((place_of t < count) × (g (file_name_of dir x.number t) ≡ Some (text_in t x)))
      ⊎ ((count ≤ place_of t) × (g (file_name_of dir x.number t) ≡ f (file_name_of dir x.number t)))
  written_so_far zero t f g w = inr (omega arith, ap (λ (h : Files). h (file_name_of dir x.number t)) w)
  written_so_far (suc c) O5c f g w =
      inl (
        omega arith,
        past_all O5c c ((file_name_of dir x.number Opl, x.opl) ∷ (
          file_name_of dir x.number State,
          x.state,
        ) ∷ (top_name_of dir, x.state) ∷ []) w.0 g
            (differ O5c Opl (λ e. cc), (differ O5c State (λ e. cc), (top_differs O5c, tt))) w.2 ∙ w.1.there,
      )
  written_so_far (suc zero) Opl f g w = inr (
    omega arith,
    ap (λ (h : Files). h (file_name_of dir x.number Opl)) w.2
        ∙ w.1.others (file_name_of dir x.number Opl) (differ Opl O5c (λ e. cc)),
  )
  written_so_far (suc (suc c)) Opl f g w =
      inl (
        omega arith,
        past_all Opl c ((file_name_of dir x.number State, x.state) ∷ (top_name_of dir, x.state) ∷ [])
            w.2.0 g (differ Opl State (λ e. cc), (top_differs Opl, tt)) w.2.2 ∙ w.2.1.there,
      )
  written_so_far (suc zero) State f g w = inr (
    omega arith,
    ap (λ (h : Files). h (file_name_of dir x.number State)) w.2
        ∙ w.1.others (file_name_of dir x.number State) (differ State O5c (λ e. cc)),
  )
  written_so_far (suc (suc zero)) State f g w =
      inr (
        omega arith,
        ap (λ (h : Files). h (file_name_of dir x.number State)) w.2.2
            ∙ (w.2.1.others (file_name_of dir x.number State) (differ State Opl (λ e. cc))
            ∙ w.1.others (file_name_of dir x.number State) (differ State O5c (λ e. cc))),
      )
  written_so_far (suc (suc (suc c))) State f g w =
      inl (
        omega arith,
        past_all State c ((top_name_of dir, x.state) ∷ []) w.2.2.0 g (top_differs State, tt) w.2.2.2
            ∙ w.2.2.1.there,
      )

-- ---- lost files that are there again

-- what the stores said of a file: it was lost and is there again, or not
abbrev pub WasBack : Bool → Option (List ℕ) → Option (List ℕ) → Type 0
WasBack true here gone = (is_none here ≡ false) × (is_none gone ≡ false)
WasBack false here gone = (here ≡ None) ⊎ (gone ≡ None)

abbrev pub unless_back : Bool → Option (List ℕ) → Option (List ℕ)
unless_back true was = None
unless_back false was = was

one_back : (r : Bool) (name : List ℕ) (store l k : Files) → Returns r name store l k → WasBack r (store name) (l name) × (k name ≡ unless_back r (l name))
one_back true name store l k h = ((h.0, h.1), h.2.there)
one_back false name store l k h = (h.0, ap (λ (f : Files). f name) h.1)

back_other : (r : Bool) (name other : List ℕ) (store l k : Files) → (other ≡ name → ⊥) → Returns r name store l k → k other ≡ l other
back_other true name other store l k apart h = h.2.others other apart
back_other false name other store l k apart h = ap (λ (f : Files). f other) h.1

-- both files of a number's changes
pub record AreBack (o5c opl : Bool) (dir : List ℕ) (n : ℕ) (store l k : Files) : Type 0 where
  pub first : WasBack o5c (store (file_name_of dir n O5c)) (l (file_name_of dir n O5c))
  pub second : WasBack opl (store (file_name_of dir n Opl)) (l (file_name_of dir n Opl))
  pub first_left : k (file_name_of dir n O5c) ≡ unless_back o5c (l (file_name_of dir n O5c))
  pub second_left : k (file_name_of dir n Opl) ≡ unless_back opl (l (file_name_of dir n Opl))
  pub state_left : k (file_name_of dir n State) ≡ l (file_name_of dir n State)
  pub others : (i : ℕ) (t : Suffix) → i ≤ max_sequence → (i ≡ n → ⊥) → k (file_name_of dir i t) ≡ l (file_name_of dir i t)

pub are_back : (o5c opl : Bool) (dir : List ℕ) (n : ℕ) (store l k : Files) → n ≤ max_sequence
    → ReturnForms o5c opl dir n store l k → AreBack o5c opl dir n store l k
are_back o5c opl dir n store l k most (m, a, b) = record {
  first = (one_back o5c (file_name_of dir n O5c) store l m a).0;
  second = subst (WasBack opl (store (file_name_of dir n Opl))) here (one_back opl (file_name_of dir n Opl) store m k b).0;
  first_left = back_other opl (file_name_of dir n Opl) (file_name_of dir n O5c) store m k
      (λ e. (let one = one_file dir n n O5c Opl most most e in (let bad : O5c ≡ Opl = one.1 in cc))) b
      ∙ (one_back o5c (file_name_of dir n O5c) store l m a).1;
  second_left = (one_back opl (file_name_of dir n Opl) store m k b).1 ∙ ap (unless_back opl) here;
  state_left = back_other opl (file_name_of dir n Opl) (file_name_of dir n State) store m k
      (λ e. (let one = one_file dir n n State Opl most most e in (let bad : State ≡ Opl = one.1 in cc))) b
      ∙ back_other o5c (file_name_of dir n O5c) (file_name_of dir n State) store l m
      (λ e. (let one = one_file dir n n State O5c most most e in (let bad : State ≡ O5c = one.1 in cc))) a;
  others = λ i t fits differ. other i t fits differ;
}
  where
    here : m (file_name_of dir n Opl) ≡ l (file_name_of dir n Opl)
    here = back_other o5c (file_name_of dir n O5c) (file_name_of dir n Opl) store l m
        (λ e. (let one = one_file dir n n Opl O5c most most e in (let bad : Opl ≡ O5c = one.1 in cc))) a

    other : (i : ℕ) (t : Suffix) → i ≤ max_sequence → (i ≡ n → ⊥) → k (file_name_of dir i t) ≡ l (file_name_of dir i t)
    other i t fits differ =
        back_other opl (file_name_of dir n Opl) (file_name_of dir i t) store m k (λ e. (let one = one_file dir i n t Opl fits most e in differ one.0)) b
        ∙ back_other o5c (file_name_of dir n O5c) (file_name_of dir i t) store l m (λ e. (let one = one_file dir i n t O5c fits most e in differ one.0)) a

-- ---- nothing has come back

none_left : (b : Bool) (text : List ℕ) (gone : Option (List ℕ)) → gone ≡ unless_lost (not b) text → is_none gone ≡ not b
none_left true text told e = rw e refl
none_left false text told e = rw e refl

none_here : (b : Bool) (text : List ℕ) (here : Option (List ℕ)) → here ≡ unless_lost b text → is_none here ≡ b
none_here true text here e = rw e refl
none_here false text here e = rw e refl

not_back : (b r : Bool) (text : List ℕ) (here gone : Option (List ℕ)) → ((b ≡ false) ⊎ (here ≡ unless_lost b text))
    → gone ≡ unless_lost (not b) text → WasBack r here gone → r ≡ false
not_back b false text here told h away was = refl
not_back false true text here told h away was = absurd (let bad : true ≡ false = sym (none_left false text told away) ∙ was.1 in cc)
not_back true true text here told (inl e) away was = absurd (let bad : true ≡ false = e in cc)
not_back true true text here told (inr e) away was = absurd (let bad : true ≡ false = sym (none_here true text here e) ∙ was.0 in cc)

same_if : (r : Bool) (name : List ℕ) (store l k : Files) → r ≡ false → Returns r name store l k → k ≡ l
same_if true name store l k e h = absurd (let bad : true ≡ false = e in cc)
same_if false name store l k e h = h.1

-- the files of a number haven't changed: none has come back
pub record AreGone (o5c opl : Bool) (l k : Files) : Type 0 where
  pub first : o5c ≡ false
  pub second : opl ≡ false
  pub same : k ≡ l

pub none_back : (p : List PublishedValue) (lost : ℕ → Suffix → Bool) (m : Standing) (given : FilterValue) (dir save changes extract : List ℕ)
    (start f g l k : Files) (c n : ℕ) (o5c opl : Bool) → Agrees p lost m given dir save changes extract start f l c → 0 < n
    → n ≤ max_sequence → ((t : Suffix) → n ≤ length p → g (file_name_of dir n t) ≡ f (file_name_of dir n t))
    → ReturnForms o5c opl dir n g l k → AreGone o5c opl l k
none_back p lost m given dir save changes extract start f g l k c n o5c opl s above most same (mid, a, b) = record {
  first = no_first;
  second = no_second;
  same = same_if opl (file_name_of dir n Opl) g mid k no_second b ∙ mid_is;
}
  where
    here : (t : Suffix) → (lost n t ≡ false) ⊎ (g (file_name_of dir n t) ≡ unless_lost (lost n t) (text_of t (sequence_at p n)))
    here t = elim (cases_lt (length p) n) [
      | inl past ↦ inl (s.fresh n t past)
      | inr within ↦ inr (same t within ∙ s.each n t above within)
    ]

    no_first : o5c ≡ false
    no_first = not_back (lost n O5c) o5c (text_of O5c (sequence_at p n)) (g (file_name_of dir n O5c))
        (l (file_name_of dir n O5c)) (here O5c) (s.away n O5c above most)
        (one_back o5c (file_name_of dir n O5c) g l mid a).0

    mid_is : mid ≡ l
    mid_is = same_if o5c (file_name_of dir n O5c) g l mid no_first a

    no_second : opl ≡ false
    no_second = not_back (lost n Opl) opl (text_of Opl (sequence_at p n)) (g (file_name_of dir n Opl))
        (mid (file_name_of dir n Opl)) (here Opl) (ap (λ (h : Files). h (file_name_of dir n Opl)) mid_is
        ∙ s.away n Opl above most) (one_back opl (file_name_of dir n Opl) g mid k b).0

-- ---- the files are as the history says

-- the same files are lost
pub lost_alike : (p : List PublishedValue) (lost gone : ℕ → Suffix → Bool) (m : Standing) (given : FilterValue) (dir save changes extract : List ℕ)
    (start f l : Files) (c : ℕ) → ((k : ℕ) (t : Suffix) → gone k t ≡ lost k t)
    → Agrees p lost m given dir save changes extract start f l c → Agrees p gone m given dir save changes extract start f l c
lost_alike p lost gone m given dir save changes extract start f l c same s = record {
  folder = s.folder;
  each = λ k t above within. rw (same k t) (s.each k t above within);
  away = λ k t above most. rw (same k t) (s.away k t above most);
  fresh = λ k t past. same k t ∙ s.fresh k t past;
  right = s.right;
  zero = s.zero;
  saved = s.saved;
  others = s.others;
  number = s.number;
}

-- the newest sequence's files were written again, and some of its lost ones are there again
pub rewritten : (p : List PublishedValue) (lost gone : ℕ → Suffix → Bool) (m : Standing) (given : FilterValue) (dir save changes extract : List ℕ)
    (start f g l k : Files) (c n count : ℕ) → Agrees p lost m given dir save changes extract start f l c → 0 < n → n ≡ length p
    → Writes (take count (writes_of dir (written_of (sequence_at p n)))) f g → IsFolderOf p g dir → SameSave save f g → g extract ≡ f extract
    → ((name : List ℕ) → IsOther dir save changes extract name → g name ≡ f name)
    → ((i : ℕ) (t : Suffix) → (i ≡ n → ⊥) → gone i t ≡ lost i t)
    → ((t : Suffix) → g (file_name_of dir n t) ≡ unless_lost (gone n t) (text_of t (sequence_at p n)))
    → ((t : Suffix) → k (file_name_of dir n t) ≡ unless_lost (not (gone n t)) (text_of t (sequence_at p n)))
    → ((i : ℕ) (t : Suffix) → i ≤ max_sequence → (i ≡ n → ⊥) → k (file_name_of dir i t) ≡ l (file_name_of dir i t))
    → Agrees p gone m given dir save changes extract start g k c
rewritten p lost gone m given dir save changes extract start f g l k c n count s above newest w folder saved exported others alike here away rest = record {
  folder = folder;
  each = λ i t low within. elim (cases_Bool (i == n)) [
    | inl same ↦ (let e = eqb-true i n same in subst (λ j. g (file_name_of dir j t) ≡ unless_lost (gone j t) (text_of t (sequence_at p j))) (sym e) (here t))
    | inr other ↦ (let not_it = differ i other in rw (alike i t not_it) (before i t within not_it w ∙ s.each i t low within))
  ];
  away = λ i t low most. elim (cases_Bool (i == n)) [
    | inl same ↦ (let e = eqb-true i n same in
        subst (λ j. k (file_name_of dir j t) ≡ unless_lost (not (gone j t)) (text_of t (sequence_at p j))) (sym e)
        (away t))
    | inr other ↦ (let not_it = differ i other in rw (alike i t not_it) (rest i t most not_it ∙ s.away i t low most))
  ];
  fresh = λ i t past. alike i t (λ e. omega (arith, e, newest, past)) ∙ s.fresh i t past;
  right = s.right;
  zero = before 0 State (omega arith) (λ e. omega (arith, e, above)) w ∙ s.zero;
  saved = kept_same p given m save extract (start extract) f g saved exported s.saved;
  others = λ name o. others name o ∙ s.others name o;
  number = s.number;
}
  where
    differ : (i : ℕ) → (i == n) ≡ false → i ≡ n → ⊥
    differ i other e = (let yes = eq-eqb i n e in (let bad : true ≡ false = sym yes ∙ other in cc))

    number : (sequence_at p n).number ≡ n
    number = (s.folder.sequences n above (omega (arith, newest))).number_is

    before : (i : ℕ) (t : Suffix) → i ≤ length p → (i ≡ n → ⊥)
        → Writes (take count (writes_of dir (written_of (sequence_at p n)))) f g → g (file_name_of dir i t) ≡
        f (file_name_of dir i t)
    before i t within not_it w =
        let most = few p s.folder.sequences in
        leaves (file_name_of dir i t) (take count (writes_of dir (written_of (sequence_at p n)))) f g
        (take_apart (file_name_of dir i t) count (writes_of dir (written_of (sequence_at p n)))
        (apart O5c, (apart Opl, (apart State, (λ e. top_is_no_file dir i t (sym e), tt))))) w
      where
        apart : (u : Suffix) → file_name_of dir i t ≡ file_name_of dir (sequence_at p n).number u → ⊥
        apart u e =
            (let most = few p s.folder.sequences in
            let at = number in
            let one = one_file dir i (sequence_at p n).number t u (omega (arith, most, within)) (omega (arith, most, at, newest)) e in not_it (one.0 ∙ number))
