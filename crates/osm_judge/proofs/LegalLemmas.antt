-- Only one number is reached: by a history, and by the sequences that can be applied from one on.
use Rattle.std.proofs.Common.{◌≡◌, ℕ, zero, suc, ◌+◌, ◌-◌, ◌<◌, ◌≤◌, List, [], ◌∷◌, ◌++◌, length, refl, ap, sym, ◌∙◌}
use Rattle.std.proofs.Common.{Bool, true, false, arith, length-append, inl, inr, subst, take, get_or, append-nil}
use Rattle.std.proofs.lemmas.Grind.{flat_map-append}
use Rattle.std.proofs.lemmas.List.{take_more, take_all, get_or_past}
use Rattle.std.proofs.lemmas.Bool.{cases_lt}
use Rattle.std.specs.List.{flat_map, zip}
use Rattle.std.specs.Prelude.{◌↔◌, IsTrue}
use Rattle.osm_model.specs.Change.{ChangeValue}
use Rattle.osm_model.specs.Filter.{FilterValue}
use Rattle.osm_model.specs.Limits.{max_changes}
use Rattle.osm_world.specs.History.{History, accepted_of, pending_of, published_of, start_of}
use Rattle.osm_world.proofs.LegalLemmas.{legal_more}
use Rattle.osm_world.specs.Legal.{Allowed, IsLegal, IsNumber, IsWanted, HasChanges}
use Rattle.osm_world.specs.declared.event.Event.{Event}
use Rattle.osm_world.specs.declared.event.Event.TheVariants.{Begin, Edit, Close, Deliver, Show, Save, Restart}
use Rattle.osm_world.specs.declared.event.Reply.{Reply}
use Rattle.osm_world.specs.declared.event.Reply.TheVariants.{Edited, BatchFull, WantOfMemory, Closed, SequenceFull, TimeBack, TooLarge}
use Rattle.osm_world.proofs.ReachLemmas.{one_reach}
use Rattle.osm_publisher.specs.Published.{PublishedValue, unpublished, changes_at, changes_up_to}
use Rattle.osm_follow.specs.Reach.{Reaches, between}

pub wanted_row : (h : History) (k reached : ℕ) (Q : ℕ → Type 0) (r : Bool) → IsNumber h reached
    → IsTrue r ↔ (IsWanted h k reached × Q reached) → IsTrue r ↔ ((n : ℕ) × IsWanted h k n × Q n)
wanted_row h k reached Q r number told = (
  λ t. (let both = told.0 t in (reached, both.0, both.1)),
  λ row. told.1 (subst (λ (m : ℕ). IsWanted h k m × Q m)
      (one_reach (accepted_of h) (start_of h) row.0 reached row.1.is_open.number number) (row.1, row.2)),
)

-- one more sequence, even after the last, where there is no change
changes_up_to_more : (ps : List PublishedValue) (n : ℕ) → changes_up_to ps (n + 1) ≡ changes_up_to ps n ++ changes_at ps (n + 1)
changes_up_to_more ps n = elim (cases_lt n (length ps)) [
  | inl within ↦ within_more within
  | inr past ↦ past_more past
]
  where
    index : n + 1 - 1 ≡ n
    index = omega arith

    here : changes_at ps (n + 1) ≡ (get_or ps n unpublished).changes
    here = ap (λ (i : ℕ). (get_or ps i unpublished).changes) index

    within_more : n < length ps → changes_up_to ps (n + 1) ≡ changes_up_to ps n ++ changes_at ps (n + 1)
    within_more within =
        ap (flat_map (λ (p : PublishedValue). p.changes)) (take_more ps n unpublished within)
        ∙ (flat_map-append (λ (p : PublishedValue). p.changes) (take n ps) (get_or ps n unpublished ∷ [])
        ∙ ap (λ (cs : List ChangeValue). changes_up_to ps n ++ cs) (append-nil (get_or ps n unpublished).changes ∙ sym here))

    past_more : length ps ≤ n → changes_up_to ps (n + 1) ≡ changes_up_to ps n ++ changes_at ps (n + 1)
    past_more past =
        let whole : take (n + 1) ps ≡ take n ps = take_all (n + 1) ps (omega arith) ∙ sym (take_all n ps (omega arith)) in
        let none : changes_at ps (n + 1) ≡ [] = here ∙ ap (λ (p : PublishedValue). p.changes) (get_or_past ps n unpublished (omega arith)) in
        ap (flat_map (λ (p : PublishedValue). p.changes)) whole
        ∙ sym (ap (λ (cs : List ChangeValue). changes_up_to ps n ++ cs) none ∙ append-nil (changes_up_to ps n))

changes_up_to_between : (ps : List PublishedValue) (n count : ℕ) → length (changes_up_to ps (n + count)) ≡
    length (changes_up_to ps n) + length (between (changes_at ps) n count)
changes_up_to_between ps n zero = let same : n + 0 ≡ n = omega arith in rw same (omega arith)
changes_up_to_between ps n (suc count) =
    let next : n + suc count ≡ n + count + 1 = omega arith in
    let more : length (changes_up_to ps (n + count + 1)) ≡ length (changes_up_to ps (n + count))
    + length (changes_at ps (n + count + 1)) = ap length (changes_up_to_more ps (n + count))
    ∙ length-append (changes_up_to ps (n + count)) (changes_at ps (n + count + 1)) in
    let rest : length (changes_up_to ps (n + count)) ≡ length (changes_up_to ps n)
    + length (between (changes_at ps) n count) = changes_up_to_between ps n count in
    let both : length (between (changes_at ps) n (suc count)) ≡ length (between (changes_at ps) n count)
    + length (changes_at ps (n + suc count)) = length-append (between (changes_at ps) n count)
    (changes_at ps (n + suc count)) in
    let here : length (changes_up_to ps (n + suc count)) ≡ length (changes_up_to ps (n + count + 1)) = ap (λ (j : ℕ). length (changes_up_to ps j)) next in
    let last : length (changes_at ps (n + suc count)) ≡ length (changes_at ps (n + count + 1)) = ap (λ (j : ℕ). length (changes_at ps j)) next in
    omega arith

-- sequence k has a change exactly if there are more changes up to k than before it
pub has_change : (ps : List PublishedValue) (k : ℕ) → 0 < k → (length (changes_up_to ps (k - 1)) < length (changes_up_to ps k)) ↔ (0 < length (changes_at ps k))
has_change ps k above = (λ less. omega (arith, longer), λ some. omega (arith, longer))
  where
    next : k - 1 + 1 ≡ k
    next = omega arith

    longer : length (changes_up_to ps k) ≡ length (changes_up_to ps (k - 1)) + length (changes_at ps k)
    longer = rw next at (ap length (changes_up_to_more ps (k - 1)) ∙ length-append (changes_up_to ps (k - 1)) (changes_at ps (k - 1 + 1)))

-- the same for those from k up to high
pub have_changes : (ps : List PublishedValue) (k count : ℕ) → 0 < k → length (changes_up_to ps (k + count)) ≡
    length (changes_up_to ps (k - 1)) + length (changes_at ps k ++ between (changes_at ps) k count)
have_changes ps k count above =
    let next : k - 1 + 1 ≡ k = omega arith in
    let one : length (changes_up_to ps k) ≡ length (changes_up_to ps (k - 1)) + length (changes_at ps k) =
    rw next at (ap length (changes_up_to_more ps (k - 1)) ∙ length-append (changes_up_to ps (k - 1))
    (changes_at ps (k - 1 + 1))) in
    let rest : length (changes_up_to ps (k + count)) ≡ length (changes_up_to ps k)
    + length (between (changes_at ps) k count) = changes_up_to_between ps k count in
    let both : length (changes_at ps k ++ between (changes_at ps) k count) ≡ length (changes_at ps k)
    + length (between (changes_at ps) k count) =
    length-append (changes_at ps k) (between (changes_at ps) k count) in
    omega arith

pub want_row : (h : History) (k reached : ℕ) (r : Bool) → IsNumber h reached
    → IsTrue r ↔ (IsWanted h k reached
    × (length (changes_up_to (published_of h) (k - 1)) < length (changes_up_to (published_of h) k)))
    → IsTrue r ↔ ((n : ℕ) × IsWanted h k n × (0 < length (changes_at (published_of h) k)))
want_row h k reached r number told = wanted_row h k reached (λ n. 0 < length (changes_at (published_of h) k)) r number (
  λ t. (let both = told.0 t in (both.0, (has_change (published_of h) k both.0.is_open.above).0 both.1)),
  λ both. told.1 (both.0, (has_change (published_of h) k both.0.is_open.above).1 both.1),
)

pub broke_row : (h : History) (k reached high : ℕ) (r : Bool) → IsNumber h reached → Reaches (accepted_of h) k high
    → IsTrue r ↔ (IsWanted h k reached × (k ≡ reached + 1)
    × (length (changes_up_to (published_of h) (k - 1)) < length (changes_up_to (published_of h) high)))
    → IsTrue r ↔ ((n : ℕ) × IsWanted h k n × (k ≡ n + 1) × HasChanges h k)
broke_row h k reached high r number reach told = (
  λ t. (let all = told.0 t in (reached, all.0, all.1, work all.0.is_open.above all.2)),
  λ row.
      let same : row.0 ≡ reached = one_reach (accepted_of h) (start_of h) row.0 reached row.1.is_open.number number in
      let wanted : IsWanted h k reached = subst (λ (m : ℕ). IsWanted h k m) same row.1 in
      let next : k ≡ reached + 1 = subst (λ (m : ℕ). k ≡ m + 1) same row.2 in
      told.1 (wanted, next, less wanted.is_open.above row.3),
)
  where
    work : 0 < k → length (changes_up_to (published_of h) (k - 1)) < length (changes_up_to (published_of h) high) → HasChanges h k
    work above more =
        let from = reach.from in
        let is : high ≡ k + (high - k) = omega arith in
        record {
          count = high - k;
          reach = rw is at reach;
          some = (let many = have_changes (published_of h) k (high - k) above in
              let here : length (changes_up_to (published_of h) high) ≡
              length (changes_up_to (published_of h) (k + (high - k))) =
              ap (λ (n : ℕ). length (changes_up_to (published_of h) n)) is in omega arith);
        }

    less : 0 < k → HasChanges h k → length (changes_up_to (published_of h) (k - 1)) < length (changes_up_to (published_of h) high)
    less above work =
        let same : k + work.count ≡ high = one_reach (accepted_of h) k (k + work.count) high work.reach reach in
        let many = have_changes (published_of h) k work.count above in
        let here : length (changes_up_to (published_of h) high) ≡
        length (changes_up_to (published_of h) (k + work.count)) =
        ap (λ (n : ℕ). length (changes_up_to (published_of h) n)) (sym same) in
        let some = work.some in
        omega arith

legal_before : (f : FilterValue) (h : History) (e : Event) (r : Reply) → IsLegal f ((e, r) ∷ h) → IsLegal f h
legal_before f h e r legal = record { each = λ later before d q is. legal.each ((e, r) ∷ later) before d q (ap (λ (p : History). (e, r) ∷ p) is) }

pub legal-cons : (f : FilterValue) (h : History) (e : Event) (r : Reply) (b : Bool) → IsLegal f h → IsTrue b ↔ Allowed f h e r
    → IsTrue b ↔ IsLegal f ((e, r) ∷ h)
legal-cons f h e r b before told = (λ t. legal_more f h e r before (told.0 t), λ legal. told.1 (legal.each [] h e r refl))

pub not_legal : (f : FilterValue) (h : History) (e : Event) (r : Reply) (a b : Bool) → a ≡ false → b ≡ false → IsTrue a ↔ IsLegal f h
    → IsTrue b ↔ IsLegal f ((e, r) ∷ h)
not_legal f h e r a b is out told = (
  λ t. absurd (let bad : false ≡ true = sym out ∙ t in cc),
  λ legal. absurd (let bad : false ≡ true =
      sym is ∙ told.1 (legal_before f h e r legal) in cc),
)

-- after a legal history at most as many edits are pending as a batch can have
few_more : (f : FilterValue) (h : History) (e : Event) (r : Reply) → Allowed f h e r → length (pending_of h) ≤ max_changes
    → length (pending_of ((e, r) ∷ h)) ≤ max_changes
few_more f h (Edit c) Edited allowed few = let grown : length (pending_of h ++ c ∷ []) ≡ length (pending_of h) + 1 =
    length-append (pending_of h) (c ∷ []) in omega (arith, grown, allowed)
few_more f h (Edit c) BatchFull allowed few = rw (append-nil (pending_of h)) few
few_more f h (Edit c) WantOfMemory allowed few = rw (append-nil (pending_of h)) few
few_more f h (Edit c) r allowed few = absurd allowed
few_more f h (Close t) (Closed n) allowed few = omega arith
few_more f h (Close t) SequenceFull allowed few = rw (append-nil (pending_of h)) few
few_more f h (Close t) TimeBack allowed few = rw (append-nil (pending_of h)) few
few_more f h (Close t) TooLarge allowed few = rw (append-nil (pending_of h)) few
few_more f h (Close t) WantOfMemory allowed few = rw (append-nil (pending_of h)) few
few_more f h (Close t) r allowed few = absurd allowed
few_more f h (Deliver k form) r allowed few = rw (append-nil (pending_of h)) few
few_more f h Show r allowed few = rw (append-nil (pending_of h)) few
few_more f h Save r allowed few = rw (append-nil (pending_of h)) few
few_more f h Restart r allowed few = rw (append-nil (pending_of h)) few
few_more f h (Begin k) r allowed few = rw (append-nil (pending_of h)) few

pub few_pending : (f : FilterValue) (h : History) → IsLegal f h → length (pending_of h) ≤ max_changes
few_pending f [] legal = omega arith
few_pending f ((e, r) ∷ h) legal = few_more f h e r (legal.each [] h e r refl) (few_pending f h (legal_before f h e r legal))

-- if one list is empty, no pair is left
pub no_first : {X Y : Type 0} (xs : List X) (ys : List Y) (n : ℕ) → n ≡ length xs → n ≡ 0 → zip xs ys ≡ []
no_first [] ys n is none = refl
no_first (x ∷ xs) ys n is none = absurd (omega arith)

pub no_second : {X Y : Type 0} (xs : List X) (ys : List Y) (n : ℕ) → n ≡ length ys → n ≡ 0 → zip xs ys ≡ []
no_second [] ys n is none = refl
no_second (x ∷ xs) [] n is none = refl
no_second (x ∷ xs) (y ∷ ys) n is none = absurd (omega arith)
