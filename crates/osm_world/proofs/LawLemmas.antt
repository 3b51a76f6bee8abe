-- No number is lost: what a legal history has accepted, and how far its deliveries reach.
use Rattle.std.proofs.Common.{◌≡◌, ℕ, zero, suc, ◌+◌, ◌<◌, ◌≤◌, List, [], ◌∷◌, ◌++◌, refl, sym, ◌∙◌, Bool, true, false, arith, inl, inr, append-nil}
use Rattle.std.specs.Prelude.{◌==◌, ◌||◌, ◌⊎◌, ◌↔◌}
use Rattle.std.proofs.lemmas.Bool.{cases_lt, eq-eqb, eqb-true, or_cases, or_left, or_right}
use Rattle.osm_model.specs.Filter.{FilterValue}
use Rattle.osm_world.specs.Deliveries.{IsSubsequence, delivered_of, is_confirmed}
use Rattle.osm_world.specs.History as hist
use Rattle.osm_world.specs.Legal.{IsLegal, IsNumber, Allowed}
use Rattle.osm_follow.specs.Reach.{Reaches, numbers}
use Rattle.osm_world.specs.declared.event.Event.{Event}
use Rattle.osm_world.specs.declared.event.Event.TheVariants.{Begin, Edit, Close, Deliver, Show, Save, Restart}
use Rattle.osm_world.specs.declared.event.Reply.{Reply}
use Rattle.osm_world.specs.declared.event.Reply.TheVariants.{Edited, BatchFull, WantOfMemory, Closed, SequenceFull}
use Rattle.osm_world.specs.declared.event.Reply.TheVariants.{TimeBack, TooLarge, NotPublished, Broken, Old, Again}
use Rattle.osm_world.specs.declared.event.Reply.TheVariants.{TooEarly, Held, Applied, Broke, Shown, Saved, Restarted, Begun}
use Rattle.osm_world.proofs.ReachLemmas.{one_reach, reaches_more}
use Rattle.osm_world.proofs.ReportLemmas.{legal_before}

legal_last : (filter : FilterValue) (h : hist.History) (e : Event) (r : Reply) → IsLegal filter ((e, r) ∷ h) → Allowed filter h e r
legal_last filter h e r legal = legal.each [] h e r refl

-- a subsequence ends before the last member, or with it
subsequence-snoc : (xs ys : List ℕ) (x y : ℕ) → IsSubsequence (xs ++ x ∷ []) (ys ++ y ∷ []) → IsSubsequence (xs ++ x ∷ []) ys ⊎ ((x ≡ y) × IsSubsequence xs ys)
subsequence-snoc [] [] x y (inl both) = inr (both.0, tt)
subsequence-snoc [] [] x y (inr none) = absurd none
subsequence-snoc (w ∷ []) [] x y (inl both) = absurd both.1
subsequence-snoc (w ∷ v ∷ xs) [] x y (inl both) = absurd both.1
subsequence-snoc (w ∷ xs) [] x y (inr none) = absurd none
subsequence-snoc [] (z ∷ ys) x y (inl both) = inl (inl (both.0, tt))
subsequence-snoc [] (z ∷ ys) x y (inr later) = elim (subsequence-snoc [] ys x y later) [
  | inl before ↦ inl (inr before)
  | inr last ↦ inr (last.0, tt)
]
subsequence-snoc (w ∷ xs) (z ∷ ys) x y (inl both) = elim (subsequence-snoc xs ys x y both.1) [
  | inl before ↦ inl (inl (both.0, before))
  | inr last ↦ inr (last.0, inl (both.0, last.1))
]
subsequence-snoc (w ∷ xs) (z ∷ ys) x y (inr later) = elim (subsequence-snoc (w ∷ xs) ys x y later) [
  | inl before ↦ inl (inr before)
  | inr last ↦ inr (last.0, inr last.1)
]

-- numbers that were all delivered in order, up to a number
abbrev Reached : hist.History → ℕ → ℕ → Type 0
Reached h start n = (count : ℕ) → IsSubsequence (numbers start count) (delivered_of h) → start + count ≤ n

-- one more delivery, of a number that the follower has or that is beyond the next
step_up : (start n k count : ℕ) (ds : List ℕ) → start ≤ n → ((c : ℕ) → IsSubsequence (numbers start c) ds
    → start + c ≤ n) → (k ≤ n + 1 → k ≤ n) → IsSubsequence (numbers start count) (ds ++ k ∷ []) → start + count ≤ n
step_up start n k zero ds from before near is = omega arith
step_up start n k (suc count) ds from before near is = elim (subsequence-snoc (numbers start count) ds (start + suc count) k is) [
  | inl earlier ↦ before (suc count) earlier
  | inr last ↦ (
      let low : start + count ≤ n = before count last.1 in
      let number : start + suc count ≡ k = last.0 in
      let there : k ≤ n = near (omega arith) in
      omega arith)
]

-- what is known of the history before a pair
abbrev Before : hist.History → Type 0
Before h = hist.is_broken h ≡ false → (n : ℕ) → IsNumber h n → Reached h (hist.start_of h) n

quiet_pair : (h : hist.History) (n : ℕ) → hist.is_broken h ≡ false → IsNumber h n → Before h → (count : ℕ)
    → IsSubsequence (numbers (hist.start_of h) count) (delivered_of h ++ []) → hist.start_of h + count ≤ n
quiet_pair h n whole number before count is = before whole n number count (rw append-nil at is)

-- a delivery that accepts nothing
known_pair : (h : hist.History) (k n m : ℕ) → hist.is_broken h ≡ false → IsNumber h n → IsNumber h m
    → (k ≤ m + 1 → k ≤ m) → Before h → (count : ℕ) → IsSubsequence (numbers (hist.start_of h) count)
    (delivered_of h ++ k ∷ []) → hist.start_of h + count ≤ n
known_pair h k n m whole number old near before count is =
    let one : m ≡ n = one_reach (hist.accepted_of h) (hist.start_of h) m n old number in
    let from = number.from in
    step_up (hist.start_of h) n k count (delivered_of h) from (before whole n number) (λ le. (let there : k ≤ m = near (omega arith) in omega arith)) is

-- a delivery that accepts its number
new_pair : (h : hist.History) (k n m : ℕ) → hist.is_broken h ≡ false → Reaches (λ j. (k == j) || hist.accepted_of h j)
    (hist.start_of h) n → IsNumber h m → Before h → (count : ℕ) → IsSubsequence (numbers (hist.start_of h) count)
    (delivered_of h ++ k ∷ []) → hist.start_of h + count ≤ n
new_pair h k n m whole number old before count is =
    let more : m ≤ n = reaches_more (hist.accepted_of h) (λ j. (k == j) || hist.accepted_of h j) (hist.start_of h) m n
    old number (λ j t. or_right (k == j) (hist.accepted_of h j) t) in
    let from = number.from in
    step_up (hist.start_of h) n k count (delivered_of h) from (λ c s. (let le : hist.start_of h + c ≤ m =
    before whole m old c s in omega arith)) (λ le. elim (cases_lt n k) [
      | inr there ↦ there
      | inl less ↦ absurd (
          let next : k ≡ n + 1 = omega arith in
          let out : ((k == (n + 1)) || hist.accepted_of h (n + 1)) ≡ false = number.next in
          let has : ((k == (n + 1)) || hist.accepted_of h (n + 1)) ≡ true = or_left (k == (n + 1)) (hist.accepted_of h (n + 1)) (eq-eqb k (n + 1) next) in
          let bad : true ≡ false = sym has ∙ out in cc)
    ]) is

apart : (b : Bool) → b ≡ true → b ≡ false → ⊥
apart b is out = let bad : true ≡ false = sym is ∙ out in cc

-- nothing was delivered since the start
none_delivered : (start n count : ℕ) → start ≤ n → IsSubsequence (numbers start count) [] → start + count ≤ n
none_delivered start n zero from is = omega arith
none_delivered start n (suc count) from is = absurd (none (numbers start count) is)
  where
    none : (xs : List ℕ) → IsSubsequence (xs ++ (start + suc count) ∷ []) [] → ⊥
    none [] s = s
    none (x ∷ xs) s = s

pub catches_up : (filter : FilterValue) (h : hist.History) (n : ℕ) → IsLegal filter h → hist.is_broken h ≡ false → IsNumber h n
    → Reached h (hist.start_of h) n
catches_up filter [] n legal whole number count is = none_delivered 0 n count number.from is
catches_up filter (p ∷ h) n legal whole number count is = by_pair p.0 p.1 (legal_last filter h p.0 p.1 legal) whole number
    (λ ok m at. catches_up filter h m (legal_before filter h p.0 p.1 legal) ok at) count is
  where
    by_pair : (e : Event) (r : Reply) → Allowed filter h e r → hist.is_broken ((e, r) ∷ h) ≡ false → IsNumber ((e, r) ∷ h) n
        → Before h → Reached ((e, r) ∷ h) (hist.start_of ((e, r) ∷ h)) n
    by_pair (Edit c) Edited a ok at before = quiet_pair h n ok at before
    by_pair (Edit c) BatchFull a ok at before = quiet_pair h n ok at before
    by_pair (Edit c) WantOfMemory a ok at before = quiet_pair h n ok at before
    by_pair (Edit c) r a ok at before = absurd a
    by_pair (Close t) (Closed m) a ok at before = quiet_pair h n ok at before
    by_pair (Close t) SequenceFull a ok at before = quiet_pair h n ok at before
    by_pair (Close t) TimeBack a ok at before = quiet_pair h n ok at before
    by_pair (Close t) TooLarge a ok at before = quiet_pair h n ok at before
    by_pair (Close t) WantOfMemory a ok at before = quiet_pair h n ok at before
    by_pair (Close t) r a ok at before = absurd a
    by_pair (Deliver k form) NotPublished a ok at before = quiet_pair h n ok at before
    by_pair (Deliver k form) WantOfMemory a ok at before = quiet_pair h n ok at before
    by_pair (Deliver k form) Broken a ok at before = absurd (apart (hist.is_broken h) a.2 ok)
    by_pair (Deliver k form) Old a ok at before = known_pair h k n a.0 ok at a.1.number (λ le. a.2) before
    by_pair (Deliver k form) Again a ok at before = known_pair h k n a.0 ok at a.1.number (λ le. absurd (
        let past = a.2 in
        let next : k ≡ a.0 + 1 = omega arith in
        let has : hist.accepted_of h (a.0 + 1) ≡ true = rw next at a.3 in
        apart (hist.accepted_of h (a.0 + 1)) has a.1.number.next)) before
    by_pair (Deliver k form) TooEarly a ok at before = known_pair h k n a.0 ok at a.1.number (λ le. absurd (let far = a.2 in omega arith)) before
    by_pair (Deliver k form) Held a ok at before = new_pair h k n a.0 ok at a.1.is_open.number before
    by_pair (Deliver k form) (Applied low high) a ok at before = new_pair h k n a.0 ok at a.1.is_open.number before
    by_pair (Deliver k form) Broke a ok at before = cc
    by_pair (Deliver k form) r a ok at before = absurd a
    by_pair Show Broken a ok at before = quiet_pair h n ok at before
    by_pair Show (Shown v) a ok at before = quiet_pair h n ok at before
    by_pair Show WantOfMemory a ok at before = quiet_pair h n ok at before
    by_pair Show r a ok at before = absurd a
    by_pair Save Broken a ok at before = quiet_pair h n ok at before
    by_pair Save (Saved m) a ok at before = quiet_pair h n ok at before
    by_pair Save WantOfMemory a ok at before = quiet_pair h n ok at before
    by_pair Save r a ok at before = absurd a
    by_pair Restart (Restarted m) a ok at before = λ c s. none_delivered (hist.saved_of h) n c at.from s
    by_pair Restart WantOfMemory a ok at before = cc
    by_pair Restart r a ok at before = absurd a
    by_pair (Begin k) NotPublished a ok at before = quiet_pair h n ok at before
    by_pair (Begin k) (Begun m) a ok at before = λ c s. none_delivered k n c at.from s
    by_pair (Begin k) WantOfMemory a ok at before = quiet_pair h n ok at before
    by_pair (Begin k) r a ok at before = absurd a

-- a number was accepted exactly if it is above the start and was confirmed
abbrev Known : hist.History → ℕ → Type 0
Known h j = (hist.accepted_of h j ≡ true) ↔ ((hist.start_of h < j) × (is_confirmed h j ≡ true))

-- a delivery whose reply says that its number was accepted before, if it is above the start
told_pair : (h : hist.History) (k j : ℕ) → (hist.start_of h < k → hist.accepted_of h k ≡ true) → Known h j
    → (hist.accepted_of h j ≡ true) ↔ ((hist.start_of h < j) × (((k == j) || is_confirmed h j) ≡ true))
told_pair h k j was before = (
  λ has. (let both = before.0 has in (both.0, or_right (k == j) (is_confirmed h j) both.1)),
  λ both. elim (or_cases (k == j) (is_confirmed h j) both.1) [
    | inl is ↦ (let same : k ≡ j = eqb-true k j is in let above = both.0 in rw same at (was (omega arith)))
    | inr told ↦ before.1 (both.0, told)
  ],
)

-- a delivery that accepts its number, which is above the start
taken_pair : (h : hist.History) (k j : ℕ) → hist.start_of h < k → Known h j
    → (((k == j) || hist.accepted_of h j) ≡ true) ↔ ((hist.start_of h < j) × (((k == j) || is_confirmed h j) ≡ true))
taken_pair h k j above before = (
  λ has. elim (or_cases (k == j) (hist.accepted_of h j) has) [
    | inl is ↦ (let same : k ≡ j = eqb-true k j is in (omega arith, or_left (k == j) (is_confirmed h j) is))
    | inr was ↦ (let both = before.0 was in (both.0, or_right (k == j) (is_confirmed h j) both.1))
  ],
  λ both. elim (or_cases (k == j) (is_confirmed h j) both.1) [
    | inl is ↦ or_left (k == j) (hist.accepted_of h j) is
    | inr told ↦ or_right (k == j) (hist.accepted_of h j) (before.1 (both.0, told))
  ],
)

pub accepts_what_is_confirmed : (filter : FilterValue) (h : hist.History) (j : ℕ) → IsLegal filter h → Known h j
accepts_what_is_confirmed filter [] j legal = (λ has. absurd (let bad : false ≡ true = has in cc), λ both. both.1)
accepts_what_is_confirmed filter (p ∷ h) j legal =
    by_pair p.0 p.1 (legal_last filter h p.0 p.1 legal) (accepts_what_is_confirmed filter h j (legal_before filter h p.0 p.1 legal))
  where
    by_pair : (e : Event) (r : Reply) → Allowed filter h e r → Known h j → Known ((e, r) ∷ h) j
    by_pair (Edit c) Edited a before = before
    by_pair (Edit c) BatchFull a before = before
    by_pair (Edit c) WantOfMemory a before = before
    by_pair (Edit c) r a before = absurd a
    by_pair (Close t) (Closed m) a before = before
    by_pair (Close t) SequenceFull a before = before
    by_pair (Close t) TimeBack a before = before
    by_pair (Close t) TooLarge a before = before
    by_pair (Close t) WantOfMemory a before = before
    by_pair (Close t) r a before = absurd a
    by_pair (Deliver k form) NotPublished a before = before
    by_pair (Deliver k form) WantOfMemory a before = before
    by_pair (Deliver k form) Broken a before = before
    by_pair (Deliver k form) Old a before = told_pair h k j (λ above. a.1.number.all k above a.2) before
    by_pair (Deliver k form) Again a before = told_pair h k j (λ above. a.3) before
    by_pair (Deliver k form) TooEarly a before = before
    by_pair (Deliver k form) Held a before = taken_pair h k j (let from = a.1.is_open.number.from in let past = a.1.above in omega arith) before
    by_pair (Deliver k form) (Applied low high) a before = taken_pair h k j (let from = a.1.is_open.number.from in let past = a.1.above in omega arith) before
    by_pair (Deliver k form) Broke a before = before
    by_pair (Deliver k form) r a before = absurd a
    by_pair Show Broken a before = before
    by_pair Show (Shown v) a before = before
    by_pair Show WantOfMemory a before = before
    by_pair Show r a before = absurd a
    by_pair Save Broken a before = before
    by_pair Save (Saved m) a before = before
    by_pair Save WantOfMemory a before = before
    by_pair Save r a before = absurd a
    by_pair Restart (Restarted m) a before = (λ has. absurd (let bad : false ≡ true = has in cc), λ both. both.1)
    by_pair Restart WantOfMemory a before = before
    by_pair Restart r a before = absurd a
    by_pair (Begin k) NotPublished a before = before
    by_pair (Begin k) (Begun m) a before = (λ has. absurd (let bad : false ≡ true = has in cc), λ both. both.1)
    by_pair (Begin k) WantOfMemory a before = before
    by_pair (Begin k) r a before = absurd a
