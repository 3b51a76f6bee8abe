-- Numbers of one window that were all delivered, in any order, are reached.
use Rattle.std.proofs.Common.{◌≡◌, ℕ, ◌+◌, ◌<◌, ◌≤◌, [], ◌∷◌, ◌++◌, refl, sym, ◌∙◌, Bool, true, false, arith, inl, inr, append-nil}
use Rattle.std.specs.Prelude.{◌==◌, ◌||◌, Contains}
use Rattle.std.proofs.lemmas.Bool.{cases_lt, eq-eqb, or_left, or_right}
use Rattle.std.proofs.lemmas.List.Elements.{Contains-push_cases}
use Rattle.osm_model.specs.Filter.{FilterValue}
use Rattle.osm_world.specs.Deliveries.{delivered_of}
use Rattle.osm_world.specs.History as hist
use Rattle.osm_world.specs.Legal.{IsLegal, IsNumber, Allowed}
use Rattle.osm_world.specs.declared.event.Event.{Event}
use Rattle.osm_world.specs.declared.event.Event.TheVariants.{Begin, Edit, Close, Deliver, Show, Save, Restart}
use Rattle.osm_world.specs.declared.event.Reply.{Reply}
use Rattle.osm_world.specs.declared.event.Reply.TheVariants.{Edited, BatchFull, WantOfMemory, Closed, SequenceFull}
use Rattle.osm_world.specs.declared.event.Reply.TheVariants.{TimeBack, TooLarge, NotPublished, Broken, Old, Again}
use Rattle.osm_world.specs.declared.event.Reply.TheVariants.{TooEarly, Held, Applied, Broke, Shown, Saved, Restarted, Begun}
use Rattle.osm_world.proofs.ReportLemmas.{legal_before}

apart : (b : Bool) → b ≡ true → b ≡ false → ⊥
apart b is out = let bad : true ≡ false = sym is ∙ out in cc

-- a number that was delivered, and is among the 64 after the start, was accepted
abbrev Taken : hist.History → ℕ → Type 0
Taken h j = hist.is_broken h ≡ false → hist.start_of h < j → j ≤ hist.start_of h + 64 → Contains (delivered_of h) j → hist.accepted_of h j ≡ true

quiet_takes : (h : hist.History) (j : ℕ) → Taken h j → hist.is_broken h ≡ false → hist.start_of h < j
    → j ≤ hist.start_of h + 64 → Contains (delivered_of h ++ []) j → hist.accepted_of h j ≡ true
quiet_takes h j before ok above below is = before ok above below (rw append-nil at is)

-- a delivery that accepts nothing, of a number that was accepted if it is among the 64 after the
-- start
known_takes : (h : hist.History) (k j : ℕ) → (hist.start_of h < k → k ≤ hist.start_of h + 64
    → hist.accepted_of h k ≡ true) → Taken h j → hist.is_broken h ≡ false → hist.start_of h < j → j ≤ hist.start_of h
    + 64 → Contains (delivered_of h ++ k ∷ []) j → hist.accepted_of h j ≡ true
known_takes h k j was before ok above below is = elim (Contains-push_cases (delivered_of h) k j is) [
  | inl earlier ↦ before ok above below earlier
  | inr same ↦ rw same at (was (omega arith) (omega arith))
]

-- a delivery that accepts its number
new_takes : (h : hist.History) (k j : ℕ) → Taken h j → hist.is_broken h ≡ false → hist.start_of h < j
    → j ≤ hist.start_of h + 64 → Contains (delivered_of h ++ k ∷ []) j → ((k == j) || hist.accepted_of h j) ≡ true
new_takes h k j before ok above below is = elim (Contains-push_cases (delivered_of h) k j is) [
  | inl earlier ↦ or_right (k == j) (hist.accepted_of h j) (before ok above below earlier)
  | inr same ↦ or_left (k == j) (hist.accepted_of h j) (eq-eqb k j same)
]

delivered_is_taken : (filter : FilterValue) (h : hist.History) (j : ℕ) → IsLegal filter h → Taken h j
delivered_is_taken filter [] j legal = λ ok above below is. absurd (let short = is.1 in omega arith)
delivered_is_taken filter (p ∷ h) j legal = by_pair p.0 p.1 (legal.each [] h p.0 p.1 refl) (delivered_is_taken filter h j (legal_before filter h p.0 p.1 legal))
  where
    by_pair : (e : Event) (r : Reply) → Allowed filter h e r → Taken h j → Taken ((e, r) ∷ h) j
    by_pair (Edit c) Edited a before = quiet_takes h j before
    by_pair (Edit c) BatchFull a before = quiet_takes h j before
    by_pair (Edit c) WantOfMemory a before = quiet_takes h j before
    by_pair (Edit c) r a before = absurd a
    by_pair (Close t) (Closed m) a before = quiet_takes h j before
    by_pair (Close t) SequenceFull a before = quiet_takes h j before
    by_pair (Close t) TimeBack a before = quiet_takes h j before
    by_pair (Close t) TooLarge a before = quiet_takes h j before
    by_pair (Close t) WantOfMemory a before = quiet_takes h j before
    by_pair (Close t) r a before = absurd a
    by_pair (Deliver k form) NotPublished a before = quiet_takes h j before
    by_pair (Deliver k form) WantOfMemory a before = quiet_takes h j before
    by_pair (Deliver k form) Broken a before = λ ok above below is. absurd (apart (hist.is_broken h) a.2 ok)
    by_pair (Deliver k form) Old a before = known_takes h k j (λ above below. a.1.number.all k above a.2) before
    by_pair (Deliver k form) Again a before = known_takes h k j (λ above below. a.3) before
    by_pair (Deliver k form) TooEarly a before = known_takes h k j (λ above below. absurd (let far = a.2 in let from = a.1.number.from in omega arith)) before
    by_pair (Deliver k form) Held a before = new_takes h k j before
    by_pair (Deliver k form) (Applied low high) a before = new_takes h k j before
    by_pair (Deliver k form) Broke a before = λ ok above below is. absurd (apart true refl ok)
    by_pair (Deliver k form) r a before = absurd a
    by_pair Show Broken a before = quiet_takes h j before
    by_pair Show (Shown v) a before = quiet_takes h j before
    by_pair Show WantOfMemory a before = quiet_takes h j before
    by_pair Show r a before = absurd a
    by_pair Save Broken a before = quiet_takes h j before
    by_pair Save (Saved m) a before = quiet_takes h j before
    by_pair Save WantOfMemory a before = quiet_takes h j before
    by_pair Save r a before = absurd a
    by_pair Restart (Restarted m) a before = λ ok above below is. absurd (let short = is.1 in omega arith)
    by_pair Restart WantOfMemory a before = λ ok above below is. absurd (apart true refl ok)
    by_pair Restart r a before = absurd a
    by_pair (Begin k) NotPublished a before = quiet_takes h j before
    by_pair (Begin k) (Begun m) a before = λ ok above below is. absurd (let short = is.1 in omega arith)
    by_pair (Begin k) WantOfMemory a before = quiet_takes h j before
    by_pair (Begin k) r a before = absurd a

pub any_order : (filter : FilterValue) (h : hist.History) (n count : ℕ) → IsLegal filter h → hist.is_broken h ≡ false → IsNumber h n → count ≤ 64
    → ((j : ℕ) → hist.start_of h < j → j ≤ hist.start_of h + count → Contains (delivered_of h) j) → hist.start_of h
    + count ≤ n
any_order filter h n count legal ok number few all = elim (cases_lt n (hist.start_of h + count)) [
  | inr le ↦ le
  | inl less ↦ absurd (
      let from = number.from in
      let is : Contains (delivered_of h) (n + 1) = all (n + 1) (omega arith) (omega arith) in
      let has : hist.accepted_of h (n + 1) ≡ true = delivered_is_taken filter h (n + 1) legal ok (omega arith) (omega arith) is in
      apart (hist.accepted_of h (n + 1)) has number.next)
]
