-- What a legal history has reported as applied.
use Rattle.std.proofs.Common.{◌≡◌, ℕ, zero, suc, ◌+◌, ◌-◌, ◌<◌, [], ◌∷◌, ◌++◌, length, get_or, refl, ap, sym, ◌∙◌, Bool}
use Rattle.std.proofs.Common.{true, false, arith, append-nil, length-append, inl, inr, subst}
use Rattle.std.specs.Prelude.{◌==◌, ◌||◌}
use Rattle.std.proofs.lemmas.Bool.{cases_lt}
use Rattle.std.proofs.lemmas.List.{get_or_append_left, get_or-append-add}
use Rattle.osm_model.specs.Filter.{FilterValue}
use Rattle.osm_world.specs.Correct.{IsReported}
use Rattle.osm_world.specs.History as hist
use Rattle.osm_world.specs.Legal.{IsLegal, IsNumber, Allowed, AllowedDeliver}
use Rattle.osm_follow.specs.Reach.{Reaches, numbers}
use Rattle.osm_follow.proofs.ReachLemmas.{between-append}
use Rattle.osm_world.proofs.ReachLemmas.{one_reach, reaches_with_next, reaches_with_later}
use Rattle.osm_world.specs.declared.event.Event.{Event}
use Rattle.osm_world.specs.declared.event.Event.TheVariants.{Begin, Edit, Close, Deliver, Show, Save, Restart}
use Rattle.osm_world.specs.declared.event.Form.{Form}
use Rattle.osm_world.specs.declared.event.Reply.{Reply}
use Rattle.osm_world.specs.declared.event.Reply.TheVariants.{Edited, BatchFull, WantOfMemory, Closed, SequenceFull}
use Rattle.osm_world.specs.declared.event.Reply.TheVariants.{TimeBack, TooLarge, NotPublished, Broken, Old, Again}
use Rattle.osm_world.specs.declared.event.Reply.TheVariants.{TooEarly, Held, Applied, Broke, Shown, Saved, Restarted, Begun}

pub length-numbers : (n count : ℕ) → length (numbers n count) ≡ count
length-numbers n zero = refl
length-numbers n (suc count) = length-append (numbers n count) ((n + suc count) ∷ []) ∙ (let rest = length-numbers n count in omega arith)

pub get_or-numbers : (n count i : ℕ) → i < count → get_or (numbers n count) i 0 ≡ n + i + 1
get_or-numbers n zero i below = absurd (omega arith)
get_or-numbers n (suc count) i below =
    let many : length (numbers n count) ≡ count = length-numbers n count in
    elim (cases_lt i count) [
      | inl before ↦ get_or_append_left (numbers n count) ((n + suc count) ∷ []) 0 i (omega arith) ∙ get_or-numbers n count i before
      | inr after ↦ (
          let index : i ≡ length (numbers n count) + 0 = omega arith in
          let last : get_or (numbers n count ++ (n + suc count) ∷ []) i 0 ≡ n + suc count =
          ap (λ (j : ℕ). get_or (numbers n count ++ (n + suc count) ∷ []) j 0) index
          ∙ get_or-append-add (numbers n count) ((n + suc count) ∷ []) 0 0 in
          last ∙ omega arith)
    ]

pub legal_before : (filter : FilterValue) (h : hist.History) (e : Event) (r : Reply) → IsLegal filter ((e, r) ∷ h) → IsLegal filter h
legal_before filter h e r legal = record { each = λ later before d q is. legal.each ((e, r) ∷ later) before d q (ap (λ (x : hist.History). (e, r) ∷ x) is) }

-- what a pair that reports nothing leaves as it was
record IsSilent (h : hist.History) (e : Event) (r : Reply) : Type 0 where
  start : hist.start_of ((e, r) ∷ h) ≡ hist.start_of h
  broken : hist.is_broken ((e, r) ∷ h) ≡ hist.is_broken h
  accepted : hist.accepted_of ((e, r) ∷ h) ≡ hist.accepted_of h
  reported : hist.reported_of ((e, r) ∷ h) ≡ hist.reported_of h ++ []

silent : (h : hist.History) (e : Event) (r : Reply) → hist.start_of ((e, r) ∷ h) ≡ hist.start_of h
    → hist.is_broken ((e, r) ∷ h) ≡ hist.is_broken h → hist.accepted_of ((e, r) ∷ h) ≡ hist.accepted_of h
    → hist.reported_of ((e, r) ∷ h) ≡ hist.reported_of h ++ [] → IsSilent h e r
silent h e r a b c d = record { start = a; broken = b; accepted = c; reported = d }

quiet_reports : (h : hist.History) (e : Event) (r : Reply) (n : ℕ) → IsSilent h e r
    → (hist.is_broken h ≡ false → IsNumber h n → IsReported (hist.reported_of h) (hist.start_of h) n)
    → hist.is_broken ((e, r) ∷ h) ≡ false → IsNumber ((e, r) ∷ h) n → IsReported (hist.reported_of ((e, r) ∷ h))
    (hist.start_of ((e, r) ∷ h)) n
quiet_reports h e r n q before ok number =
    let from : Reaches (hist.accepted_of ((e, r) ∷ h)) (hist.start_of h) n = subst (λ (m : ℕ). Reaches (hist.accepted_of ((e, r) ∷ h)) m n) q.start number in
    let at : IsNumber h n = subst (λ (acc : ℕ → Bool). Reaches acc (hist.start_of h) n) q.accepted from in
    rw (q.start, q.reported, append-nil) (before (sym q.broken ∙ ok) at)

-- a pair that reports the next sequences
applied_reports : (h : hist.History) (k low high n : ℕ) (form : Form) → AllowedDeliver h k (Applied low high)
    → ((m : ℕ) → hist.is_broken h ≡ false → IsNumber h m → IsReported (hist.reported_of h) (hist.start_of h) m)
    → IsNumber ((Deliver k form, Applied low high) ∷ h) n
    → IsReported (hist.reported_of ((Deliver k form, Applied low high) ∷ h)) (hist.start_of h) n
applied_reports h k low high n form allowed before number =
    let m : ℕ = allowed.0 in
    let next : k ≡ m + 1 = allowed.2 in
    let low_is : low ≡ k = allowed.3 in
    let reach : Reaches (hist.accepted_of h) k high = allowed.4 in
    let from = reach.from in
    let here : IsNumber h m = allowed.1.is_open.number in
    let start = here.from in
    let p : IsReported (hist.reported_of h) (hist.start_of h) m = before m allowed.1.is_open.whole here in
    let number_is : m ≡ hist.start_of h + p.count = p.number_is in
    let reaches : Reaches (λ j. (k == j) || hist.accepted_of h j) (hist.start_of h) high =
    reaches_with_next (hist.accepted_of h) (hist.start_of h) m k high here next reach in
    let is : n ≡ high = one_reach (λ j. (k == j) || hist.accepted_of h j) (hist.start_of h) n high number reaches in
    let count : ℕ = high + 1 - low in
    let first : low - 1 ≡ hist.start_of h + p.count = omega arith in
    record {
      count = p.count + count;
      number_is = omega arith;
      reported_is = rw (p.reported_is, first) (between-append (λ j. j ∷ []) (hist.start_of h) p.count count);
    }

-- a pair that holds a sequence reports nothing, and leaves the number
held_reports : (h : hist.History) (k n : ℕ) (form : Form) → AllowedDeliver h k Held
    → ((m : ℕ) → hist.is_broken h ≡ false → IsNumber h m → IsReported (hist.reported_of h) (hist.start_of h) m)
    → IsNumber ((Deliver k form, Held) ∷ h) n → IsReported (hist.reported_of ((Deliver k form, Held) ∷ h))
    (hist.start_of h) n
held_reports h k n form allowed before number =
    let m : ℕ = allowed.0 in
    let here : IsNumber h m = allowed.1.is_open.number in
    let reaches : Reaches (λ j. (k == j) || hist.accepted_of h j) (hist.start_of h) m =
    reaches_with_later (hist.accepted_of h) (hist.start_of h) m k here allowed.2 in
    let is : n ≡ m = one_reach (λ j. (k == j) || hist.accepted_of h j) (hist.start_of h) n m number reaches in
    rw (is, append-nil) (before m allowed.1.is_open.whole here)

-- nothing is reported at the start
none_reported : (start n : ℕ) → Reaches (λ j. false) start n → IsReported [] start n
none_reported start n number = elim (cases_lt start n) [
  | inl above ↦ absurd (let yes : false ≡ true = number.all n above (omega arith) in cc)
  | inr none ↦ (let from = number.from in record { count = 0; number_is = omega arith; reported_is = refl })
]

pub reported_is : (filter : FilterValue) (h : hist.History) (n : ℕ) → IsLegal filter h → hist.is_broken h ≡ false → IsNumber h n
    → IsReported (hist.reported_of h) (hist.start_of h) n
reported_is filter [] n legal ok number = none_reported 0 n number
reported_is filter (p ∷ h) n legal ok number =
    by_pair p.0 p.1 (legal.each [] h p.0 p.1 refl) (λ m whole at. reported_is filter h m (legal_before filter h p.0 p.1 legal) whole at) ok number
  where
    by_pair : (e : Event) (r : Reply) → Allowed filter h e r → ((m : ℕ) → hist.is_broken h ≡ false → IsNumber h m
        → IsReported (hist.reported_of h) (hist.start_of h) m) → hist.is_broken ((e, r) ∷ h) ≡ false
        → IsNumber ((e, r) ∷ h) n → IsReported (hist.reported_of ((e, r) ∷ h)) (hist.start_of ((e, r) ∷ h)) n
    by_pair (Edit c) Edited allowed before whole at = quiet_reports h (Edit c) Edited n (silent h (Edit c) Edited refl refl refl refl) (before n) whole at
    by_pair (Edit c) BatchFull allowed before whole at =
        quiet_reports h (Edit c) BatchFull n (silent h (Edit c) BatchFull refl refl refl refl) (before n) whole at
    by_pair (Edit c) WantOfMemory allowed before whole at =
        quiet_reports h (Edit c) WantOfMemory n (silent h (Edit c) WantOfMemory refl refl refl refl) (before n) whole at
    by_pair (Edit c) r allowed before whole at = absurd allowed
    by_pair (Close t) (Closed m) allowed before whole at =
        quiet_reports h (Close t) (Closed m) n (silent h (Close t) (Closed m) refl refl refl refl) (before n) whole at
    by_pair (Close t) SequenceFull allowed before whole at = quiet_reports h (Close t) SequenceFull n
        (silent h (Close t) SequenceFull refl refl refl refl) (before n) whole at
    by_pair (Close t) TimeBack allowed before whole at =
        quiet_reports h (Close t) TimeBack n (silent h (Close t) TimeBack refl refl refl refl) (before n) whole at
    by_pair (Close t) TooLarge allowed before whole at =
        quiet_reports h (Close t) TooLarge n (silent h (Close t) TooLarge refl refl refl refl) (before n) whole at
    by_pair (Close t) WantOfMemory allowed before whole at = quiet_reports h (Close t) WantOfMemory n
        (silent h (Close t) WantOfMemory refl refl refl refl) (before n) whole at
    by_pair (Close t) r allowed before whole at = absurd allowed
    by_pair (Deliver k form) NotPublished allowed before whole at = quiet_reports h (Deliver k form) NotPublished n
        (silent h (Deliver k form) NotPublished refl refl refl refl) (before n) whole at
    by_pair (Deliver k form) Broken allowed before whole at = quiet_reports h (Deliver k form) Broken n
        (silent h (Deliver k form) Broken refl refl refl refl) (before n) whole at
    by_pair (Deliver k form) Old allowed before whole at =
        quiet_reports h (Deliver k form) Old n (silent h (Deliver k form) Old refl refl refl refl) (before n) whole at
    by_pair (Deliver k form) Again allowed before whole at = quiet_reports h (Deliver k form) Again n
        (silent h (Deliver k form) Again refl refl refl refl) (before n) whole at
    by_pair (Deliver k form) TooEarly allowed before whole at = quiet_reports h (Deliver k form) TooEarly n
        (silent h (Deliver k form) TooEarly refl refl refl refl) (before n) whole at
    by_pair (Deliver k form) WantOfMemory allowed before whole at = quiet_reports h (Deliver k form) WantOfMemory n
        (silent h (Deliver k form) WantOfMemory refl refl refl refl) (before n) whole at
    by_pair (Deliver k form) Held allowed before whole at = held_reports h k n form allowed before at
    by_pair (Deliver k form) (Applied low high) allowed before whole at = applied_reports h k low high n form allowed before at
    by_pair (Deliver k form) Broke allowed before whole at = cc
    by_pair (Deliver k form) r allowed before whole at = absurd allowed
    by_pair Show Broken allowed before whole at = quiet_reports h Show Broken n (silent h Show Broken refl refl refl refl) (before n) whole at
    by_pair Show (Shown v) allowed before whole at = quiet_reports h Show (Shown v) n (silent h Show (Shown v) refl refl refl refl) (before n) whole at
    by_pair Show WantOfMemory allowed before whole at = quiet_reports h Show WantOfMemory n (silent h Show WantOfMemory refl refl refl refl) (before n) whole at
    by_pair Show r allowed before whole at = absurd allowed
    by_pair Save Broken allowed before whole at = quiet_reports h Save Broken n (silent h Save Broken refl refl refl refl) (before n) whole at
    by_pair Save (Saved m) allowed before whole at = quiet_reports h Save (Saved m) n (silent h Save (Saved m) refl refl refl refl) (before n) whole at
    by_pair Save WantOfMemory allowed before whole at = quiet_reports h Save WantOfMemory n (silent h Save WantOfMemory refl refl refl refl) (before n) whole at
    by_pair Save r allowed before whole at = absurd allowed
    by_pair Restart (Restarted m) allowed before whole at = none_reported (hist.saved_of h) n at
    by_pair Restart WantOfMemory allowed before whole at = cc
    by_pair Restart r allowed before whole at = absurd allowed
    by_pair (Begin k) NotPublished allowed before whole at =
        quiet_reports h (Begin k) NotPublished n (silent h (Begin k) NotPublished refl refl refl refl) (before n) whole at
    by_pair (Begin k) (Begun m) allowed before whole at = none_reported k n at
    by_pair (Begin k) WantOfMemory allowed before whole at =
        quiet_reports h (Begin k) WantOfMemory n (silent h (Begin k) WantOfMemory refl refl refl refl) (before n) whole at
    by_pair (Begin k) r allowed before whole at = absurd allowed
