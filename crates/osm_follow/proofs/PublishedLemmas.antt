-- Published sequences, extended by more and taken one by one.
use Rattle.std.proofs.Common.{◌≡◌, ℕ, zero, suc, ◌+◌, ◌-◌, ◌<◌, ◌≤◌, List, [], ◌∷◌, ◌++◌, length, drop, take, get_or, refl}
use Rattle.std.proofs.Common.{ap, sym, ◌∙◌, Some, arith, append-nil, append_assoc, map, inl, inr, length-append}
use Rattle.std.specs.List.{flat_map}
use Rattle.std.proofs.lemmas.Grind.{flat_map-append}
use Rattle.std.proofs.lemmas.List.{drop-append-le, length-take-le, take_more, take-append-le, get_or_append_left, get_or-append-add, get_or-map}
use Rattle.std.proofs.lemmas.Bool.{cases_lt}
use Rattle.osm_model.specs.Change.{ChangeValue}
use Rattle.osm_follow.specs.Reach.{between}
use Rattle.osm_publisher.specs.Published.{PublishedValue, unpublished, no_texts, texts_at, written_of, IsSequence}
use Rattle.osm_publisher.specs.Published.{AreSequences, sequence_at, changes_after, changes_at, time_at, changes_up_to, last_time}

pub last_time-snoc : (ps : List PublishedValue) (p : PublishedValue) → last_time (ps ++ p ∷ []) ≡ p.time
last_time-snoc [] p = refl
last_time-snoc (q ∷ []) p = refl
last_time-snoc (q ∷ r ∷ ps) p = last_time-snoc (r ∷ ps) p

-- the texts of a sequence in the archive of all written texts
pub texts_at-written : (ps : List PublishedValue) (k : ℕ) → 0 < k → k ≤ length ps → texts_at (map written_of ps) k ≡ written_of (sequence_at ps k)
texts_at-written ps k above within = get_or-map written_of ps (k - 1) unpublished no_texts (omega arith)

pub sequence_within : (ps more : List PublishedValue) (k : ℕ) → 0 < k → k ≤ length ps → sequence_at (ps ++ more) k ≡ sequence_at ps k
sequence_within ps more k above within = get_or_append_left ps more unpublished (k - 1) (omega arith)

-- one more sequence
pub sequences-snoc : (ps : List PublishedValue) (p : PublishedValue) → AreSequences ps → IsSequence (length ps + 1) p → AreSequences (ps ++ p ∷ [])
sequences-snoc ps p each last k above within =
    let all : length (ps ++ p ∷ []) ≡ length ps + 1 = length-append ps (p ∷ []) in
    elim (cases_lt (length ps) k) [
      | inr below ↦ rw (sequence_within ps (p ∷ []) k above below) (each k above below)
      | inl past ↦ (
          let is : k ≡ length ps + 1 = omega arith in
          let index : length ps + 1 - 1 ≡ length ps + 0 = omega arith in
          let here : get_or (ps ++ p ∷ []) (length ps + 1 - 1) unpublished ≡ p = rw index (get_or-append-add ps (p ∷ []) 0 unpublished) in
          rw (is, here) last)
    ]

pub changes_within : (ps more : List PublishedValue) (n : ℕ) → n ≤ length ps → changes_up_to (ps ++ more) n ≡ changes_up_to ps n
changes_within ps more n h = ap (flat_map (λ (p : PublishedValue). p.changes)) (take-append-le n ps more h)

pub after_within : (ps more : List PublishedValue) (base n : ℕ) → n ≤ length ps → changes_after (ps ++ more) base n ≡ changes_after ps base n
after_within ps more base n h = ap (λ (qs : List PublishedValue). flat_map (λ (p : PublishedValue). p.changes) (drop base qs)) (take-append-le n ps more h)

pub time_within : (ps more : List PublishedValue) (n : ℕ) → n ≤ length ps → time_at (ps ++ more) n ≡ time_at ps n
time_within ps more zero h = refl
time_within ps more (suc n) h = ap (λ (p : PublishedValue). Some p.time) (sequence_within ps more (suc n) (omega arith) h)

pub changes_next : (ps : List PublishedValue) (n k : ℕ) → k ≡ n + 1 → k ≤ length ps → changes_up_to ps k ≡ changes_up_to ps n ++ changes_at ps k
changes_next ps n k e h =
    let index : k - 1 ≡ n = omega arith in
    let here : changes_at ps k ≡ (get_or ps n unpublished).changes = ap (λ (i : ℕ). (get_or ps i unpublished).changes) index in
    ap (changes_up_to ps) e
    ∙ (ap (flat_map (λ (p : PublishedValue). p.changes)) (take_more ps n unpublished (omega arith))
    ∙ (flat_map-append (λ (p : PublishedValue). p.changes) (take n ps) (get_or ps n unpublished ∷ [])
    ∙ (ap (λ (cs : List ChangeValue). changes_up_to ps n ++ cs) (append-nil (get_or ps n unpublished).changes ∙ sym here))))

-- after a base as well
pub after_next : (ps : List PublishedValue) (base n k : ℕ) → k ≡ n + 1 → base ≤ n → k ≤ length ps → changes_after ps base k ≡
    changes_after ps base n ++ changes_at ps k
after_next ps base n k e below h =
    let index : k - 1 ≡ n = omega arith in
    let here : changes_at ps k ≡ (get_or ps n unpublished).changes = ap (λ (i : ℕ). (get_or ps i unpublished).changes) index in
    let long : length (take n ps) ≡ n = length-take-le n ps (omega arith) in
    ap (changes_after ps base) e
    ∙ (ap (λ (qs : List PublishedValue). flat_map (λ (p : PublishedValue). p.changes) (drop base qs)) (take_more ps n unpublished (omega arith))
    ∙ (ap (flat_map (λ (p : PublishedValue). p.changes)) (drop-append-le base (take n ps) (get_or ps n unpublished ∷ []) (omega arith))
    ∙ (flat_map-append (λ (p : PublishedValue). p.changes) (drop base (take n ps)) (get_or ps n unpublished ∷ [])
    ∙ (ap (λ (cs : List ChangeValue). changes_after ps base n ++ cs) (append-nil (get_or ps n unpublished).changes ∙ sym here)))))

pub time_next : (ps : List PublishedValue) (n k : ℕ) → k ≡ n + 1 → time_at ps k ≡ Some (sequence_at ps k).time
time_next ps n zero e = absurd (omega arith)
time_next ps n (suc k) e = refl

pub after_run : (ps : List PublishedValue) (base n count : ℕ) → base ≤ n → n + count ≤ length ps → changes_after ps base (n + count) ≡
    changes_after ps base n ++ between (changes_at ps) n count
after_run ps base n zero below within = ap (changes_after ps base) (let same : n + 0 ≡ n = omega arith in same) ∙ sym (append-nil (changes_after ps base n))
after_run ps base n (suc count) below within =
    after_next ps base (n + count) (n + suc count) (omega arith) (omega arith) within
    ∙ (ap (λ (cs : List ChangeValue). cs ++ changes_at ps (n + suc count)) (after_run ps base n count below (omega arith))
    ∙ append_assoc (changes_after ps base n) (between (changes_at ps) n count) (changes_at ps (n + suc count)))
