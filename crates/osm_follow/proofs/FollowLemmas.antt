-- A follower that follows what was published, after more was published and after a delivery.
use Rattle.std.proofs.Common.{◌≡◌, ℕ, ◌+◌, ◌-◌, ◌<◌, ◌≤◌, List, [], ◌++◌, length, refl, ap, sym, ◌∙◌, Bool, true, false}
use Rattle.std.proofs.Common.{arith, Some, None, Option, append_assoc, length-append, inl, inr}
use Rattle.std.proofs.lemmas.Bool.{cases_eq, cases_lt, eq-eqb, ne_eqb, or_left, or_right}
use Rattle.std.specs.Option.{option_map_or}
use Rattle.std.specs.Prelude.{◌==◌, ◌||◌, if◌then◌else◌, Result, Ok, Err, is_some}
use Rattle.osm_model.specs.Change.{ChangeValue}
use Rattle.osm_model.specs.Filter.{FilterValue}
use Rattle.osm_state.specs.StateText.{StateOf}
use Rattle.osm_follow.specs.Delivery as table
use Rattle.osm_follow.specs.Follower.{FollowerValue, Follows, IsState, changes_held, held_at, is_held}
use Rattle.osm_publisher.specs.Published.{PublishedValue, AreSequences, sequence_at, changes_after, changes_at, changes_up_to}
use Rattle.osm_follow.specs.Reach.{Reaches, between}
use Rattle.osm_follow.specs.declared.delivery.Delivered.{Delivered}
use Rattle.osm_follow.specs.declared.delivery.Delivered.TheVariants.{Old, Again, Held, Applied}
use Rattle.osm_follow.specs.declared.delivery.DeliverError.{DeliverError}
use Rattle.osm_follow.specs.declared.delivery.DeliverError.TheVariants.{Broken, BadState, BadSequence, TooEarly, BadChange, WantOfMemory, Broke}
use Rattle.osm_follow.proofs.DeliveryLemmas.{OneBatch, NoFaultBeside, FollowerStep, read_as, state_of}
use Rattle.osm_follow.proofs.ReachLemmas.{between_same, reaches_same}
use Rattle.osm_mirror.proofs.MirrorLemmas.{mirror_grown}
use Rattle.osm_follow.proofs.PublishedLemmas.{after_next, after_run, after_within, changes_within, sequence_within, time_within, time_next}

-- above its number a follower holds exactly what was accepted
pub held_accepted : (by : FilterValue) (ps : List PublishedValue) (base start : ℕ) (acc : ℕ → Bool) (f : FollowerValue) → IsState by ps base start acc f
    → (j : ℕ) → f.number < j → is_held f j ≡ acc j
held_accepted by ps base start acc f s j past = ap is_some (s.held j past) ∙ by_test (acc j)
  where
    by_test : (b : Bool) → is_some (if b then Some (sequence_at ps j) else None) ≡ b
    by_test true = refl
    by_test false = refl

-- so the held numbers reach as far as the accepted ones
pub reaches_accepted : (by : FilterValue) (ps : List PublishedValue) (base start : ℕ) (acc : ℕ → Bool) (f : FollowerValue) (k high : ℕ)
    → IsState by ps base start acc f → f.number < k → Reaches (is_held f) k high → Reaches acc k high
reaches_accepted by ps base start acc f k high s above r =
    reaches_same (is_held f) acc k high (λ j past. held_accepted by ps base start acc f s j (omega arith)) r

-- a number for which nothing is held
none_held : (f : FollowerValue) (j : ℕ) → ((p : PublishedValue) → held_at f j ≡ Some p → ⊥) → held_at f j ≡ None
none_held f j none = by_case (held_at f j) refl
  where
    by_case : (o : Option PublishedValue) → held_at f j ≡ o → o ≡ None
    by_case None e = refl
    by_case (Some p) e = absurd (none p e)

-- what a follower holds is what was published
record HoldsAsPublished (ps : List PublishedValue) (f : FollowerValue) (j : ℕ) : Type 0 where
  there : j ≤ length ps
  is : held_at f j ≡ Some (sequence_at ps j)

held_as : (ps : List PublishedValue) (f : FollowerValue) (j : ℕ) → Follows ps f → is_held f j ≡ true → HoldsAsPublished ps f j
held_as ps f j s has = by_case (held_at f j) refl
  where
    by_case : (o : Option PublishedValue) → held_at f j ≡ o → HoldsAsPublished ps f j
    by_case None e = absurd (let bad : true ≡ false = sym has ∙ ap is_some e in cc)
    by_case (Some p) e = (let h = s.held j p e in record { there = h.2; is = e ∙ ap (λ (q : PublishedValue). Some q) h.3 })

pub follows_grown : (ps more : List PublishedValue) (f : FollowerValue) → Follows ps f → Follows (ps ++ more) f
follows_grown ps more f s = record {
  base = s.base;
  within = rw length-append (let w = s.within in omega arith);
  mirror = rw (changes_within ps more f.number s.within, after_within ps more f.base f.number s.within) s.mirror;
  time = s.time ∙ sym (time_within ps more f.number s.within);
  held = λ j p e. (let h = s.held j p e in
      let past : f.number + 1 < j = h.0 in
      let there : j ≤ length ps = h.2 in
      (h.0, h.1, rw length-append (omega arith), h.3 ∙ sym (sequence_within ps more j (omega arith) there)));
}

pub follows_held : (ps : List PublishedValue) (k : ℕ) (f g : FollowerValue) → Follows ps f → f.number + 1 < k
    → k ≤ f.number + 64 → k ≤ length ps → (sequence_at ps k).number ≡ k → table.Holds f (sequence_at ps k) g
    → Follows ps g
follows_held ps k f g s early within there number h =
    let same : g.number ≡ f.number = ap (λ (x : FollowerValue). x.number) h.rest in
    let base : g.base ≡ f.base = ap (λ (x : FollowerValue). x.base) h.rest in
    let by : g.filter ≡ f.filter = ap (λ (x : FollowerValue). x.filter) h.rest in
    let mirror : g.mirror ≡ f.mirror = ap (λ (x : FollowerValue). x.mirror) h.rest in
    let time : g.time ≡ f.time = ap (λ (x : FollowerValue). x.time) h.rest in
    record {
      base = rw (same, base) s.base;
      within = rw same s.within;
      mirror = rw (same, base, by, mirror) s.mirror;
      time = rw (same, time) s.time;
      held = λ j p e. elim (cases_eq j k) [
        | inl is ↦ (let here : held_at g k ≡ Some (sequence_at ps k) = rw number at h.here in
            let both : Some (sequence_at ps k) ≡ Some p = sym here ∙ rw is at e in
            let p_is : sequence_at ps k ≡ p = cc in
            rw (same, is) (early, within, there, sym p_is))
        | inr apart ↦ rw same (s.held j p (sym (h.others j (λ d. apart (d ∙ number))) ∙ e))
      ];
    }

pub follows_taken : (ps : List PublishedValue) (k high : ℕ) (f g : FollowerValue) → Follows ps f → k ≡ f.number + 1
    → k ≤ length ps → (sequence_at ps k).number ≡ k → table.Takes f (sequence_at ps k) high g → Follows ps g
follows_taken ps k high f g s next there number t =
    let from : k ≤ high = rw number at t.reach.from in
    let high_is : high ≡ k + t.count = rw number at t.high_is in
    let each : (j : ℕ) → k < j → j ≤ high → HoldsAsPublished ps f j = λ j above below. held_as ps f j s (t.reach.all j (rw number above) below) in
    let within : high ≤ length ps = elim (cases_lt k high) [
      | inl past ↦ (let last = each high past (omega arith) in last.there)
      | inr same ↦ omega arith
    ] in
    let changes : between (changes_held f) k t.count ≡ between (changes_at ps) k t.count =
    between_same (changes_held f) (changes_at ps) k t.count
    (λ j above below. ap (λ (o : Option PublishedValue). option_map_or (λ (p : PublishedValue). p.changes) o [])
    (each j above (omega arith)).is) in
    let below : f.base ≤ f.number = s.base in
    let joined : (base : ℕ) → base ≤ f.number → changes_after ps base high ≡ changes_after ps base f.number
    ++ (changes_at ps k ++ between (changes_held f) k t.count) =
    λ base under. ap (changes_after ps base) high_is
    ∙ (after_run ps base k t.count (omega arith) (omega arith)
    ∙ (ap (λ (cs : List ChangeValue). cs ++ between (changes_at ps) k t.count) (after_next ps base f.number k next under there)
    ∙ (append_assoc (changes_after ps base f.number) (changes_at ps k) (between (changes_at ps) k t.count)
    ∙ ap (λ (cs : List ChangeValue). changes_after ps base f.number ++ (changes_at ps k ++ cs)) (sym changes)))) in
    let time : (option_map_or (λ (p : PublishedValue). p.time) (held_at f high) (sequence_at ps k).time) ≡ (sequence_at ps high).time = elim (cases_lt k high) [
      | inl past ↦ ap (λ (o : Option PublishedValue). option_map_or (λ (p : PublishedValue). p.time) o
          (sequence_at ps k).time) (each high past (omega arith)).is
      | inr until ↦ (let same : high ≡ k = omega arith in
          rw same (ap (λ (o : Option PublishedValue). option_map_or (λ (p : PublishedValue). p.time) o
          (sequence_at ps k).time) (none_held f k (λ p e. (let past = (s.held k p e).0 in omega arith)))))
    ] in
    record {
      base = rw (t.number, t.base) (let from_it : k ≤ high = from in omega arith);
      within = rw t.number within;
      mirror = rw (t.number, t.base, t.same_filter, joined 0 (omega arith), joined f.base s.base) (mirror_grown f.filter f.mirror g.mirror
          (changes_up_to ps f.number) (changes_after ps f.base f.number)
          (changes_at ps k ++ between (changes_held f) k t.count) s.mirror (rw number at t.applied));
      time = t.time ∙ (ap (λ (n : ℕ). Some n) time ∙ rw t.number (sym (time_next ps (high - 1) high (omega arith))));
      held = λ j p e. elim (cases_lt high j) [
        | inr below ↦ absurd (let bad : Some p ≡ None = sym e ∙ t.gone j below in cc)
        | inl past ↦ (let was : held_at f j ≡ Some p = sym (t.rest j past) ∙ e in
            let h = s.held j p was in
            let within_it : j ≤ f.number + 64 = h.1 in
            let apart : j ≡ high + 1 → ⊥ = λ is. (let bad : true ≡ false = sym (ap is_some was) ∙ (ap (is_held f) is ∙ t.reach.next) in cc) in
            let above : high + 1 < j = elim (cases_eq j (high + 1)) [ inl is ↦ absurd (apart is) | inr ne ↦ omega arith ] in
            rw t.number (above, (let top : j ≤ high + 64 = omega arith in top), h.2, h.3))
      ];
    }

-- what a follower is after it has accepted one more number
state_parts : (by : FilterValue) (ps : List PublishedValue) (base start : ℕ) (acc more : ℕ → Bool) (k : ℕ) (f g : FollowerValue)
    → IsState by ps base start acc f → g.base ≡ f.base → g.filter ≡ f.filter → ((j : ℕ) → more j ≡ ((k == j) || acc j)) → f.number < k → Follows ps g
    → f.number ≤ g.number → ((j : ℕ) → f.number < j → j ≤ g.number → more j ≡ true) → more (g.number + 1) ≡ false
    → ((j : ℕ) → g.number < j → held_at g j ≡ (if more j then Some (sequence_at ps j) else None))
    → IsState by ps base start more g
state_parts by ps base start acc more k f g s same by_it is above follows onward all next held =
    let from = s.reach.from in
    record {
      filter_is = by_it ∙ s.filter_is;
      base_is = same ∙ s.base_is;
      reach = record {
        from = omega arith;
        all = λ j past below. elim (cases_lt f.number j) [
          | inl later ↦ all j later below
          | inr earlier ↦ is j ∙ or_right (k == j) (acc j) (s.reach.all j past earlier)
        ];
        next = next;
      };
      follows = follows;
      held = held;
    }

-- the number that was accepted, and the others
more_here : (acc more : ℕ → Bool) (k j : ℕ) → ((i : ℕ) → more i ≡ ((k == i) || acc i)) → k ≡ j → more j ≡ true
more_here acc more k j is same = is j ∙ or_left (k == j) (acc j) (eq-eqb k j same)

more_other : (acc more : ℕ → Bool) (k j : ℕ) → ((i : ℕ) → more i ≡ ((k == i) || acc i)) → (k ≡ j → ⊥) → more j ≡ acc j
more_other acc more k j is apart = is j ∙ ap (λ (b : Bool). b || acc j) (ne_eqb k j apart)

pub state_held : (by : FilterValue) (ps : List PublishedValue) (base start : ℕ) (acc more : ℕ → Bool) (k : ℕ) (f g : FollowerValue)
    → IsState by ps base start acc f → ((j : ℕ) → more j ≡ ((k == j) || acc j)) → f.number + 1 < k → k ≤ f.number + 64
    → k ≤ length ps → (sequence_at ps k).number ≡ k → table.Holds f (sequence_at ps k) g → IsState by ps base start more g
state_held by ps base start acc more k f g s is early within there number h =
    let same : g.number ≡ f.number = ap (λ (x : FollowerValue). x.number) h.rest in
    state_parts by ps base start acc more k f g s (ap (λ (x : FollowerValue). x.base) h.rest)
    (ap (λ (x : FollowerValue). x.filter) h.rest) is (omega arith)
    (follows_held ps k f g s.follows early within there number h) (omega arith)
    (λ j above below. absurd (omega arith))
    (rw same (more_other acc more k (f.number + 1) is (λ e. omega arith) ∙ s.reach.next))
    (λ j past. elim (cases_eq k j) [
      | inl here ↦ (let held : held_at g k ≡ Some (sequence_at ps k) = rw number at h.here in
          let has : more k ≡ true = more_here acc more k k is refl in
          rw (← here, has) held)
      | inr apart ↦ (let was : more j ≡ acc j = more_other acc more k j is apart in
          rw was (h.others j (λ d. apart (sym (d ∙ number))) ∙ s.held j (omega arith)))
    ])

pub state_taken : (by : FilterValue) (ps : List PublishedValue) (base start : ℕ) (acc more : ℕ → Bool) (k high : ℕ) (f g : FollowerValue)
    → IsState by ps base start acc f → ((j : ℕ) → more j ≡ ((k == j) || acc j)) → k ≡ f.number + 1 → k ≤ length ps
    → (sequence_at ps k).number ≡ k → table.Takes f (sequence_at ps k) high g → IsState by ps base start more g
state_taken by ps base start acc more k high f g s is next there number t =
    let reach : Reaches acc k high = reaches_accepted by ps base start acc f k high s (omega arith) (rw number at t.reach) in
    let from = reach.from in
    let at : g.number ≡ high = t.number in
    state_parts by ps base start acc more k f g s t.base t.same_filter is (omega arith)
    (follows_taken ps k high f g s.follows next there number t) (omega arith)
    (λ j above below. elim (cases_eq k j) [
      | inl here ↦ more_here acc more k j is here
      | inr apart ↦ more_other acc more k j is apart ∙ reach.all j (omega arith) (omega arith)
    ])
    (rw at (more_other acc more k (high + 1) is (λ e. omega arith) ∙ reach.next))
    (λ j past. (let was : more j ≡ acc j = more_other acc more k j is (λ e. omega arith) in
    rw was (t.rest j (omega arith) ∙ s.held j (omega arith))))

-- a follower stays in step, unless the answer is that it broke
pub follows_kept : (spells : table.Spelling) (fault_place : table.FaultPlaces) → OneBatch spells → NoFaultBeside
    → (ps : List PublishedValue) (f g : FollowerValue) (k : ℕ) (state bytes : List ℕ)
    (answer : Result Delivered DeliverError) → AreSequences ps → Follows ps f → 0 < k → k ≤ length ps
    → StateOf state (record { sequence = k; time = (sequence_at ps k).time }) → spells bytes (changes_at ps k)
    → table.Delivers spells fault_place f state bytes answer g → (answer ≡ Err Broke → ⊥) → Follows ps g
follows_kept spells fp one apart ps f g k state bytes answer each s above there names spelled d whole =
    let above_it : 0 < (sequence_at ps k).number = rw number above in
    let named : StateOf state (state_of (sequence_at ps k)) = rw number names in
    by_answer answer whole (read_as spells fp one apart f g state bytes (sequence_at ps k) above_it named spelled answer d)
  where
    number : (sequence_at ps k).number ≡ k
    number = (each k above there).number_is

    same : g ≡ f → Follows ps g
    same e = rw e s

    by_answer : (a : Result Delivered DeliverError) → (a ≡ Err Broke → ⊥) → FollowerStep f (sequence_at ps k) a g → Follows ps g
    by_answer (Err Broken) w t = same t.1
    by_answer (Err (BadState e)) w t = absurd t
    by_answer (Err BadSequence) w t = absurd t
    by_answer (Err TooEarly) w t = same t.3
    by_answer (Err (BadChange e)) w t = same t.1
    by_answer (Err WantOfMemory) w t = same t.2
    by_answer (Err Broke) w t = absurd (w refl)
    by_answer (Ok Old) w t = same t.2
    by_answer (Ok Again) w t = same t.3
    by_answer (Ok Held) w t = follows_held ps k f g s (rw number at t.1) (rw number at t.0.within) there number t.2
    by_answer (Ok (Applied low high)) w t = follows_taken ps k high f g s (sym number ∙ t.1) there number t.3

-- no answer changes the filter
pub delivers_under_it : (spells : table.Spelling) (fault_place : table.FaultPlaces) (f g : FollowerValue) (state bytes : List ℕ)
    (answer : Result Delivered DeliverError) → table.Delivers spells fault_place f state bytes answer g → g.filter ≡ f.filter
delivers_under_it spells fp f g state bytes (Ok Held) d = ap (λ (x : FollowerValue). x.filter) d.6.rest
delivers_under_it spells fp f g state bytes (Ok (Applied low high)) d = d.7.same_filter
delivers_under_it spells fp f g state bytes (Ok Old) d = ap (λ (x : FollowerValue). x.filter) d.1
delivers_under_it spells fp f g state bytes (Ok Again) d = ap (λ (x : FollowerValue). x.filter) d.1
delivers_under_it spells fp f g state bytes (Err Broke) d = ap (λ (x : FollowerValue). x.filter) d.6.rest
delivers_under_it spells fp f g state bytes (Err (BadChange e)) d = ap (λ (x : FollowerValue). x.filter) d.3
delivers_under_it spells fp f g state bytes (Err WantOfMemory) d = ap (λ (x : FollowerValue). x.filter) d.4
delivers_under_it spells fp f g state bytes (Err Broken) d = ap (λ (x : FollowerValue). x.filter) d.1
delivers_under_it spells fp f g state bytes (Err (BadState e)) d = ap (λ (x : FollowerValue). x.filter) d.1
delivers_under_it spells fp f g state bytes (Err BadSequence) d = ap (λ (x : FollowerValue). x.filter) d.1
delivers_under_it spells fp f g state bytes (Err TooEarly) d = ap (λ (x : FollowerValue). x.filter) d.1
