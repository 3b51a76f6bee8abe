-- A step's reply is allowed by the history before it.
use Rattle.std.proofs.Common.{refl, ◌≡◌, ℕ, ◌+◌, ◌<◌, ◌≤◌, List, [], ◌∷◌, ◌++◌, length, ap, sym, ◌∙◌, false, arith, length-append}
use Rattle.std.specs.Prelude.{Ok, Err}
use Rattle.std.specs.Ordering.{nat_cmp}
use Rattle.std.specs.Prelude.{IsSome, None, Some, Option}
use Rattle.std.specs.List.Sorted.{IsStrictlySortedBy}
use Rattle.std.specs.Option.{option_map}
use Rattle.osm_model.specs.Change.{ChangeValue}
use Rattle.osm_model.specs.Filter.{FilterValue}
use Rattle.osm_world.specs.Correct.{IsInStep}
use Rattle.osm_follow.specs.Follower.{IsState, changes_held, held_at, is_held}
use Rattle.osm_world.specs.History as hist
use Rattle.osm_world.specs.Legal.{IsOpen, IsWanted, HasChanges, Allowed, IsLegal}
use Rattle.osm_follow.specs.Delivery.{Breaks}
use Rattle.osm_publisher.specs.Published.{IsSequence, PublishedValue, changes_at, sequence_at}
use Rattle.osm_publisher.specs.Publisher.{PublisherValue}
use Rattle.osm_follow.specs.Reach.{Reaches, between}
use Rattle.osm_world.specs.Step as step
use Rattle.osm_follow.specs.View.{ViewValue, IsView, view_of}
use Rattle.osm_world.specs.World.{WorldValue}
use Rattle.osm_follow.specs.declared.delivery.Delivered.TheVariants as answers
use Rattle.osm_follow.specs.declared.delivery.DeliverError.TheVariants as errors
use Rattle.osm_world.specs.declared.event.Event.{Event}
use Rattle.osm_world.specs.declared.event.Event.TheVariants.{Begin, Edit, Close, Deliver, Show, Save, Restart}
use Rattle.osm_world.specs.declared.event.Reply.{Reply}
use Rattle.osm_world.specs.declared.event.Reply.TheVariants.{Edited, BatchFull, WantOfMemory, Closed, SequenceFull}
use Rattle.osm_world.specs.declared.event.Reply.TheVariants.{TimeBack, TooLarge, NotPublished, Broken, Old, Again}
use Rattle.osm_world.specs.declared.event.Reply.TheVariants.{TooEarly, Held, Applied, Broke, Shown, Saved, Restarted, Begun}
use Rattle.osm_holding.proofs.AreaLemmas.{exactly_held}
use Rattle.osm_holding.specs.Holding as area
use Rattle.osm_holding.specs.declared.holding.Held as kept
use Rattle.osm_follow.proofs.DeliveryLemmas.{FollowerStep, IsDueAt}
use Rattle.osm_follow.proofs.FollowLemmas.{held_accepted, reaches_accepted}
use Rattle.osm_world.proofs.StateLemmas.{fresh_is_unaccepted, held_was_accepted, joined_is}
use Rattle.osm_world.proofs.StepLemmas.{AreLawful, OneSave, StartsAt, delivered_as, published_at, refused_from, restarted_as}

whole_of : (filter : FilterValue) (h : hist.History) (a : WorldValue) → IsInStep filter h a → a.follower.is_broken ≡ false → hist.is_broken h ≡ false
whole_of filter h a s whole = sym s.broken ∙ whole

state_of : (filter : FilterValue) (h : hist.History) (a : WorldValue) → IsInStep filter h a → a.follower.is_broken ≡ false
    → IsState filter (hist.published_of h) (hist.base_of h) (hist.start_of h) (hist.accepted_of h) a.follower
state_of filter h a s whole = s.state (whole_of filter h a s whole)

published_is : (filter : FilterValue) (h : hist.History) (a : WorldValue) → IsInStep filter h a → a.publisher.number ≡ length (hist.published_of h)
published_is filter h a s = ap (λ (p : PublisherValue). p.number) s.publisher

pending_is : (filter : FilterValue) (h : hist.History) (a : WorldValue) → IsInStep filter h a → a.publisher.pending ≡ hist.pending_of h
pending_is filter h a s = ap (λ (p : PublisherValue). p.pending) s.publisher

open_of : (filter : FilterValue) (h : hist.History) (a : WorldValue) (k : ℕ) → IsInStep filter h a → 0 < k → k ≤ a.publisher.number
    → a.follower.is_broken ≡ false → IsOpen h k a.follower.number
open_of filter h a k s above there whole = record {
  above = above;
  there = (let n : a.publisher.number ≡ length (hist.published_of h) = published_is filter h a s in rw n at there);
  whole = whole_of filter h a s whole;
  number = (let state = state_of filter h a s whole in state.reach);
}

-- the sequence that is delivered is wanted
wanted_of : (filter : FilterValue) (h : hist.History) (a : WorldValue) (k : ℕ) → IsInStep filter h a → 0 < k → k ≤ a.publisher.number
    → IsDueAt a.follower (sequence_at (hist.published_of h) k).number → IsWanted h k a.follower.number
wanted_of filter h a k s above there t =
    let is : IsSequence k (sequence_at (hist.published_of h) k) = published_at filter h a k s above there in
    let number_is : (sequence_at (hist.published_of h) k).number ≡ k = is.number_is in
    let past : a.follower.number < k = rw number_is at t.above in
    record {
      is_open = open_of filter h a k s above there t.whole;
      above = past;
      within = rw number_is at t.within;
      fresh = fresh_is_unaccepted filter (hist.published_of h) (hist.base_of h) (hist.start_of h) (hist.accepted_of h) a.follower
          (state_of filter h a s t.whole) k past (rw number_is at t.fresh);
    }

some_of : (cs before after : List ChangeValue) (c : ChangeValue) → cs ≡ before ++ c ∷ after → 0 < length cs
some_of cs before after c e = let many : length (before ++ c ∷ after) ≡ length before + length (c ∷ after) =
    length-append before (c ∷ after) in omega (arith, ap length e)

-- an application that stopped part-way had a change to apply
work_of : (filter : FilterValue) (h : hist.History) (a b : WorldValue) (k : ℕ) → IsInStep filter h a → a.follower.is_broken ≡ false
    → a.follower.number < k → (sequence_at (hist.published_of h) k).number ≡ k
    → Breaks a.follower (sequence_at (hist.published_of h) k) b.follower → HasChanges h k
work_of filter h a b k s whole past number_is t =
    let ps : List PublishedValue = hist.published_of h in
    let state : IsState filter ps (hist.base_of h) (hist.start_of h) (hist.accepted_of h) a.follower = state_of filter h a s whole in
    let high_is : t.high ≡ k + t.count = rw number_is at t.high_is in
    let held_reach : Reaches (is_held a.follower) k t.high = rw number_is at t.reach in
    let joined : between (changes_held a.follower) (sequence_at ps k).number t.count ≡ between (changes_at ps) k t.count =
    rw number_is (joined_is filter ps (hist.base_of h) (hist.start_of h) (hist.accepted_of h) a.follower k t.high t.count state past high_is held_reach) in
    let some : 0 < length (changes_at ps k ++ between (changes_held a.follower) (sequence_at ps k).number t.count) =
    some_of _ t.needs.before t.needs.after t.needs.change t.needs.is in
    record {
      count = t.count;
      reach = rw (← high_is) (reaches_accepted filter ps (hist.base_of h) (hist.start_of h) (hist.accepted_of h) a.follower k t.high state past held_reach);
      some = rw joined at some;
    }

view_is : (filter : FilterValue) (h : hist.History) (a : WorldValue) (v : ViewValue) → IsInStep filter h a → a.follower.is_broken ≡ false
    → v ≡ view_of a.follower → IsStrictlySortedBy nat_cmp v.held → IsView filter (hist.published_of h) (hist.base_of h) (hist.start_of h)
    (hist.accepted_of h) v
view_is filter h a v s whole is rising = rw is (record {
  base_is = state.base_is;
  below = rw state.base_is at state.follows.base;
  reach = state.reach;
  time = state.follows.time;
  mirror = rw (state.base_is, s.filter_is) at state.follows.mirror;
  rising = rw is at rising;
  held = λ j. (
    λ has. (
        let there : IsSome (held_at a.follower j) = shown j ((exactly_held a.follower.holding j).0 has) in
        let past : a.follower.number < j = above j there in
        (past, held_was_accepted filter (hist.published_of h) (hist.base_of h) (hist.start_of h) (hist.accepted_of h) a.follower state j past there)),
    λ both. (exactly_held a.follower.holding j).1
        (told j (held_accepted filter (hist.published_of h) (hist.base_of h) (hist.start_of h) (hist.accepted_of h) a.follower state j both.0
        ∙ both.1)),
  );
})
  where
    state : IsState filter (hist.published_of h) (hist.base_of h) (hist.start_of h) (hist.accepted_of h) a.follower
    state = state_of filter h a s whole

    shown : (j : ℕ) → IsSome (area.held_at a.follower.holding j) → IsSome (held_at a.follower j)
    shown j has = by_case (area.held_at a.follower.holding j) has
      where
        by_case : (o : Option kept.Held) → IsSome o
            → IsSome (option_map (λ x. let p : PublishedValue = record {
              number = j;
              changes = x.batch;
              time =
                  x.time;
            } in p) o)
        by_case (Some x) t = refl
        by_case None t = cc

    told : (j : ℕ) → IsSome (held_at a.follower j) → IsSome (area.held_at a.follower.holding j)
    told j has = by_case (area.held_at a.follower.holding j) has
      where
        by_case : (o : Option kept.Held)
            → IsSome (option_map (λ x. let p : PublishedValue = record {
              number = j;
              changes = x.batch;
              time =
                  x.time;
            } in p) o) → IsSome o
        by_case (Some x) t = refl
        by_case None t = cc

    above : (j : ℕ) → IsSome (held_at a.follower j) → a.follower.number < j
    above j has = by_case (held_at a.follower j) refl has
      where
        by_case : (o : Option PublishedValue) → held_at a.follower j ≡ o → IsSome o → a.follower.number < j
        by_case (Some p) e t = (let old = (state.follows.held j p e).0 in omega arith)
        by_case None e t = cc

pub step_allowed : AreLawful → OneSave → (filter : FilterValue) (h : hist.History) (e : Event) (r : Reply) (a b : WorldValue) → IsInStep filter h a
    → step.Step a e r b → Allowed filter h e r
step_allowed laws one filter h (Edit c) Edited a b s t = (let cs : a.publisher.pending ≡ hist.pending_of h = pending_is filter h a s in rw cs at t.0)
step_allowed laws one filter h (Edit c) BatchFull a b s t = (let cs : a.publisher.pending ≡ hist.pending_of h = pending_is filter h a s in rw cs at t.0)
step_allowed laws one filter h (Edit c) WantOfMemory a b s t = (let cs : a.publisher.pending ≡ hist.pending_of h = pending_is filter h a s in rw cs at t.0)
step_allowed laws one filter h (Edit c) r a b s t = absurd t
step_allowed laws one filter h (Close m) (Closed n) a b s t = (
  rw s.publisher at t.0,
  (let cs : a.publisher.pending ≡ hist.pending_of h = pending_is filter h a s in rw cs at t.2),
  t.3
      ∙ ap (λ (k : ℕ). k + 1) (published_is filter h a s),
)
step_allowed laws one filter h (Close m) SequenceFull a b s t =
    (let n : a.publisher.number ≡ length (hist.published_of h) = published_is filter h a s in rw n at t.0)
step_allowed laws one filter h (Close m) TimeBack a b s t = (
  (let n : a.publisher.number ≡ length (hist.published_of h) = published_is filter h a s in rw n at t.0),
  rw s.publisher at t.1,
)
step_allowed laws one filter h (Close m) TooLarge a b s t =
    (rw s.publisher at t.0, (let cs : a.publisher.pending ≡ hist.pending_of h = pending_is filter h a s in rw cs at t.1))
step_allowed laws one filter h (Close m) WantOfMemory a b s t = rw s.publisher at t.0
step_allowed laws one filter h (Close m) r a b s t = absurd t
step_allowed laws one filter h (Deliver k form) NotPublished a b s t =
    (let n : a.publisher.number ≡ length (hist.published_of h) = published_is filter h a s in rw n at t.0)
step_allowed laws one filter h (Deliver k form) Broken a b s t = (
  t.above,
  (let n : a.publisher.number ≡ length (hist.published_of h) = published_is filter h a s in rw n at t.there),
  sym s.broken ∙ t.replies.0,
)
step_allowed laws one filter h (Deliver k form) Old a b s t =
    let is : IsSequence k (sequence_at (hist.published_of h) k) = published_at filter h a k s t.above t.there in
    let d : FollowerStep a.follower (sequence_at (hist.published_of h) k) (Ok answers.Old) b.follower =
    delivered_as laws filter h a b k form (Ok answers.Old) s t.above t.there t.replies in
    (a.follower.number, open_of filter h a k s t.above t.there d.0, (let n = is.number_is in let below = d.1 in omega arith))
step_allowed laws one filter h (Deliver k form) Again a b s t =
    let is : IsSequence k (sequence_at (hist.published_of h) k) = published_at filter h a k s t.above t.there in
    let number : (sequence_at (hist.published_of h) k).number ≡ k = is.number_is in
    let d : FollowerStep a.follower (sequence_at (hist.published_of h) k) (Ok answers.Again) b.follower =
    delivered_as laws filter h a b k form (Ok answers.Again) s t.above t.there t.replies in
    let past : a.follower.number < k = rw number at d.1 in
    let there : IsSome (held_at a.follower k) = rw number at d.2 in (
      a.follower.number,
      open_of filter h a k s t.above t.there d.0,
      past,
      held_was_accepted filter (hist.published_of h) (hist.base_of h)
          (hist.start_of h) (hist.accepted_of h) a.follower (state_of filter h a s d.0) k past there,
    )
step_allowed laws one filter h (Deliver k form) TooEarly a b s t =
    let is : IsSequence k (sequence_at (hist.published_of h) k) = published_at filter h a k s t.above t.there in
    let number : (sequence_at (hist.published_of h) k).number ≡ k = is.number_is in
    let d : FollowerStep a.follower (sequence_at (hist.published_of h) k) (Err errors.TooEarly) b.follower =
    delivered_as laws filter h a b k form (Err errors.TooEarly) s t.above t.there t.replies in
    let past : a.follower.number + 64 < k = rw number at d.1 in
    let none : held_at a.follower k ≡ None = rw number at d.2 in (
      a.follower.number,
      open_of filter h a k s t.above t.there d.0,
      past,
      fresh_is_unaccepted filter (hist.published_of h) (hist.base_of h)
          (hist.start_of h) (hist.accepted_of h) a.follower (state_of filter h a s d.0) k (omega arith) none,
    )
step_allowed laws one filter h (Deliver k form) WantOfMemory a b s t =
    let d : FollowerStep a.follower (sequence_at (hist.published_of h) k) (Err errors.WantOfMemory) b.follower =
    delivered_as laws filter h a b k form (Err errors.WantOfMemory) s t.above t.there t.replies in
    (a.follower.number, wanted_of filter h a k s t.above t.there d.0, d.1)
step_allowed laws one filter h (Deliver k form) Held a b s t =
    let is : IsSequence k (sequence_at (hist.published_of h) k) = published_at filter h a k s t.above t.there in
    let number : (sequence_at (hist.published_of h) k).number ≡ k = is.number_is in
    let d : FollowerStep a.follower (sequence_at (hist.published_of h) k) (Ok answers.Held) b.follower =
    delivered_as laws filter h a b k form (Ok answers.Held) s t.above t.there t.replies in
    (a.follower.number, wanted_of filter h a k s t.above t.there d.0, rw number at d.1)
step_allowed laws one filter h (Deliver k form) (Applied low high) a b s t =
    let is : IsSequence k (sequence_at (hist.published_of h) k) = published_at filter h a k s t.above t.there in
    let number : (sequence_at (hist.published_of h) k).number ≡ k = is.number_is in
    let d : FollowerStep a.follower (sequence_at (hist.published_of h) k) (Ok (answers.Applied low high)) b.follower =
    delivered_as laws filter h a b k form (Ok (answers.Applied low high)) s t.above t.there t.replies in
    let next : k ≡ a.follower.number + 1 = sym number ∙ d.1 in (
      a.follower.number,
      wanted_of filter h a k s t.above t.there d.0,
      next,
      d.2 ∙ number,
      reaches_accepted filter (hist.published_of h) (hist.base_of h) (hist.start_of h) (hist.accepted_of h) a.follower k high
          (state_of filter h a s d.0.whole) (omega arith) (rw number at d.3.reach),
    )
step_allowed laws one filter h (Deliver k form) Broke a b s t =
    let is : IsSequence k (sequence_at (hist.published_of h) k) = published_at filter h a k s t.above t.there in
    let number : (sequence_at (hist.published_of h) k).number ≡ k = is.number_is in
    let d : FollowerStep a.follower (sequence_at (hist.published_of h) k) (Err errors.Broke) b.follower =
    delivered_as laws filter h a b k form (Err errors.Broke) s t.above t.there t.replies in
    let next : k ≡ a.follower.number + 1 = sym number ∙ d.1 in
    (a.follower.number, wanted_of filter h a k s t.above t.there d.0, next, work_of filter h a b k s d.0.whole (omega arith) number d.2)
step_allowed laws one filter h (Deliver k form) r a b s t = absurd t.replies
step_allowed laws one filter h Show Broken a b s t = sym s.broken ∙ t.0
step_allowed laws one filter h Show (Shown v) a b s t = (whole_of filter h a s t.0, view_is filter h a v s t.0 t.1 t.2)
step_allowed laws one filter h Show WantOfMemory a b s t = whole_of filter h a s t.0
step_allowed laws one filter h Show r a b s t = absurd t
step_allowed laws one filter h Save Broken a b s t = sym s.broken ∙ t.0
step_allowed laws one filter h Save (Saved n) a b s t = (whole_of filter h a s t.1, (let state = state_of filter h a s t.1 in rw t.2 state.reach))
step_allowed laws one filter h Save WantOfMemory a b s t = whole_of filter h a s t.0
step_allowed laws one filter h Save r a b s t = absurd t
step_allowed laws one filter h Restart (Restarted n) a b s t =
    let g : StartsAt filter (hist.published_of h) (hist.saved_base_of h) (hist.saved_of h) b.follower =
    restarted_as one filter (hist.published_of h) (hist.last_saved h) (hist.saved_base_of h) a.saved a.follower b.follower
    s.filter_is s.saved t.0 in
    t.1 ∙ g.number
step_allowed laws one filter h Restart WantOfMemory a b s t =
    refused_from filter (hist.published_of h) (hist.last_saved h) (hist.saved_base_of h) a.saved a.follower b.follower s.saved t.0
step_allowed laws one filter h Restart r a b s t = absurd t
step_allowed laws one filter h (Begin k) NotPublished a b s t =
    (let published : a.publisher.number ≡ length (hist.published_of h) = published_is filter h a s in rw published at t.0)
step_allowed laws one filter h (Begin k) (Begun n) a b s t =
    (t.0, (let published : a.publisher.number ≡ length (hist.published_of h) = published_is filter h a s in rw published at t.1), t.2)
step_allowed laws one filter h (Begin k) WantOfMemory a b s t =
    (t.0, (let published : a.publisher.number ≡ length (hist.published_of h) = published_is filter h a s in rw published at t.1))
step_allowed laws one filter h (Begin k) r a b s t = absurd t

pub legal_none : (filter : FilterValue) → IsLegal filter []
legal_none filter = record { each = λ later before e r is. absurd (none later before (e, r) is) }
  where
    none : (later before : hist.History) (p : hist.Pair) → [] ≡ later ++ p ∷ before → ⊥
    none [] before p is = cc
    none (q ∷ later) before p is = cc

pub legal_more : (filter : FilterValue) (h : hist.History) (e : Event) (r : Reply) → IsLegal filter h → Allowed filter h e r → IsLegal filter ((e, r) ∷ h)
legal_more filter h e r legal one = record { each = each }
  where
    each : (later before : hist.History) (d : Event) (q : Reply) → (e, r) ∷ h ≡ later ++ (d, q) ∷ before → Allowed filter before d q
    each [] before d q is =
        let rest : h ≡ before = cc in
        let pair : (e, r) ≡ (d, q) = cc in
        let event : e ≡ d = ap (λ (p : hist.Pair). p.0) pair in
        let reply : r ≡ q = ap (λ (p : hist.Pair). p.1) pair in
        rw (← rest, ← event, ← reply) one
    each (p ∷ later) before d q is = let rest : h ≡ later ++ (d, q) ∷ before = cc in legal.each later before d q rest
