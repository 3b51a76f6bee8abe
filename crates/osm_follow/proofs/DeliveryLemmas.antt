-- The delivery of a sequence's texts as the delivery of that sequence.
use Rattle.std.proofs.Common.{◌≡◌, ℕ, ◌+◌, ◌<◌, ◌≤◌, List, [], ◌∷◌, length, refl, ap, sym, ◌∙◌, true, false, arith, subst, None}
use Rattle.std.specs.Prelude.{Result, Ok, Err, IsSome}
use Rattle.osm_model.specs.Change.{ChangeValue}
use Rattle.osm_state.proofs.StateLemmas.{one_state}
use Rattle.osm_state.specs.State.{StateValue}
use Rattle.osm_state.specs.StateFault.{FaultOf}
use Rattle.osm_state.specs.StateText.{StateOf}
use Rattle.osm_state.specs.declared.state_text.StateError.{StateError}
use Rattle.osm_follow.specs.Delivery as table
use Rattle.osm_follow.specs.Follower.{FollowerValue, held_at}
use Rattle.osm_publisher.specs.Published.{PublishedValue}
use Rattle.osm_follow.specs.declared.delivery.Delivered.{Delivered}
use Rattle.osm_follow.specs.declared.delivery.Delivered.TheVariants.{Old, Again, Held, Applied}
use Rattle.osm_follow.specs.declared.delivery.DeliverError.{DeliverError}
use Rattle.osm_follow.specs.declared.delivery.DeliverError.TheVariants.{Broken, BadState, BadSequence, TooEarly, BadChange, WantOfMemory, Broke}

-- bytes spell at most one batch
abbrev pub OneBatch : table.Spelling → Type 0
OneBatch spells = (bytes : List ℕ) (a b : List ChangeValue) → spells bytes a → spells bytes b → a ≡ b

-- a text doesn't have both a state and a fault
abbrev pub NoFaultBeside : Type 0
NoFaultBeside = (text : List ℕ) (s : StateValue) (e : StateError) → StateOf text s → FaultOf text e → ⊥

-- the state that a sequence's text names
abbrev pub state_of : PublishedValue → StateValue
state_of p = record { sequence = p.number; time = p.time }

-- the follower isn't broken, and the number is within the window after its own, for which it holds nothing
pub record IsDueAt (f : FollowerValue) (number : ℕ) : Type 0 where
  pub whole : f.is_broken ≡ false
  pub above : f.number < number
  pub within : number ≤ f.number + 64
  pub fresh : held_at f number ≡ None

-- what the delivery of a sequence does to a follower
abbrev pub FollowerStep : FollowerValue → PublishedValue → Result Delivered DeliverError → FollowerValue → Type 0
FollowerStep f p (Err Broken) g = (f.is_broken ≡ true) × (g ≡ f)
FollowerStep f p (Ok Old) g = (f.is_broken ≡ false) × (p.number ≤ f.number) × (g ≡ f)
FollowerStep f p (Ok Again) g = (f.is_broken ≡ false) × (f.number < p.number) × IsSome (held_at f p.number) × (g ≡ f)
FollowerStep f p (Err TooEarly) g = (f.is_broken ≡ false) × (f.number + 64 < p.number) × (held_at f p.number ≡ None) × (g ≡ f)
FollowerStep f p (Err (BadChange e)) g = IsDueAt f p.number × (g ≡ f)
FollowerStep f p (Err WantOfMemory) g = IsDueAt f p.number × (0 < length p.changes) × (g ≡ f)
FollowerStep f p (Ok Held) g = IsDueAt f p.number × (f.number + 1 < p.number) × table.Holds f p g
FollowerStep f p (Ok (Applied low high)) g =
    IsDueAt f p.number × (p.number ≡ f.number + 1) × (low ≡ p.number) × table.Takes f p high g
FollowerStep f p (Err Broke) g = IsDueAt f p.number × (p.number ≡ f.number + 1) × table.Breaks f p g
FollowerStep f p answer g = ⊥

some_changes : (spells : table.Spelling) (bytes : List ℕ) (cs : List ChangeValue) → spells bytes cs → (spells bytes [] → ⊥) → 0 < length cs
some_changes spells bytes [] s none = absurd (none s)
some_changes spells bytes (c ∷ cs) s none = omega arith

same_sequence : (s : StateValue) (cs : List ChangeValue) (p : PublishedValue) → s ≡ state_of p → cs ≡ p.changes → table.sequence_of s cs ≡ p
same_sequence s cs p e f = rw (e, f) refl

same_number : (s : StateValue) (p : PublishedValue) → s ≡ state_of p → s.sequence ≡ p.number
same_number s p e = ap (λ (t : StateValue). t.sequence) e

wanted : (f : FollowerValue) (state : List ℕ) (s : StateValue) (p : PublishedValue) → s ≡ state_of p → table.IsDue f state s → IsDueAt f p.number
wanted f state s p e t =
    let number : s.sequence ≡ p.number = same_number s p e in
    record { whole = t.whole; above = rw number at t.above; within = rw number at t.within; fresh = rw number at t.fresh }

pub read_as : (spells : table.Spelling) (fault_place : table.FaultPlaces) → OneBatch spells → NoFaultBeside
    → (f g : FollowerValue) (state bytes : List ℕ) (p : PublishedValue) → 0 < p.number → StateOf state (state_of p)
    → spells bytes p.changes → (answer : Result Delivered DeliverError)
    → table.Delivers spells fault_place f state bytes answer g → FollowerStep f p answer g
read_as spells fp one apart f g state bytes p above names spelled (Err Broken) d = (d.0, d.1)
read_as spells fp one apart f g state bytes p above names spelled (Err (BadState e)) d = absurd (apart state (state_of p) e names d.0.1)
read_as spells fp one apart f g state bytes p above names spelled (Err BadSequence) d =
    let number : d.0.0.sequence ≡ p.number = same_number d.0.0 p (one_state state d.0.0 (state_of p) d.0.2 names) in
    let none = d.0.3 in
    absurd (omega arith)
read_as spells fp one apart f g state bytes p above names spelled (Ok Old) d =
    let number : d.0.0.sequence ≡ p.number = same_number d.0.0 p (one_state state d.0.0 (state_of p) d.0.2 names) in
    (d.0.1, rw number at d.0.4, d.1)
read_as spells fp one apart f g state bytes p above names spelled (Ok Again) d =
    let number : d.0.0.sequence ≡ p.number = same_number d.0.0 p (one_state state d.0.0 (state_of p) d.0.2 names) in
    (d.0.1, rw number at d.0.3, rw number at d.0.4, d.1)
read_as spells fp one apart f g state bytes p above names spelled (Err TooEarly) d =
    let number : d.0.0.sequence ≡ p.number = same_number d.0.0 p (one_state state d.0.0 (state_of p) d.0.2 names) in
    (d.0.1, rw number at d.0.3, rw number at d.0.4, d.1)
read_as spells fp one apart f g state bytes p above names spelled (Err (BadChange e)) d =
    (wanted f state d.0 p (one_state state d.0 (state_of p) d.1.names names) d.1, d.3)
read_as spells fp one apart f g state bytes p above names spelled (Err WantOfMemory) d =
    (wanted f state d.0 p (one_state state d.0 (state_of p) d.1.names names) d.1, some_changes spells bytes p.changes spelled d.3, d.4)
read_as spells fp one apart f g state bytes p above names spelled (Ok Held) d =
    let same : d.0 ≡ state_of p = one_state state d.0 (state_of p) d.2.names names in (
      wanted f state d.0 p same d.2,
      rw (same_number d.0 p same) at d.3,
      subst (λ (q : PublishedValue). table.Holds f q g)
          (same_sequence d.0 d.1 p same (one bytes d.1 p.changes d.5 spelled)) d.6,
    )
read_as spells fp one apart f g state bytes p above names spelled (Ok (Applied low high)) d =
    let same : d.0 ≡ state_of p = one_state state d.0 (state_of p) d.2.names names in
    let number : d.0.sequence ≡ p.number = same_number d.0 p same in (
      wanted f state d.0 p same d.2,
      sym number ∙ d.3,
      d.6 ∙ number,
      subst (λ (q : PublishedValue). table.Takes f q high g) (same_sequence d.0 d.1 p same (one bytes d.1 p.changes d.5 spelled)) d.7,
    )
read_as spells fp one apart f g state bytes p above names spelled (Err Broke) d =
    let same : d.0 ≡ state_of p = one_state state d.0 (state_of p) d.2.names names in (
      wanted f state d.0 p same d.2,
      sym (same_number d.0 p same)
          ∙ d.3,
      subst (λ (q : PublishedValue). table.Breaks f q g)
          (same_sequence d.0 d.1 p same (one bytes d.1 p.changes d.5 spelled)) d.6,
    )
