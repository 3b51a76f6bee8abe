-- A write to the slot of a number changes what is held there, and nothing else.
use Rattle.std.proofs.Common.{◌≡◌, ℕ, ◌+◌, ◌-◌, ◌<◌, ◌∙◌, ap, sym, subst, arith, length, Option}
use Rattle.std.specs.Prelude.{slice_set, IsSome}
use Rattle.std.specs.Option.{option_flatten}
use Rattle.osm_holding.specs.declared.holding.Held.{Held}
use Rattle.osm_holding.specs.Holding.{ChangesAt}
use Rattle.osm_holding.specs.Steps.Slots.{area_of}
use Rattle.osm_holding.proofs.AreaLemmas.{are_written}
use Rattle.osm_holding.proofs.SlotLemmas.{found_at, slot_changes, slot_there}
use Rattle.osm_holding.proofs.holding.HoldingArea.replace.Goals as goal
use Rattle.osm_holding.proofs.holding.HoldingArea.replace.Goals.{in-Some, in-None+in-None-1, in-None+in-Some-1}

pub returns-clause-value : goal.returns-clause-value
returns-clause-value c =
    let i : ℕ = c.args.number - c.self.inside.reached - 1 in
    let window = rw (← c.self.view_is) at c.requires.window in
    let is : c.args.number ≡ c.self.inside.reached + 1 + i = omega (arith, window.above) in
    elim c.match-get_mut.branch [
      | in-Some w ↦
          rw w.result-is
          (rw (← c.self.view_is) (w.replace.ensures.value
          ∙ sym (found_at (c.self.inside.reached + 1) c.self.inside.slots.items c.args.number i is
          ∙ ap option_flatten (sym w.in-Some.ensures.value))))
      | in-None+in-None-1 w ↦
          rw w.result-is
          (rw (← c.self.view_is) (sym (found_at (c.self.inside.reached + 1) c.self.inside.slots.items c.args.number i is
          ∙ ap option_flatten (sym w.in-None.ensures.value))))
      | in-None+in-Some-1 w ↦
          rw w.result-is
          (rw (← c.self.view_is) (sym (found_at (c.self.inside.reached + 1) c.self.inside.slots.items c.args.number i is
          ∙ ap option_flatten (sym w.in-None.ensures.value))))
    ]

pub returns-clause-changed : goal.returns-clause-changed
returns-clause-changed c =
    let i : ℕ = c.args.number - c.self.inside.reached - 1 in
    let window = rw (← c.self.view_is) at c.requires.window in
    let is : c.args.number ≡ c.self.inside.reached + 1 + i = omega (arith, window.above) in
    let within : i < length c.self.inside.slots.items = omega (arith, window.above, window.within, c.self.invariant.full) in
    elim c.match-get_mut.branch [
      | in-Some w ↦
          rw w.self-inside-is
          (rw (← c.self.view_is)
          (subst (λ (now : Option Held). ChangesAt (area_of c.self.inside.reached c.self.inside.slots.items)
          (area_of c.self.inside.reached (slice_set c.self.inside.slots.items i w.replace.new.dest)) c.args.number now)
          w.replace.ensures.after (slot_changes c.self.inside.reached c.self.inside.slots.items i c.args.number
          w.replace.new.dest is within)))
      | in-None+in-None-1 w ↦ absurd (slot_there c.self.inside.slots.items i within (sym w.in-None.ensures.value))
      | in-None+in-Some-1 w ↦ absurd (slot_there c.self.inside.slots.items i within (sym w.in-None.ensures.value))
    ]

pub invariant_of-self : goal.invariant_of-self
invariant_of-self c =
    let i : ℕ = c.args.number - c.self.inside.reached - 1 in
    let window = rw (← c.self.view_is) at c.requires.window in
    let is : c.args.number ≡ c.self.inside.reached + 1 + i = omega (arith, window.above) in
    let within : i < length c.self.inside.slots.items = omega (arith, window.above, window.within, c.self.invariant.full) in
    elim c.match-get_mut.branch [
      | in-Some w ↦
          rw w.self-inside-is (are_written c.self.inside.reached c.self.inside.slots i c.args.number w.replace.new.dest
          c.self.invariant is within
          (λ some. c.requires.limit (subst (λ (now : Option Held). IsSome now) w.replace.ensures.after some)))
      | in-None+in-None-1 w ↦ absurd (slot_there c.self.inside.slots.items i within (sym w.in-None.ensures.value))
      | in-None+in-Some-1 w ↦ absurd (slot_there c.self.inside.slots.items i within (sym w.in-None.ensures.value))
    ]
