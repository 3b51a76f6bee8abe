-- The slot of a number tells what is held there.
use Rattle.std.proofs.Common.{ℕ, ◌+◌, ◌-◌, ◌∙◌, ap, sym, arith}
use Rattle.std.specs.Option.{option_flatten}
use Rattle.osm_holding.proofs.SlotLemmas.{found_at, found_below, none_is_free, none_tells}
use Rattle.osm_holding.proofs.SlotLemmas.{slot_is_free, slot_tells}
use Rattle.osm_holding.proofs.holding.HoldingArea.is_held.Goals as goal

pub returns-then-number-self : goal.returns-then-number-self
returns-then-number-self c =
    let none = found_below (c.self.inside.reached + 1) c.self.inside.slots.items c.args.number (omega (arith, c.if-number-self.true)) in
    rw (← c.self.view_is) (record { held = none_tells _ none; free = none_is_free _ none })

pub returns-in-Some : goal.returns-in-Some
returns-in-Some c =
    let i : ℕ = c.args.number - c.self.inside.reached - 1 in
    let is = found_at (c.self.inside.reached + 1) c.self.inside.slots.items c.args.number i
    (omega (arith, c.if-number-self.false)) ∙ ap option_flatten (sym c.in-Some.ensures) in
    rw (← c.self.view_is) (record { held = slot_tells _ _ _ c.is_some.ensures is; free = slot_is_free _ _ _ c.is_some.ensures is })

pub returns-in-None : goal.returns-in-None
returns-in-None c =
    let i : ℕ = c.args.number - c.self.inside.reached - 1 in
    let none = found_at (c.self.inside.reached + 1) c.self.inside.slots.items c.args.number i
    (omega (arith, c.if-number-self.false)) ∙ ap option_flatten (sym c.in-None.ensures) in
    rw (← c.self.view_is) (record { held = none_tells _ none; free = none_is_free _ none })
