-- One more slot, and what all slots show.
use Rattle.std.proofs.Common.{◌≡◌, ℕ, ◌+◌, ◌≤◌, List, [], ◌∷◌, ◌++◌, length, ◌∙◌, ap, sym, refl, arith}
use Rattle.std.specs.Map.{keys_of}
use Rattle.std.proofs.lemmas.Bool.{false≢true}
use Rattle.osm_holding.specs.Steps.Slots.{entries_from, area_of}
use Rattle.osm_holding.proofs.AreaLemmas.{exactly_held, is_holding, slots_rise}
use Rattle.osm_holding.proofs.CountLemmas.{at_most_window}
use Rattle.osm_holding.proofs.SlotLemmas.{numbers_before_all, numbers_before_held, numbers_before_free}
use Rattle.osm_holding.proofs.holding.HoldingArea.numbers.Goals as goal
use Rattle.osm_holding.proofs.holding.HoldingArea.numbers.Goals.{then-is_held+in_ok-push, else-is_held}

pub loop-index-preserved : goal.loop-index-preserved
loop-index-preserved c =
    let tells = rw (← c.self.view_is) at c.is_held.ensures.held in
    let number : ℕ = c.self.inside.reached + 1 + c.loop-index.index in
    elim c.if-is_held.branch [
      | then-is_held+in_ok-push w ↦
          rw w.numbers-is (w.in_ok-push.ensures.items
          ∙ (ap (λ (ns : List ℕ). ns ++ number ∷ []) c.loop-index.invariant
          ∙ sym (numbers_before_held (c.self.inside.reached + 1) c.self.inside.slots.items c.loop-index.index number refl
          (tells.0 w.if-is_held.true))))
      | else-is_held w ↦
          rw w.numbers-is (c.loop-index.invariant
          ∙ sym (numbers_before_free (c.self.inside.reached + 1) c.self.inside.slots.items c.loop-index.index number refl
          (λ some. false≢true (sym w.if-is_held.false ∙ tells.1 some))))
    ]

pub returns-clause-rising : goal.returns-clause-rising
returns-clause-rising c =
    let all : length c.self.inside.slots.items ≤ c.loop-index.index = omega (arith, c.loop-index-test.false, c.self.invariant.full) in
    let is : c.loop-index.numbers.items ≡ keys_of (entries_from (c.self.inside.reached + 1) c.self.inside.slots.items) =
    c.loop-index.invariant ∙ numbers_before_all (c.self.inside.reached + 1) c.self.inside.slots.items
    c.loop-index.index all in
    rw is (slots_rise (c.self.inside.reached + 1) c.self.inside.slots.items)

pub returns-clause-exact : goal.returns-clause-exact
returns-clause-exact c =
    let all : length c.self.inside.slots.items ≤ c.loop-index.index = omega (arith, c.loop-index-test.false, c.self.invariant.full) in
    let is : c.loop-index.numbers.items ≡ keys_of (entries_from (c.self.inside.reached + 1) c.self.inside.slots.items) =
    c.loop-index.invariant ∙ numbers_before_all (c.self.inside.reached + 1) c.self.inside.slots.items
    c.loop-index.index all in
    rw is (rw (← c.self.view_is) (exactly_held (area_of c.self.inside.reached c.self.inside.slots.items)))

pub returns-clause-few : goal.returns-clause-few
returns-clause-few c =
    let all : length c.self.inside.slots.items ≤ c.loop-index.index = omega (arith, c.loop-index-test.false, c.self.invariant.full) in
    let is : c.loop-index.numbers.items ≡ keys_of (entries_from (c.self.inside.reached + 1) c.self.inside.slots.items) =
    c.loop-index.invariant ∙ numbers_before_all (c.self.inside.reached + 1) c.self.inside.slots.items
    c.loop-index.index all in
    rw is (at_most_window (area_of c.self.inside.reached c.self.inside.slots.items) (is_holding c.self.inside.reached c.self.inside.slots c.self.invariant))
