use Rattle.std.proofs.Common.{◌≡◌, ◌∙◌, sym, true, false}
use Rattle.osm_net.proofs.KindLemmas.{all_none, none_of_all}
use Rattle.osm_net.proofs.objects.NetObjects.is_empty.Goals as goal
use Rattle.osm_net.proofs.objects.NetObjects.is_empty.Goals.{then-is_empty, else-is_empty}

pub returns-then-is_empty-2 : goal.returns-then-is_empty-2
returns-then-is_empty-2 c =
    rw (← c.self.view_is) (elim c.if-is_empty.branch [
      | then-is_empty w ↦ (
        λ last. none_of_all c.self.inside.nodes c.self.inside.ways c.self.inside.relations (c.is_empty.ensures.0 w.if-is_empty.true)
            (w.is_empty-then-is_empty.ensures.0 (sym w.value-is ∙ c.if-is_empty-2.true)) (c.is_empty-then-is_empty-2.ensures.0 last),
        λ none. c.is_empty-then-is_empty-2.ensures.1 (all_none c.self.inside.nodes c.self.inside.ways c.self.inside.relations none).2,
      )
      | else-is_empty w ↦ absurd (let bad : true ≡ false = sym c.if-is_empty-2.true ∙ (w.value-is ∙ w.if-is_empty.false) in cc)
    ])

pub returns-else-is_empty-2 : goal.returns-else-is_empty-2
returns-else-is_empty-2 c =
    rw (← c.self.view_is) (
      λ yes. absurd (let bad : true ≡ false = sym yes ∙ c.if-is_empty-2.false in cc),
      λ none. (let parts = all_none c.self.inside.nodes c.self.inside.ways c.self.inside.relations none in elim c.if-is_empty.branch [
        | then-is_empty w ↦ w.value-is ∙ w.is_empty-then-is_empty.ensures.1 parts.1
        | else-is_empty w ↦ w.value-is ∙ c.is_empty.ensures.1 parts.0
      ]),
    )
