use Rattle.std.proofs.Common.{refl}
use Rattle.osm_publishing.proofs.compare.check_text.Goals as goal

pub returns-then-not-names-clause-stops : goal.returns-then-not-names-clause-stops
returns-then-not-names-clause-stops c = (
  refl,
  λ file. absurd (let yes =
      c.names.ensures.1 (c.laws_of_state.ensures.one_state _ _ _ c.in-Ok.ensures.found file.names) in
      let no = c.if-not-names.true in cc),
)
