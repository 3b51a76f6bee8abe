use Rattle.std.proofs.Common.{rules, ◌≡◌, ◌+◌, ◌-◌, ◌++◌, ◌∷◌, [], suc, arith, ap, ◌∙◌, sym}
use Rattle.std.proofs.lemmas.Grind.{common_steps}
use Rattle.osm_runs.specs.Following.{ranges}
use Rattle.osm_runs.proofs.TakingLemmas.{ranges_next}
use Rattle.osm_round.proofs.round.ranges.Goals as goal

pub loop-before-preserved : goal.loop-before-preserved
loop-before-preserved c =
    let i = c.loop-before.invariant in
    let from = i.from in
    let count = c.loop-before.before - c.args.from in
    let next : c.loop-before.before + 1 ≡ c.args.from + suc count = omega (arith, from) in
    let more : c.loop-before.before + 1 - c.args.from ≡ suc count = omega (arith, from) in
    record {
      from = omega (arith, from);
      until = grind (arith, common_steps);
      made = (let pushed : c.push.new.self.items ≡ c.loop-before.ranges.items ++ (c.loop-before.before + 1, c.loop-before.before + 1) ∷ [] = search rules in
          pushed ∙ (ap (λ xs. xs ++ (c.loop-before.before + 1, c.loop-before.before + 1) ∷ []) i.made
          ∙ (ranges_next c.args.from count (c.loop-before.before + 1) next ∙ ap (ranges c.args.from) (sym more))));
    }
