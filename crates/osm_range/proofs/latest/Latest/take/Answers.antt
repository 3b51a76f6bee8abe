use Rattle.std.proofs.Common.{◌∷◌, [], arith}
use Rattle.std.proofs.lemmas.Grind.{common_steps}
use Rattle.osm_range.proofs.LatestLemmas.{takes_more, takes_none}
use Rattle.osm_range.proofs.latest.Latest.take.Goals as goal

pub loop-change-init : goal.loop-change-init
loop-change-init c = record {
  rest = grind (arith, common_steps);
  taken = takes_none c.args.filter.now c.args.self.now;
}

pub loop-change-preserved : goal.loop-change-preserved
loop-change-preserved c = record {
  rest = grind (arith, common_steps);
  taken = takes_more c.args.filter.now c.args.self.now c.loop-change.self c.take_one.new.self c.loop-change.yielded (c.in-Some.change ∷ [])
      c.loop-change.invariant.taken c.in-Ok.ensures;
}
