use Rattle.std.proofs.Common.{rules, sym, ◌≡◌, ◌-◌, ◌<◌, ◌≤◌, ◌∷◌, ◌++◌, [], length, arith}
use Rattle.osm_o5c.specs.Steps.Index.{string_at}
use Rattle.osm_o5c.proofs.ForgetLemmas.{take_more}
use Rattle.osm_o5c.proofs.string_index.StringIndex.of_recent.Goals as goal

pub loop-index-preserved : goal.loop-index-preserved
loop-index-preserved c =
    let below : c.loop-index.index < length c.args.self.now = search rules in
    let entered : c.enter.new.self ≡ c.loop-index.recent ++ string_at c.args.self.now c.loop-index.index ∷ [] = search rules in
    record {
      from = (let from : length c.args.self.now - 15000 ≤ c.loop-index.index = c.loop-index.invariant.from in omega arith);
      to = omega arith;
      recent = rw (entered, c.loop-index.invariant.recent)
          (sym (take_more c.args.self.now (length c.args.self.now - 15000) c.loop-index.index c.loop-index.invariant.from below));
    }
