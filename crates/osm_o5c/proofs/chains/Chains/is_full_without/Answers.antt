use Rattle.std.proofs.Common.{rules, ◌≡◌, ◌+◌, ◌-◌, ◌<◌, ◌≤◌, length, get_or, arith}
use Rattle.std.specs.Prelude.{◌≢◌}
use Rattle.osm_o5c.specs.Steps.Index.{string_at}
use Rattle.osm_o5c.proofs.IndexLemmas.{ahead_next, below_latest}
use Rattle.osm_o5c.proofs.chains.Chains.is_full_without.Goals as goal

pub loop-count-preserved : goal.loop-count-preserved
loop-count-preserved c = λ latest led.
    let some : 0 < c.loop-count.at = search rules in
    let other : string_at c.args.self.now.strings (c.loop-count.at - 1) ≢ c.args.text.now = search rules in
    let is : c.previous-at.result ≡ get_or c.args.self.now.links (c.loop-count.at - 1) 0 = search rules in
    let back : c.previous-at.result ≤ c.loop-count.at - 1 = search rules in
    ahead_next c.args.self.now latest c.args.text.now c.loop-count.at c.previous-at.result some led (c.loop-count.invariant latest led)
    other is back

-- the chain was walked as far as strings can be named
pub returns : goal.returns
returns c = λ full. below_latest c.args.self.now c.args.text.now c.loop-count.at c.loop-count.invariant
    (λ some within near.
    let count : c.len.result ≡ length c.args.self.now.strings = search rules in
    let low : c.loop-count.at ≤ c.len.result = omega arith in
    let high : c.len.result < c.loop-count.at + 15000 = omega arith in
    absurd (search rules))
