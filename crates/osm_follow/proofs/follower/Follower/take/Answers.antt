use Rattle.std.proofs.Common.{◌≡◌, ◌+◌, refl, arith, rules}
use Rattle.std.specs.Prelude.{IsTrue}
use Rattle.osm_follow.proofs.DrainLemmas.{breaks, still_whole, takes}
use Rattle.osm_follow.proofs.follower.Follower.take.Goals as goal

pub returns-in_default : goal.returns-in_default
returns-in_default c =
    let broken : ¬ IsTrue c.self.inside.is_broken = search rules in
    let next : c.args.state.now.sequence ≡ c.self.inside.holding.reached + 1 =
    (let reached = (c.self.invariant.whole broken).reached in let is : c.args.state.now.sequence ≡ c.self.inside.number
    + 1 = rw (← c.self.view_is) at c.requires.next in omega arith) in
    rw (← c.self.view_is) (breaks _ _ _ c.time-time.result next (search rules) refl)

pub returns : goal.returns
returns c =
    let broken : ¬ IsTrue c.self.inside.is_broken = search rules in
    let next : c.args.state.now.sequence ≡ c.self.inside.holding.reached + 1 =
    (let reached = (c.self.invariant.whole broken).reached in let is : c.args.state.now.sequence ≡ c.self.inside.number
    + 1 = rw (← c.self.view_is) at c.requires.next in omega arith) in
    rw (← c.self.view_is) (
      c.sequence-low.ensures.sequence,
      rw c.reached-high.ensures.reached
          (takes _ _ _ c.time-time.result c.in-Ok.last next (search rules) c.reached-high.ensures.limits refl refl
          refl refl (search rules)),
    )

pub invariant_of-self-2 : goal.invariant_of-self-2
invariant_of-self-2 c =
    let broken : ¬ IsTrue c.self.inside.is_broken = search rules in
    record {
      most = rw c.reached-high.ensures.reached c.reached-high.ensures.limits.reached;
      filter = c.self.invariant.filter;
      whole = λ whole. still_whole _ _ (record { batch = c.args.batch; time = c.time-time.result }) c.in-Ok.last
          (c.self.invariant.whole broken) (rw c.time-time.ensures.time c.time-time.ensures.limits.time)
          c.in-Ok.ensures.drained c.reached-high.ensures.limits c.reached-high.ensures.reached refl refl refl;
    }
