use Rattle.std.proofs.Common.{◌≡◌, take, rules}
use Rattle.osm_opl.proofs.BeginLemmas.{time_spelled}
use Rattle.osm_opl.proofs.last_time.LastTimeTimeReader.after.Goals as goal

pub invariant_of-self : goal.invariant_of-self
invariant_of-self c =
    let text : c.in_ok-text.text.now ≡ take 20 c.args.bytes.now = search rules in (
      c.in_ok-time.ensures.limits,
      time_spelled c.args.bytes.now c.in_ok-time.rest.now c.in_ok-text.text.now c.in_ok-time.time c.in_ok-time.ensures.parts text,
    )
