use Rattle.std.proofs.Common.{rules}
use Rattle.osm_state.proofs.StateLemmas.{time_judged}
use Rattle.osm_state.proofs.state_text.time_in.Goals as goal

pub returns : goal.returns
returns c =
    let judged = time_judged c.args.value.now c.deref.result.now c.time_read.result
    (rw c.deref.ensures.0 (search rules)) c.time_read.ensures.sound c.time_read.ensures.complete in
    rw c.ok_or-2.ensures.value judged
