use Rattle.std.proofs.Common.{rules}
use Rattle.osm_state.proofs.StateLemmas.{sequence_judged}
use Rattle.osm_state.proofs.state_text.sequence_in.Goals as goal

pub returns : goal.returns
returns c =
    let judged = sequence_judged c.args.value.now c.deref.result.now c.sequence_read.result
    (rw c.deref.ensures.0 (search rules)) c.sequence_read.ensures.found c.sequence_read.ensures.only in
    rw c.ok_or-2.ensures.value judged
