use Rattle.std.proofs.Common.{rules}
use Rattle.osm_state.specs.StateText.{StateOf}
use Rattle.osm_state.proofs.StateLemmas.{state_limits, one_state}
use Rattle.osm_state.proofs.state_text.state_read.Goals as goal

pub within_limits-requires : goal.within_limits-requires
within_limits-requires c = state_limits _ _ _ _ c.in_ok-sequence.ensures c.in_ok-time.ensures

pub returns-clause-only : goal.returns-clause-only
returns-clause-only c = λ s h.
    let mine : StateOf c.args.bytes.now c.within_limits.result = search rules in
    let same = one_state c.args.bytes.now c.within_limits.result s mine h in
    cc
