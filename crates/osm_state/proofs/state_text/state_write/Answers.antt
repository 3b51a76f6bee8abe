use Rattle.std.proofs.Common.{◌≡◌, ◌++◌, refl, ◌∙◌}
use Rattle.std.specs.Prelude.{codes, decimal}
use Rattle.osm_model.specs.CivilTime.{time_text}
use Rattle.osm_state.specs.StateText.{state_text, escaped_colons}
use Rattle.osm_state.proofs.TimeLemmas.{time_text_is}
use Rattle.osm_state.proofs.state_text.state_write.Goals as goal

pub returns : goal.returns
unfolding state_text
returns c =
    let time : time_text c.args.state.now.time ≡ c.time_write.result =
    rw (← c.time.ensures.time) (time_text_is c.time.result c.time_write.result
    (rw c.time.ensures.time c.time.ensures.limits.time) c.time_write.ensures.only) in
    let digits : c.as_bytes.result.now ≡ decimal c.args.state.now.sequence =
    rw (c.as_bytes.ensures.value, c.format.ensures.text, c.sequence.ensures.sequence) refl in
    let first : c.extend_from_slice.new.self.items ≡ codes "sequenceNumber=" = c.in_ok-extend_from_slice.ensures.items ∙ rw c.new-text.ensures.items refl in
    let second : c.extend_from_slice-2.new.self.items ≡ codes "sequenceNumber=" ++ decimal c.args.state.now.sequence =
    c.in_ok-extend_from_slice-2.ensures.items ∙ rw (first, digits) refl in
    let third : c.extend_from_slice-3.new.self.items ≡ codes "sequenceNumber=" ++ decimal c.args.state.now.sequence
    ++ codes "\ntimestamp=" = c.in_ok-extend_from_slice-3.ensures.items ∙ rw second refl in
    let fourth : c.append_escaped.new.text.items ≡ codes "sequenceNumber=" ++ decimal c.args.state.now.sequence
    ++ codes "\ntimestamp=" ++ escaped_colons (time_text c.args.state.now.time) = c.in_ok-append_escaped.ensures.ok
    ∙ rw (third, time) refl in
    c.in_ok-extend_from_slice-4.ensures.items ∙ rw fourth refl
