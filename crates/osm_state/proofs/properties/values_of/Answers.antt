use Rattle.std.proofs.Common.{ap, ◌∙◌}
use Rattle.osm_reading.specs.Lines.{lines_after}
use Rattle.osm_state.specs.StateText.{sequence_key, time_key}
use Rattle.osm_state.specs.Properties.{value_of}
use Rattle.osm_state.proofs.LineLemmas.{no_value, keeps_last, after_last}
use Rattle.osm_state.proofs.properties.values_of.Goals as goal

pub loop-rest-init : goal.loop-rest-init
loop-rest-init c = record { sequence = no_value (value_of c.args.text.now sequence_key); time = no_value (value_of c.args.text.now time_key) }

pub loop-rest-preserved : goal.loop-rest-preserved
loop-rest-preserved c =
    let lines = ap lines_after c.in-Some.is ∙ c.split_line.ensures.lines in
    record {
      sequence = keeps_last sequence_key c.args.text.now c.split_line.result.0.now (lines_after c.loop-rest.rest)
          (lines_after c.split_line.result.1) c.loop-rest.sequence c.value_at.result c.or-sequence.result _
          c.loop-rest.invariant.sequence lines c.entry-entry.ensures c.value_at.ensures c.or-sequence.ensures;
      time = keeps_last time_key c.args.text.now c.split_line.result.0.now (lines_after c.loop-rest.rest)
          (lines_after c.split_line.result.1) c.loop-rest.time c.value_at-in-Some.result c.or-time.result _
          c.loop-rest.invariant.time lines c.entry-entry.ensures c.value_at-in-Some.ensures c.or-time.ensures;
    }

pub returns : goal.returns
returns c =
    record {
      sequence = after_last sequence_key c.args.text.now c.loop-rest.rest _ c.in_default.is c.loop-rest.invariant.sequence;
      time = after_last time_key c.args.text.now c.loop-rest.rest _ c.in_default.is c.loop-rest.invariant.time;
    }
