use Rattle.osm_reading.proofs.PieceLemmas.{after_line}
use Rattle.osm_reading.proofs.lines.split_line.Goals as goal

pub returns-clause-rest : goal.returns-clause-rest
returns-clause-rest c =
    after_line c.args.bytes.now c.cut.result.0.now c.trim_end.result.now c.cut.result.1 c.cut.ensures.first c.trim_end.ensures
