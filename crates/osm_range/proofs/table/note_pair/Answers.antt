use Rattle.osm_range.proofs.table.note_pair.Goals as goal

pub returns-clause-noted : goal.returns-clause-noted
returns-clause-noted c = λ none p. c.in_ok-is_first.ensures.updates.0 p
