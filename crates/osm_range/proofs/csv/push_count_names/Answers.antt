use Rattle.osm_range.proofs.csv.push_count_names.Goals as goal

pub returns : goal.returns
returns c = c.push_four.ensures
