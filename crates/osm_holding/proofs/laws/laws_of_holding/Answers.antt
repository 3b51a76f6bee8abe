use Rattle.osm_holding.proofs.AreaLemmas.{one_area}
use Rattle.osm_holding.proofs.CountLemmas.{at_most_window, fewer_than_window}
use Rattle.osm_holding.proofs.laws.laws_of_holding.Goals as goal

pub returns-clause-one_area : goal.returns-clause-one_area
returns-clause-one_area c = one_area

pub returns-clause-few : goal.returns-clause-few
returns-clause-few c = at_most_window

pub returns-clause-fewer : goal.returns-clause-fewer
returns-clause-fewer c = fewer_than_window
