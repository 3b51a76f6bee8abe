use Rattle.osm_range.proofs.ColumnLemmas.{one_choice}
use Rattle.osm_range.proofs.TallyLawLemmas.{add_up, are_the_only, count_all}
use Rattle.osm_range.proofs.NeighbourLemmas.{ranges_add_up}
use Rattle.osm_range.proofs.tally_laws.laws_of_tallies.Goals as goal

pub returns-clause-columns : goal.returns-clause-columns
returns-clause-columns c = one_choice

pub returns-clause-one : goal.returns-clause-one
returns-clause-one c = are_the_only

pub returns-clause-all : goal.returns-clause-all
returns-clause-all c = count_all

pub returns-clause-parts : goal.returns-clause-parts
returns-clause-parts c = add_up

pub returns-clause-ranges : goal.returns-clause-ranges
returns-clause-ranges c = ranges_add_up
