use Rattle.osm_model.proofs.FilterLemmas.{deletions_are_dropped, everything_is_kept, everything_is_left, extracts_are_enough}
use Rattle.osm_model.proofs.FilterLemmas.{extracts_are_kept_up, filters_are_told, kept_are_objects}
use Rattle.osm_model.proofs.filter.laws_of_filters.Goals as goal

pub returns-clause-told : goal.returns-clause-told
returns-clause-told c = filters_are_told

pub returns-clause-all : goal.returns-clause-all
returns-clause-all c = everything_is_kept

pub returns-clause-deletions : goal.returns-clause-deletions
returns-clause-deletions c = deletions_are_dropped

pub returns-clause-kept : goal.returns-clause-kept
returns-clause-kept c = kept_are_objects

pub returns-clause-left : goal.returns-clause-left
returns-clause-left c = everything_is_left

pub returns-clause-kept_up : goal.returns-clause-kept_up
returns-clause-kept_up c = extracts_are_kept_up

pub returns-clause-enough : goal.returns-clause-enough
returns-clause-enough c = extracts_are_enough
