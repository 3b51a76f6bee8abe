use Rattle.osm_range.proofs.ChangesLawLemmas.{apply_the_same, are_the_only, keep_mirrors_up, leave_the_same}
use Rattle.osm_range.proofs.changes_laws.laws_of_changes.Goals as goal

pub returns-clause-one : goal.returns-clause-one
returns-clause-one c = are_the_only

pub returns-clause-left : goal.returns-clause-left
returns-clause-left c = leave_the_same

pub returns-clause-applied : goal.returns-clause-applied
returns-clause-applied c = apply_the_same

pub returns-clause-kept_up : goal.returns-clause-kept_up
returns-clause-kept_up c = keep_mirrors_up
