use Rattle.osm_mirror.proofs.MirrorLaws.{edits_need_none, keeps_what_is_left, removals_need_none, stays_kept}
use Rattle.osm_mirror.proofs.laws.laws_of_mirrors.Goals as goal

pub returns-clause-removals : goal.returns-clause-removals
returns-clause-removals c = removals_need_none

pub returns-clause-edits : goal.returns-clause-edits
returns-clause-edits c = edits_need_none

pub returns-clause-kept : goal.returns-clause-kept
returns-clause-kept c = stays_kept

pub returns-clause-left : goal.returns-clause-left
returns-clause-left c = keeps_what_is_left
