use Rattle.osm_kept.proofs.HeadLemmas.{opens_as_other, opens_bad}
use Rattle.osm_kept.proofs.LawLemmas.{bad_keeps_nothing, emptied_is_kept, empty_is_none, first_is_added, journal_has_own_name}
use Rattle.osm_kept.proofs.LawLemmas.{journal_is_applied, merged_is_kept, more_is_added, one_kept, saved_is_kept}
use Rattle.osm_kept.proofs.OtherLemmas.{empty_is_no_other, merged_is_older, older_is_no_other, older_says_nothing, older_stays, one_is_at, one_is_other}
use Rattle.osm_kept.proofs.OtherLemmas.{own_is_no_other, saved_is_at}
use Rattle.osm_kept.proofs.laws.laws_of_kept.Goals as goal

pub returns-clause-one_kept : goal.returns-clause-one_kept
returns-clause-one_kept c = one_kept

pub returns-clause-nothing : goal.returns-clause-nothing
returns-clause-nothing c = bad_keeps_nothing

pub returns-clause-empty : goal.returns-clause-empty
returns-clause-empty c = empty_is_none

pub returns-clause-saved : goal.returns-clause-saved
returns-clause-saved c = saved_is_kept

pub returns-clause-written : goal.returns-clause-written
returns-clause-written c = journal_is_applied

pub returns-clause-appended : goal.returns-clause-appended
returns-clause-appended c = more_is_added

pub returns-clause-begun : goal.returns-clause-begun
returns-clause-begun c = first_is_added

pub returns-clause-merged : goal.returns-clause-merged
returns-clause-merged c = merged_is_kept

pub returns-clause-emptied : goal.returns-clause-emptied
returns-clause-emptied c = emptied_is_kept

pub returns-clause-named : goal.returns-clause-named
returns-clause-named c = journal_has_own_name

pub returns-clause-one_at : goal.returns-clause-one_at
returns-clause-one_at c = one_is_at

pub returns-clause-saved_at : goal.returns-clause-saved_at
returns-clause-saved_at c = saved_is_at

pub returns-clause-one_other : goal.returns-clause-one_other
returns-clause-one_other c = one_is_other

pub returns-clause-own : goal.returns-clause-own
returns-clause-own c = own_is_no_other

pub returns-clause-older : goal.returns-clause-older
returns-clause-older c = older_is_no_other

pub returns-clause-no_bytes : goal.returns-clause-no_bytes
returns-clause-no_bytes c = empty_is_no_other

pub returns-clause-silent : goal.returns-clause-silent
returns-clause-silent c = older_says_nothing

pub returns-clause-stays : goal.returns-clause-stays
returns-clause-stays c = older_stays

pub returns-clause-merged_older : goal.returns-clause-merged_older
returns-clause-merged_older c = merged_is_older

pub returns-clause-opens : goal.returns-clause-opens
returns-clause-opens c = opens_as_other

pub returns-clause-opens_bad : goal.returns-clause-opens_bad
returns-clause-opens_bad c = opens_bad
