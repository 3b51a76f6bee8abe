use Rattle.osm_journal.proofs.JournalLemmas.{one_journal, save_starts}
use Rattle.osm_journal.proofs.OpeningLemmas.{journal_opens, one_opening}
use Rattle.osm_journal.proofs.journal.laws_of_journals.Goals as goal

pub returns-clause-one_journal : goal.returns-clause-one_journal
returns-clause-one_journal c = one_journal

pub returns-clause-save : goal.returns-clause-save
returns-clause-save c = save_starts

pub returns-clause-opening : goal.returns-clause-opening
returns-clause-opening c = journal_opens

pub returns-clause-one_opening : goal.returns-clause-one_opening
returns-clause-one_opening c = one_opening
