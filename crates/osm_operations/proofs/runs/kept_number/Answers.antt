use Rattle.std.proofs.Common.{List, ℕ, Option, refl, subst, ◌∙◌}
use Rattle.osm_save.specs.declared.head.Head.{Head}
use Rattle.osm_store.specs.Stores.{files_of}
use Rattle.osm_kept.specs.Heads.{FindsHead}
use Rattle.osm_kept.specs.Names.{journal_name_of}
use Rattle.osm_kept.specs.Refusal.{HeadsStop}
use Rattle.osm_kept.specs.declared.fault.KeptFault.{KeptFault}
use Rattle.osm_operations.proofs.NumberKept.{head_number, other_number}
use Rattle.osm_operations.proofs.runs.kept_number.Goals as goal

pub returns-in-Ok-Some-clause-number : goal.returns-in-Ok-Some-clause-number
returns-in-Ok-Some-clause-number c =
    head_number c.args.save.now (files_of c.args.store.now) c.in-Ok-Some.head
    (subst (λ (o : Option Head). FindsHead (files_of c.args.store.now c.args.save.now) (files_of c.args.store.now (journal_name_of c.args.save.now)) o)
    c.in-Ok-Some.field-0-is
    (subst (λ (n : List ℕ). FindsHead (files_of c.args.store.now c.args.save.now) (files_of c.args.store.now n) c.in-Ok-Some.field-0)
    (c.as_str.ensures.value ∙ c.in_ok-journal.ensures.name) (c.in-Ok-Some.ensures.found refl)))

pub returns-in-Err-OtherJournal-clause-number : goal.returns-in-Err-OtherJournal-clause-number
returns-in-Err-OtherJournal-clause-number c =
    other_number c.laws_of_kept.ensures.opens c.args.save.now (files_of c.args.store.now) c.in-Err-OtherJournal._number
    (subst (λ (e : KeptFault). HeadsStop (files_of c.args.store.now c.args.save.now) (files_of c.args.store.now (journal_name_of c.args.save.now)) e)
    c.in-Err-OtherJournal.field-0-is
    (subst (λ (n : List ℕ). HeadsStop (files_of c.args.store.now c.args.save.now) (files_of c.args.store.now n) c.in-Err-OtherJournal.field-0)
    (c.as_str.ensures.value ∙ c.in_ok-journal.ensures.name) (c.in-Err-OtherJournal.ensures.refused refl)))
