-- A run of no events, and a run with one more step.
use Rattle.std.proofs.Common.{List, [], ◌∷◌, ◌++◌, refl, arith, length-append}
use Rattle.osm_model.specs.Batch.{IsBatch}
use Rattle.osm_model.specs.Change.{ChangeValue}
use Rattle.osm_model.specs.Filter.{FilterValue}
use Rattle.osm_o5c.specs.File.{SpellsO5c}
use Rattle.osm_o5c.specs.Written.{o5c_text}
use Rattle.osm_opl.specs.File.{SpellsOpl}
use Rattle.osm_opl.specs.Written.{opl_text}
use Rattle.osm_world.specs.Correct.{IsRun}
use Rattle.osm_world.specs.History.{history_of}
use Rattle.osm_publisher.specs.Published.{PublishedValue, written_of}
use Rattle.osm_world.specs.Step.{Step, bytes_in, spells_in}
use Rattle.osm_world.specs.World.{WorldValue, new_world_of}
use Rattle.osm_world.specs.declared.event.Event.{Event}
use Rattle.osm_world.specs.declared.event.Form.{Form}
use Rattle.osm_world.specs.declared.event.Form.TheVariants.{Opl, O5c}
use Rattle.osm_world.specs.declared.event.Reply.{Reply}
use Rattle.osm_follow.proofs.DeliveryLemmas.{OneBatch, NoFaultBeside}
use Rattle.osm_world.proofs.LegalLemmas.{legal_none, legal_more, step_allowed}
use Rattle.osm_world.proofs.StepLemmas.{AreLawful, OneSave, history_of-snoc, step_keeps, new_in_step}

-- the laws of the forms and of state texts, collected
pub lawful : ((cs : List ChangeValue) → IsBatch cs → SpellsOpl (opl_text cs) cs) → OneBatch SpellsOpl
    → ((cs : List ChangeValue) → IsBatch cs → SpellsO5c (o5c_text cs) cs) → OneBatch SpellsO5c → NoFaultBeside
    → AreLawful
lawful opl one_opl o5c one_o5c apart = record { spelled = spelled; one = one; apart = apart }
  where
    spelled : (form : Form) (p : PublishedValue) → IsBatch p.changes → spells_in form (bytes_in form (written_of p)) p.changes
    spelled Opl p h = opl p.changes h
    spelled O5c p h = o5c p.changes h

    one : (form : Form) → OneBatch (spells_in form)
    one Opl = one_opl
    one O5c = one_o5c

pub run_none : (filter : FilterValue) → IsRun filter [] [] (new_world_of filter)
run_none filter = record { one_each = refl; legal = legal_none filter; in_step = new_in_step filter }

pub run_more : AreLawful → OneSave → (filter : FilterValue) (events : List Event) (replies : List Reply) (w : WorldValue) (e : Event)
    (r : Reply) (v : WorldValue) → IsRun filter events replies w → Step w e r v
    → IsRun filter (events ++ e ∷ []) (replies ++ r ∷ []) v
run_more laws one filter events replies w e r v run step = record {
  one_each = (let each = run.one_each in omega (arith, length-append events (e ∷ []), length-append replies (r ∷ [])));
  legal = rw (history_of-snoc events replies e r run.one_each) (legal_more filter (history_of events replies) e r run.legal
      (step_allowed laws one filter (history_of events replies) e r w v run.in_step step));
  in_step = rw (history_of-snoc events replies e r run.one_each) (step_keeps laws one filter (history_of events replies) e r w v run.in_step step);
}
