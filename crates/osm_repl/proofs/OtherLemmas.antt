-- A run over the files that is neither `follow` nor `show`, and isn't carried out.
use Rattle.std.proofs.Common.{◌≡◌, ℕ, Bool, List, refl}
use Rattle.std.specs.Prelude.{IfErr, Option, Result}
use Rattle.std.specs.Borrow.{Bor}
use Rattle.std.specs.Result.{IsErrAnd}
use Rattle.osm_runs.specs.declared.fault.RunFault.{RunFault}
use Rattle.osm_runs.proofs.ResultLemmas.{same_err}
use Rattle.osm_words.specs.declared.orders.Order.{Order}
use Rattle.osm_words.specs.declared.orders.Order.TheVariants.{Replay, Publish, PublishAs, Follow, Lag, Show}
use Rattle.osm_words.specs.declared.orders.Order.TheVariants.{Audit, Begin, Changes, Convert, Counts, Export, Fingerprint, Get, Tally}
use Rattle.osm_repl.specs.Carrying.{IsNotCarriedOut, Seen}
use Rattle.osm_repl.specs.Execution.{IsNotDone, IsOtherRun, execution_of}
use Rattle.osm_repl.specs.declared.execution.Settings.{Settings}
use Rattle.osm_repl.specs.declared.notes.Notes.{Notes}
use Rattle.osm_repl.specs.declared.order_fault.OrderFault.{OrderFault}
use Rattle.osm_repl.specs.declared.order_fault.OrderFault.TheVariants.{Run}

pub is_other : (order : Order) → (order ≡ Replay → ⊥)
    → ((dir save : Bor (List ℕ)) → order ≡ Follow dir save → ⊥)
    → ((dir : Bor (List ℕ)) (from to : Option (Bor (List ℕ))) → order ≡ Audit dir from to → ⊥)
    → ((save : Bor (List ℕ)) → order ≡ Show save → ⊥)
    → ((dir output from to : Bor (List ℕ)) → order ≡ Changes dir output from to → ⊥)
    → ((dir from to : Bor (List ℕ)) (by : Option (Bor (List ℕ))) → order ≡ Tally dir from to by → ⊥)
    → ((save : Bor (List ℕ)) (referred : Bool) → order ≡ Get save referred → ⊥)
    → ((save : Bor (List ℕ)) (by : Option (Bor (List ℕ))) (csv : Bool) → order ≡ Counts save by csv → ⊥)
    → ((save : Bor (List ℕ)) → order ≡ Fingerprint save → ⊥) → IsOtherRun order
is_other Replay replay follow audit show changes tally get counts fingerprint = replay refl
is_other (Publish dir changed now) replay follow audit show changes tally get counts fingerprint = tt
is_other (PublishAs dir changed now sequence) replay follow audit show changes tally get counts fingerprint = tt
is_other (Begin base state save) replay follow audit show changes tally get counts fingerprint = tt
is_other (Follow dir save) replay follow audit show changes tally get counts fingerprint = follow dir save refl
is_other (Lag dir save) replay follow audit show changes tally get counts fingerprint = tt
is_other (Show save) replay follow audit show changes tally get counts fingerprint = show save refl
is_other (Export save output) replay follow audit show changes tally get counts fingerprint = tt
is_other (Convert input output) replay follow audit show changes tally get counts fingerprint = tt
is_other (Audit dir from to) replay follow audit show changes tally get counts fingerprint = audit dir from to refl
is_other (Changes dir output from to) replay follow audit show changes tally get counts fingerprint = changes dir output from to refl
is_other (Tally dir from to by) replay follow audit show changes tally get counts fingerprint = tally dir from to by refl
is_other (Get save referred) replay follow audit show changes tally get counts fingerprint = get save referred refl
is_other (Counts save by csv) replay follow audit show changes tally get counts fingerprint = counts save by csv refl
is_other (Fingerprint save) replay follow audit show changes tally get counts fingerprint = fingerprint save refl

not_carried : (settings : Settings) (order : Order) (a b : Seen) (notes : Notes) (fault : RunFault) → IsOtherRun order
    → IsNotDone (execution_of settings.options settings.sizes order a.store b.store) a.output b.output fault
    → IsNotCarriedOut settings order a b notes (Run fault)
not_carried settings Replay a b notes fault is not = absurd is
not_carried settings (Publish dir changes now) a b notes fault is not = not
not_carried settings (PublishAs dir changes now sequence) a b notes fault is not = not
not_carried settings (Begin base state save) a b notes fault is not = not
not_carried settings (Follow dir save) a b notes fault is not = absurd is
not_carried settings (Lag dir save) a b notes fault is not = not
not_carried settings (Show save) a b notes fault is not = absurd is
not_carried settings (Export save output) a b notes fault is not = not
not_carried settings (Convert input output) a b notes fault is not = not
not_carried settings (Audit dir from to) a b notes fault is not = absurd is
not_carried settings (Changes dir output from to) a b notes fault is not = absurd is
not_carried settings (Tally dir from to by) a b notes fault is not = absurd is
not_carried settings (Get save referred) a b notes fault is not = absurd is
not_carried settings (Counts save by csv) a b notes fault is not = absurd is
not_carried settings (Fingerprint save) a b notes fault is not = absurd is

pub other_refused : {T : Type 0} (settings : Settings) (order : Order) (a b : Seen) (notes : Notes) (fault : RunFault)
    (r : Result T OrderFault) → IsOtherRun order → IsErrAnd r (λ e. e ≡ Run fault)
    → IsNotDone (execution_of settings.options settings.sizes order a.store b.store) a.output b.output fault
    → IfErr r (IsNotCarriedOut settings order a b notes)
other_refused settings order a b notes fault r is err not = same_err (IsNotCarriedOut settings order a b notes) r (Run fault) err
    (not_carried settings order a b notes fault is not)
