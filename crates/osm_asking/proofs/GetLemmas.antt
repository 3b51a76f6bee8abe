-- What is printed of an answer, and what is noted of it.
use Rattle.std.proofs.Common.{◌≡◌, ℕ, Bool, true, false, List, ◌∷◌, refl, ap, ◌∙◌, Option, Some, None}
use Rattle.std.specs.Prelude.{Err, IsTrue, Ok, OnOk, Result}
use Rattle.osm_model.specs.Change.{ChangeValue}
use Rattle.osm_model.specs.declared.kind.Key.{Key}
use Rattle.osm_store.specs.Frames.{IsKnown, StoreState}
use Rattle.osm_asking.specs.Asking.{AnswerStops, IsAnswer, IsAskFailed}
use Rattle.osm_asking.specs.Getting.{IsNoted, IsNotPrinted, before_those}
use Rattle.osm_asking.specs.Referring.{KnowsOf, also, noted_at, refers_to}
use Rattle.osm_asking.specs.Steps.Printing.{PutStops, asked_after, noted_after}
use Rattle.osm_asking.specs.declared.ask_fault.AskFault.{AskFault}
use Rattle.osm_asking.specs.declared.ask_fault.AskFault.TheVariants.{Kept, NoSave, NotWritten, Search, WantOfMemory}
use Rattle.osm_asking.specs.declared.get.Asking.{Asking}
use Rattle.osm_asking.specs.declared.get.Form.{Form}
use Rattle.osm_asking.proofs.ReferredLemmas.{knows_absent, knows_object}

noted_by : (answer : Option ChangeValue) (refers : Bool) (key : Key) (old new : List (Key × Bool)) (asked : List Key) (printed : List ChangeValue)
    → IsTrue refers → ((k : Key) → noted_at new k ≡ noted_after refers key answer k (noted_at old k)) → KnowsOf old asked printed
    → KnowsOf new (key ∷ asked) (before_those answer printed)
noted_by None true key old new asked printed sure step h = knows_absent old new key asked printed h step
noted_by (Some c) true key old new asked printed sure step h = knows_object old new key c asked printed h step
noted_by None false key old new asked printed sure step h = absurd (let bad : false ≡ true = sure in cc)
noted_by (Some c) false key old new asked printed sure step h = absurd (let bad : false ≡ true = sure in cc)

pub is_noted : (key : Key) (answer : Option ChangeValue) (old new : Asking)
    → ((k : Key) → noted_at new.referred.keys.entries k ≡ noted_after old.refers key answer k (noted_at old.referred.keys.entries k))
    → IsNoted key answer old new
is_noted key answer old new step asked printed sure h =
    noted_by answer old.refers key old.referred.keys.entries new.referred.keys.entries asked printed sure step h

-- the key was asked for, and then what its object refers to was noted
pub note_object : {T E : Type 0} (r : Result T E) (refers : Bool) (key : Key) (found : Option ChangeValue) (c : ChangeValue)
    (old asked new : List (Key × Bool)) → refers ≡ true → found ≡ Some c
    → ((k : Key) → noted_at asked k ≡ asked_after key k (noted_at old k))
    → OnOk r ((k : Key) → noted_at new k ≡ also (refers_to c.what k) (noted_at asked k))
    → OnOk r ((k : Key) → noted_at new k ≡ noted_after refers key found k (noted_at old k))
note_object (Err e) refers key found c old asked new on is step h = tt
note_object (Ok x) refers key found c old asked new on is step h = λ k.
    (let same : also (refers_to c.what k) (asked_after key k (noted_at old k)) ≡ noted_after refers key found k (noted_at old k) = rw (on, is) refl in
    h k ∙ (ap (also (refers_to c.what k)) (step k) ∙ same))

-- ---- why nothing is printed, or a part

pub unanswered : (a : StoreState) (save : List ℕ) (journal : Option (List ℕ)) (key : Key) (asking : Asking) (p : Option (List ℕ)) (fault : AskFault)
    → AnswerStops a save fault → IsNotPrinted a save journal key asking p p fault
unanswered a save journal key asking p NotWritten h = absurd h
unanswered a save journal key asking p NoSave h = (h, refl)
unanswered a save journal key asking p (Kept fault) h = (h, refl)
unanswered a save journal key asking p (Search fault) h = (h, refl)
unanswered a save journal key asking p WantOfMemory h = (h, refl)

pub unput : (a : StoreState) (save : List ℕ) (journal : Option (List ℕ)) (key : Key) (asking : Asking) (answer : Option ChangeValue)
    (p q : Option (List ℕ)) (fault : AskFault) → IsAnswer (IsKnown a) (a.files save) journal asking.sources key answer
    → PutStops asking.form answer p q fault → IsNotPrinted a save journal key asking p q fault
unput a save journal key asking answer p q NotWritten is h = record { answer = answer; is = is; part = h }
unput a save journal key asking answer p q WantOfMemory is h = (tt, h)
unput a save journal key asking answer p q NoSave is h = absurd h
unput a save journal key asking answer p q (Kept fault) is h = absurd h
unput a save journal key asking answer p q (Search fault) is h = absurd h

pub put_unblamed : (form : Form) (answer : Option ChangeValue) (p q : Option (List ℕ)) (fault : AskFault) → PutStops form answer p q fault
    → IsAskFailed fault → ⊥
put_unblamed form answer p q NotWritten h blame = blame
put_unblamed form answer p q WantOfMemory h blame = blame
put_unblamed form answer p q NoSave h blame = h
put_unblamed form answer p q (Kept fault) h blame = h
put_unblamed form answer p q (Search fault) h blame = h
