-- Readings that may fail, one step after another, and what an answer of the code says about them.
-- No public clause of a format cites these definitions: they are the words of its readers.
use Rattle.std.specs.Prelude.{◌≡◌, Bool, true, false, Option, Some, None, Result, Ok, Err}
use Rattle.osm_model.specs.declared.form.Why.{Why}
use Rattle.osm_reading.specs.declared.refusal.Refusal.{Refusal}
use Rattle.osm_reading.specs.declared.refusal.Refusal.TheVariants.{WantOfMemory, Fault}

-- the next step, if the one before it gave something
abbrev pub and_then : {A B : Type 0} → Option A → (A → Option B) → Option B
and_then (Some x) f = f x
and_then None f = None

-- the step, if the test holds
abbrev pub when : {A : Type 0} → Bool → Option A → Option A
when true step = step
when false step = None

-- the answer, seen by view, is what the reading gives
abbrev pub Finds : {A B : Type 0} → (A → B) → Result A Why → Option B → Type 0
Finds view (Ok x) reading = reading ≡ Some (view x)
Finds view (Err why) reading = reading ≡ None

-- nothing can be read, or memory was refused
abbrev pub Stops : {A : Type 0} → Refusal → Option A → Type 0
Stops WantOfMemory reading = Unit {0}
Stops (Fault why) reading = reading ≡ None

-- the answer, seen by view, is what the reading gives, unless memory was refused
abbrev pub Gives : {A B : Type 0} → (A → B) → Result A Refusal → Option B → Type 0
Gives view (Ok x) reading = reading ≡ Some (view x)
Gives view (Err refusal) reading = Stops refusal reading

-- memory was not refused
abbrev pub IsNoWant : Refusal → Type 0
IsNoWant WantOfMemory = ⊥
IsNoWant (Fault why) = Unit {0}
