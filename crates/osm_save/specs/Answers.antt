-- What the reader's answers mean.
use Rattle.std.specs.Prelude.{◌≡◌, Option, Some, None, Result, Ok, Err}
use Rattle.osm_save.specs.declared.stop.Stop.{Stop}
use Rattle.osm_save.specs.declared.stop.Stop.TheVariants.{WantOfMemory, Wrong}

-- nothing can be read, or memory was refused
abbrev pub Stops : {A : Type 0} → Stop → Option A → Type 0
Stops WantOfMemory reading = Unit {0}
Stops (Wrong left) reading = reading ≡ None

-- the answer, seen through `view`, is what the reading gives, unless memory was refused
abbrev pub Gives : {A B : Type 0} → (A → B) → Result A Stop → Option B → Type 0
Gives view (Ok x) reading = reading ≡ Some (view x)
Gives view (Err stop) reading = Stops stop reading

-- nothing can be read
abbrev pub StopsPlainly : {A : Type 0} → Stop → Option A → Type 0
StopsPlainly WantOfMemory reading = ⊥
StopsPlainly (Wrong left) reading = reading ≡ None

-- the answer, seen through `view`, is what the reading gives: no memory is taken
abbrev pub Finds : {A B : Type 0} → (A → B) → Result A Stop → Option B → Type 0
Finds view (Ok x) reading = reading ≡ Some (view x)
Finds view (Err stop) reading = StopsPlainly stop reading

-- memory was refused only if some was needed
abbrev pub WantedIf : Type 0 → Stop → Type 0
WantedIf needs WantOfMemory = needs
WantedIf needs (Wrong left) = Unit {0}

-- memory is refused only to a reading that needs some
abbrev pub WantsOnlyIf : {A : Type 0} → Type 0 → Result A Stop → Type 0
WantsOnlyIf needs (Ok x) = Unit {0}
WantsOnlyIf needs (Err stop) = WantedIf needs stop
