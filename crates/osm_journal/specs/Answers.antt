-- What the reader's answers mean.
use Rattle.std.specs.Prelude.{◌≡◌, Option, Some, None, Result, Ok, Err}
use Rattle.osm_journal.specs.declared.journal.JournalError.{JournalError}
use Rattle.osm_journal.specs.declared.journal.JournalError.TheVariants.{BadLine, WantOfMemory}

-- nothing can be read, or memory was refused
abbrev pub Stops : {A : Type 0} → JournalError → Option A → Type 0
Stops WantOfMemory reading = Unit {0}
Stops (BadLine line) reading = reading ≡ None

-- the answer, seen through `view`, is what the reading gives, unless memory was refused
abbrev pub Gives : {A B : Type 0} → (A → B) → Result A JournalError → Option B → Type 0
Gives view (Ok x) reading = reading ≡ Some (view x)
Gives view (Err error) reading = Stops error reading
