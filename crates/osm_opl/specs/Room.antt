-- How much room a vector has for what is written to it, and what a reader needs memory for.
use Rattle.std.specs.Prelude.{ℕ, ◌+◌, ◌<◌, List, length, Vec, vec_capacity, Result, Ok, Err}
use Rattle.osm_reading.specs.declared.refusal.Refusal.{Refusal}
use Rattle.osm_reading.specs.declared.refusal.Refusal.TheVariants.{WantOfMemory, Fault}

-- the vector has to grow to take the text
pub record LacksRoom {Z : Type 0} (out : Vec ℕ Z) (text : List ℕ) : Type 0 where
  pub less : vec_capacity out < length out.items + length text

-- memory is refused only to a reading that needs some
abbrev pub WantsOnlyIf : {A : Type 0} → Type 0 → Result A Refusal → Type 0
WantsOnlyIf needs (Ok x) = Unit {0}
WantsOnlyIf needs (Err WantOfMemory) = needs
WantsOnlyIf needs (Err (Fault why)) = Unit {0}
