-- What a refusal says.
use Rattle.osm_reading.specs.declared.refusal.Refusal.{Refusal}
use Rattle.osm_reading.specs.declared.refusal.Refusal.TheVariants.{WantOfMemory, Fault}

-- out of memory
abbrev pub IsWant : Refusal → Type 0
IsWant WantOfMemory = Unit {0}
IsWant (Fault why) = ⊥
