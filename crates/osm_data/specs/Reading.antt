-- Reading the objects of a data file, and why they aren't read. `goes_wrong` and `is_long` are what
-- the form says of bytes.
use Rattle.std.specs.Prelude.{◌≡◌, ℕ, ◌+◌, Bool, true, false, List, Option, Some, None}
use Rattle.osm_blocks.specs.Calls.{blocks_after_first}
use Rattle.osm_store.specs.Frames.{IsKnown, StoreState}
use Rattle.osm_blocks.specs.Places.{IsHuge}
use Rattle.osm_blocks.specs.declared.fault.BlockFault.{BlockFault}
use Rattle.osm_blocks.specs.declared.fault.BlockFault.TheVariants as blocks
use Rattle.osm_data.specs.declared.fault.DataFault.{DataFault}
use Rattle.osm_data.specs.declared.fault.DataFault.TheVariants.{Device, WantOfMemory, NoFile}
use Rattle.osm_data.specs.declared.fault.DataFault.TheVariants.{BadData, LongPart, TooLarge}

-- the device is the reason
abbrev pub IsDeviceFault : DataFault → Type 0
IsDeviceFault Device = Unit {0}
IsDeviceFault fault = ⊥

-- why a data file isn't read, from why its blocks or lines aren't
abbrev pub blocks_fault_of : BlockFault → DataFault
blocks_fault_of blocks.Device = Device
blocks_fault_of blocks.LongLine = LongPart
blocks_fault_of blocks.TooLarge = TooLarge
blocks_fault_of blocks.WantOfMemory = WantOfMemory

-- nothing comes, or something
abbrev pub EndsOrGoesOn : Type 0 → Type 0 → Bool → Type 0
EndsOrGoesOn ends goes_on false = ends
EndsOrGoesOn ends goes_on true = goes_on

-- the file is there, and this holds of its bytes
abbrev pub Holds : (List ℕ → Type 0) → Option (List ℕ) → Type 0
Holds holds told = (file : List ℕ) × (told ≡ Some file) × holds file

-- why a file isn't opened
abbrev pub OpenStops : (List ℕ → ℕ → Type 0) → (List ℕ → Type 0) → StoreState → List ℕ → DataFault
    → Type 0
OpenStops goes_wrong is_long state name Device = Unit {0}
OpenStops goes_wrong is_long state name WantOfMemory = Unit {0}
OpenStops goes_wrong is_long state name NoFile = IsKnown state → state.files name ≡ None
OpenStops goes_wrong is_long state name (BadData place why) =
    IsKnown state → Holds (λ file. goes_wrong file place) (state.files name)
OpenStops goes_wrong is_long state name LongPart =
    IsKnown state → Holds is_long (state.files name)
OpenStops goes_wrong is_long state name TooLarge =
    IsKnown state → Holds IsHuge (state.files name)

-- why a known file isn't read on
abbrev pub NextStops : (List ℕ → ℕ → Type 0) → (List ℕ → Type 0) → List ℕ → DataFault → Type 0
NextStops goes_wrong is_long file Device = Unit {0}
NextStops goes_wrong is_long file WantOfMemory = Unit {0}
NextStops goes_wrong is_long file NoFile = ⊥
NextStops goes_wrong is_long file (BadData place why) = goes_wrong file place
NextStops goes_wrong is_long file LongPart = is_long file
NextStops goes_wrong is_long file TooLarge = IsHuge file

-- the calls that it takes at most to read a file of so many bytes: one for the first block, which
-- has up to 1 MiB, one for each block after it, and one that finds the end
abbrev pub read_calls : ℕ → ℕ
read_calls bytes = 2 + blocks_after_first bytes
