-- Where a reader of a data file stands.
use Rattle.std.specs.Prelude.{◌≡◌, ℕ, ◌+◌, ◌-◌, ◌≤◌, List, [], IsTrue, drop, length}
use Rattle.std.specs.Prelude.{if◌then◌else◌}
use Rattle.osm_model.specs.Change.{ChangeValue}
use Rattle.osm_blocks.specs.Calls.{reads_ahead}
use Rattle.osm_blocks.specs.Places.{IsHuge, left_of}
use Rattle.osm_data.specs.declared.fault.DataFault.{DataFault}
use Rattle.osm_data.specs.declared.fault.DataFault.TheVariants.{Device, WantOfMemory, NoFile}
use Rattle.osm_data.specs.declared.fault.DataFault.TheVariants.{BadData, LongPart, TooLarge}
use Rattle.osm_data.specs.Steps.O5mReading.{HasReadTo}
use Rattle.osm_data.specs.declared.o5m_data.O5mData.{O5mData}

-- what is left of a file
abbrev pub left_in : O5mData → List ℕ → List ℕ
left_in reader file = left_of reader.reader file

-- those objects of a file were read; if the end was found, nothing of it is left but what was read
pub record HasRead (reader : O5mData) (file : List ℕ) (done : List ChangeValue) : Type 0 where
  pub read : HasReadTo file done reader.held (left_in reader file)
  pub within : reader.reader.from ≤ length file
  pub ended : IsTrue reader.is_ended → drop reader.reader.from file ≡ []

-- the bytes that weren't passed, and those that 64 bits still count
abbrev pub ahead_of : O5mData → ℕ
ahead_of reader = length reader.reader.unread + (18446744073709551615 - reader.reader.from)

-- the calls of the store that are ahead, none if the end was found
abbrev pub calls_of : O5mData → List ℕ → ℕ
calls_of reader file = if reader.is_ended then 0 else reads_ahead reader.reader file

-- more of a file was read, and nothing was passed
pub record Keeps (file : List ℕ) (old new : O5mData) : Type 0 where
  pub read : (done : List ChangeValue) → HasRead old file done → HasRead new file done
  pub left : left_in new file ≡ left_in old file

-- why no more of a file is read: it has too many bytes only if it has
abbrev pub FillStops : List ℕ → DataFault → Type 0
FillStops file Device = Unit {0}
FillStops file WantOfMemory = Unit {0}
FillStops file NoFile = ⊥
FillStops file (BadData place why) = ⊥
FillStops file LongPart = ⊥
FillStops file TooLarge = IsHuge file
