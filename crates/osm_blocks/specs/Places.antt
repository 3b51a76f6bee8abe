-- How far a file was read.
use Rattle.std.specs.Prelude.{◌≡◌, ℕ, ◌<◌, ◌≤◌, ◌+◌, List, [], ◌++◌, length, take, drop, Option}
use Rattle.std.specs.Prelude.{Some, None, Result, Ok, Err, Bool, true, false, ◌==◌}
use Rattle.osm_reading.specs.Pieces.{Lacks, cut_at}
use Rattle.osm_store.specs.Frames.{IsKnown, StoreState}
use Rattle.osm_blocks.specs.declared.fault.BlockFault.{BlockFault}
use Rattle.osm_blocks.specs.declared.fault.BlockFault.TheVariants.{Device, LongLine, TooLarge}
use Rattle.osm_blocks.specs.declared.fault.BlockFault.TheVariants.{WantOfMemory}

-- the most bytes of the first block of a file: 1 MiB
abbrev pub max_block : ℕ
max_block = 1048576

-- the most bytes of each block after it: 128 KiB
abbrev pub next_block : ℕ
next_block = 131072

-- the most bytes of a line
abbrev pub max_line : ℕ
max_line = 268435456

-- where a reader stands: the bytes that were read and not passed yet, and the place after them
pub record Place : Type 0 where
  pub unread : List ℕ
  pub from : ℕ

-- what is left of a file at that place
abbrev pub left_of : Place → List ℕ → List ℕ
left_of place file = place.unread ++ drop place.from file

-- the place after so many more bytes, which were read
abbrev pub past : ℕ → Place → Place
past count place = record { unread = drop count place.unread; from = place.from }

-- it is known that the file has these bytes
pub record HasFile (state : StoreState) (name file : List ℕ) : Type 0 where
  pub known : IsKnown state
  pub there : state.files name ≡ Some file

-- a file was opened: its first block was read. A file that isn't there isn't opened
abbrev pub Opens : Option Place → Option (List ℕ) → Type 0
Opens None told = told ≡ None
Opens (Some place) told = (file : List ℕ) × (told ≡ Some file)
    × (place.unread ≡ take max_block file) × (left_of place file ≡ file)

-- a file that is there was read up to the end of its first block
abbrev pub IsFirst : Option Place → Type 0
IsFirst None = Unit {0}
IsFirst (Some place) = place.from ≡ length place.unread

-- bytes were added
pub record IsLonger (old new : Place) : Type 0 where
  pub more : List ℕ
  pub unread : new.unread ≡ old.unread ++ more
  pub some : 0 < length more
  pub from : new.from ≡ old.from + length more
  pub fits : new.from ≤ 18446744073709551615

-- bytes were added, or none were
abbrev pub IsGrown : Bool → Place → Place → Type 0
IsGrown true old new = IsLonger old new
IsGrown false old new = new ≡ old

-- the next line has so many bytes, and all of it was read, with its LF
pub record IsLine (place : Place) (count : ℕ) : Type 0 where
  pub within : count < length place.unread
  pub cut : cut_at 10 place.unread ≡ Some (take count place.unread, drop (count + 1) place.unread)

-- what is left begins with more bytes without LF than a line has
pub record IsLong (bytes : List ℕ) : Type 0 where
  pub line : List ℕ
  pub after : List ℕ
  pub parts : bytes ≡ line ++ after
  pub lacks : Lacks 10 line
  pub long : max_line < length line

-- a file has more bytes than 64 bits count
abbrev pub IsHuge : List ℕ → Type 0
IsHuge file = 18446744073709551615 < length file

-- a block was read on from a known file, or nothing is left past what was read
abbrev pub ReadsMore : List ℕ → Place → Place → Result Bool BlockFault → Type 0
ReadsMore file old new (Ok true) = (left_of new file ≡ left_of old file) × (new.from ≤ length file)
ReadsMore file old new (Ok false) = drop old.from file ≡ []
ReadsMore file old new (Err TooLarge) = IsHuge file
ReadsMore file old new (Err LongLine) = ⊥
ReadsMore file old new (Err Device) = Unit {0}
ReadsMore file old new (Err WantOfMemory) = Unit {0}

-- what is left of a known file is as before, and all of it was read
pub record IsAllRead (file : List ℕ) (old new : Place) : Type 0 where
  pub same : left_of new file ≡ left_of old file
  pub ended : drop new.from file ≡ []

-- why a file isn't read on: a line is too long, or the file, only if it is
abbrev pub ReadStops : List ℕ → Place → BlockFault → Type 0
ReadStops file place LongLine = IsLong (left_of place file)
ReadStops file place TooLarge = IsHuge file
ReadStops file place Device = Unit {0}
ReadStops file place WantOfMemory = Unit {0}

-- the next line of a known file, if an LF is left
abbrev pub FindsLine : List ℕ → Place → Place → Result (Option ℕ) BlockFault → Type 0
FindsLine file old new (Ok (Some count)) =
    cut_at 10 (left_of old file)
    ≡ Some (take count new.unread, left_of (past (count + 1) new) file)
FindsLine file old new (Ok None) = cut_at 10 (left_of old file) ≡ None
FindsLine file old new (Err fault) = ReadStops file old fault

-- whether nothing is left of a known file
abbrev pub FindsEnd : List ℕ → Place → Result Bool BlockFault → Type 0
FindsEnd file place (Ok is_ended) = (length (left_of place file) == 0) ≡ is_ended
FindsEnd file place (Err LongLine) = ⊥
FindsEnd file place (Err TooLarge) = IsHuge file
FindsEnd file place (Err Device) = Unit {0}
FindsEnd file place (Err WantOfMemory) = Unit {0}
