-- How a save text begins.
use Rattle.std.specs.Prelude.{◌≡◌, ℕ, List, drop, Option, None, Some}
use Rattle.osm_blocks.specs.Places.{Place, left_of, past}
use Rattle.osm_save.specs.Reading.{head_at}
use Rattle.osm_merge.specs.declared.fault.MergeFault.{MergeFault}
use Rattle.osm_merge.specs.declared.fault.MergeFault.TheVariants.{BadSave, NoSave, ReadFault}
use Rattle.osm_merge.specs.declared.fault.MergeFault.TheVariants.{WriteFault}
use Rattle.osm_merge.specs.declared.fault.MergeFault.TheVariants.{WantOfMemory}
use Rattle.osm_merge.specs.declared.opening.Opening.{Opening}

-- the head of the unread bytes was read, and its bytes were passed
pub record ReadsOpening (old new : Place) (o : Opening) : Type 0 where
  pub count : ℕ
  pub passed : new ≡ past count old
  pub head : head_at old.unread ≡ Some (o.version, o.head, o.filter, drop count old.unread)

-- the unread bytes begin with no head
abbrev pub ReadingStops : List ℕ → MergeFault → Type 0
ReadingStops bytes (BadSave line) = head_at bytes ≡ None
ReadingStops bytes WantOfMemory = Unit {0}
ReadingStops bytes fault = ⊥

-- a file was opened: its head was read, and the place is after the head
pub record IsOpened (told : Option (List ℕ)) (place : Place) (o : Opening) : Type 0 where
  pub file : List ℕ
  pub there : told ≡ Some file
  pub head : head_at file ≡ Some (o.version, o.head, o.filter, left_of place file)

-- the file begins with no head
pub record HasNoHead (told : Option (List ℕ)) : Type 0 where
  pub file : List ℕ
  pub there : told ≡ Some file
  pub head : head_at file ≡ None

-- why no head is read from a file
abbrev pub OpeningStops : Option (List ℕ) → MergeFault → Type 0
OpeningStops told NoSave = told ≡ None
OpeningStops told (BadSave line) = HasNoHead told
OpeningStops told ReadFault = Unit {0}
OpeningStops told WriteFault = Unit {0}
OpeningStops told WantOfMemory = Unit {0}
OpeningStops told fault = ⊥
