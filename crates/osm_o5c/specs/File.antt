-- Files of datasets, and the places of their faults (OSM wiki, O5m: the file). A change file has
-- the changes of a batch, a data file the objects of a mirror.
use Rattle.std.specs.Prelude.{◌≡◌, ℕ, ◌+◌, ◌<◌, ◌≤◌, List, [], ◌∷◌, ◌++◌, length, Option, Some}
use Rattle.std.specs.Prelude.{None}
use Rattle.osm_model.specs.Batch.{IsBatch}
use Rattle.osm_model.specs.Change.{ChangeValue}
use Rattle.osm_model.specs.Data.{IsData}
use Rattle.osm_model.specs.declared.kind.Kind.{Kind}
use Rattle.osm_model.specs.declared.kind.Kind.TheVariants.{Node, Way, Relation}
use Rattle.osm_o5c.specs.Number.{SpellsNumber}
use Rattle.osm_o5c.specs.Context.{Context, fresh}
use Rattle.osm_o5c.specs.Object.{SpellsObject}

-- the beginning of a change file: reset, header, length 4, `o5c2`
abbrev pub beginning : List ℕ
beginning = 0xff ∷ 0xe0 ∷ 4 ∷ 0x6f ∷ 0x35 ∷ 0x63 ∷ 0x32 ∷ []

-- the beginning of a data file: reset, header, length 4, `o5m2`
abbrev pub data_beginning : List ℕ
data_beginning = 0xff ∷ 0xe0 ∷ 4 ∷ 0x6f ∷ 0x35 ∷ 0x6d ∷ 0x32 ∷ []

-- the type byte of an object
abbrev pub kind_byte : Kind → ℕ
kind_byte Node = 0x10
kind_byte Way = 0x11
kind_byte Relation = 0x12

-- the byte at the end of a file
abbrev pub end_byte : ℕ
end_byte = 0xfe

-- one dataset, and the change that it holds if it is an object: an object with its length; another
-- type below f0, skipped by its length; a type from f0 to fd, with neither length nor content; a
-- reset
pub data Dataset : Context → List ℕ → Option ChangeValue → Context → Type 0 where
  object : (C : Context) (length_bytes content : List ℕ) (c : ChangeValue) (after : Context)
      → SpellsNumber length_bytes (length content) → SpellsObject C content c after
      → Dataset C (kind_byte c.key.kind ∷ length_bytes ++ content) (Some c) after
  skipped : (C : Context) (kind : ℕ) (length_bytes content : List ℕ)
      → kind < 0xf0 → ((k : Kind) → kind ≡ kind_byte k → ⊥)
      → SpellsNumber length_bytes (length content)
      → Dataset C (kind ∷ length_bytes ++ content) None C
  lone : (C : Context) (kind : ℕ) → 0xf0 ≤ kind → kind < 0xfe → Dataset C (kind ∷ []) None C
  reset : (C : Context) → Dataset C (0xff ∷ []) None fresh

-- the changes, with that of one more dataset if it holds one
abbrev pub changes_with : List ChangeValue → Option ChangeValue → List ChangeValue
changes_with changes None = changes
changes_with changes (Some c) = changes ++ c ∷ []

-- a valid prefix of a file: its beginning, followed by any number of datasets, whose changes are
-- within the limits of the file
pub data Front (start : List ℕ) (Limits : List ChangeValue → Type 0)
    : List ℕ → Context → List ChangeValue → Type 0 where
  begin : Front start Limits start fresh []
  next : (prefix : List ℕ) (C : Context) (changes : List ChangeValue) (dataset : List ℕ)
      (found : Option ChangeValue) (after : Context)
      → Front start Limits prefix C changes → Dataset C dataset found after
      → Limits (changes_with changes found)
      → Front start Limits (prefix ++ dataset) after (changes_with changes found)

-- a valid prefix with these changes, the end byte, and nothing else
pub record SpellsFile (start : List ℕ) (Limits : List ChangeValue → Type 0) (bytes : List ℕ)
    (changes : List ChangeValue) : Type 0 where
  pub prefix : List ℕ
  pub context : Context
  pub is_front : Front start Limits prefix context changes
  pub whole : bytes ≡ prefix ++ end_byte ∷ []

-- the bytes begin with a valid prefix that no dataset extends to a longer one
pub record Longest (start : List ℕ) (Limits : List ChangeValue → Type 0)
    (bytes prefix rest : List ℕ) : Type 0 where
  pub context : Context
  pub changes : List ChangeValue
  pub is_front : Front start Limits prefix context changes
  pub whole : bytes ≡ prefix ++ rest
  pub last : (dataset : List ℕ) (found : Option ChangeValue) (after : Context) (more : List ℕ)
      → Dataset context dataset found after → Limits (changes_with changes found)
      → rest ≡ dataset ++ more → ⊥

-- the place of a fault: 0 if the bytes don't have the beginning; one past the longest valid prefix
-- if the end byte follows it and more bytes follow that; otherwise the end of that prefix
pub data FaultIn (start : List ℕ) (Limits : List ChangeValue → Type 0)
    : List ℕ → ℕ → Type 0 where
  no_beginning : (bytes : List ℕ) → ((more : List ℕ) → bytes ≡ start ++ more → ⊥)
      → FaultIn start Limits bytes 0
  after_end : (bytes prefix : List ℕ) (b : ℕ) (more : List ℕ)
      → Longest start Limits bytes prefix (end_byte ∷ b ∷ more)
      → FaultIn start Limits bytes (length prefix + 1)
  no_dataset : (bytes prefix rest : List ℕ) → Longest start Limits bytes prefix rest
      → ((more : List ℕ) → rest ≡ end_byte ∷ more → ⊥)
      → FaultIn start Limits bytes (length prefix)

-- a change file: its changes are a batch, at most 100,000
abbrev pub SpellsO5c : List ℕ → List ChangeValue → Type 0
SpellsO5c = SpellsFile beginning IsBatch

-- the place of the fault of a change file
abbrev pub FaultPlace : List ℕ → ℕ → Type 0
FaultPlace = FaultIn beginning IsBatch

-- a data file: its objects aren't deleted, and their keys rise; there may be any number of them
abbrev pub SpellsData : List ℕ → List ChangeValue → Type 0
SpellsData = SpellsFile data_beginning IsData

-- the place of the fault of a data file
abbrev pub DataFaultPlace : List ℕ → ℕ → Type 0
DataFaultPlace = FaultIn data_beginning IsData
