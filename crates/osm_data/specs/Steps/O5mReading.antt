-- How far a file was read.
use Rattle.std.specs.Prelude.{◌≡◌, ℕ, List, [], ◌∷◌, ◌++◌, Option, Some}
use Rattle.std.specs.Prelude.{None}
use Rattle.std.specs.declared.cmp.Ordering.TheVariants.{Less}
use Rattle.osm_model.specs.Change.{ChangeValue}
use Rattle.osm_model.specs.Data.{IsData}
use Rattle.osm_model.specs.KeyOrder.{key_cmp}
use Rattle.osm_model.specs.declared.kind.Key.{Key}
use Rattle.osm_o5c.specs.File.{data_beginning}
use Rattle.osm_o5c.specs.Datasets.{Position, Stops, new_reader, position, step}
use Rattle.osm_o5c.specs.declared.reader.Reader.{Reader}
use Rattle.osm_reading.specs.declared.refusal.Refusal.{Refusal}
use Rattle.osm_reading.specs.declared.refusal.Refusal.TheVariants.{WantOfMemory, Fault}
use Rattle.osm_data.specs.declared.o5m_held.Held.{Held}

-- the reader that goes on
abbrev pub reader_in : Held → Reader
reader_in held = record { counters = held.counters; strings = held.strings }

-- the key of the last object, if there is one; that of an earlier one if these are none
abbrev pub last_after : Option Key → List ChangeValue → Option Key
last_after last [] = last
last_after last (c ∷ cs) = last_after (Some c.key) cs

-- the first of the objects has a higher key than the last one before them
abbrev pub Follows : Option Key → List ChangeValue → Type 0
Follows None objects = Unit {0}
Follows (Some key) [] = Unit {0}
Follows (Some key) (c ∷ cs) = key_cmp key c.key ≡ Less

-- the objects are data, and can follow the last one before them
pub record IsPart (last : Option Key) (objects : List ChangeValue) : Type 0 where
  pub right : IsData objects
  pub follows : Follows last objects

-- an object isn't added to a part: for a fault, none may come next
abbrev pub PartStops : Option Key → Position → Refusal → Type 0
PartStops last p WantOfMemory = Unit {0}
PartStops last p (Fault why) = Stops (IsPart last) (step p)

-- a reader over the whole file comes to that position
pub data Reaches (file : List ℕ) : Position → Type 0 where
  begins : (rest : List ℕ) → file ≡ data_beginning ++ rest
      → Reaches file (position new_reader [] rest)
  goes_on : (p q : Position) → Reaches file p → step p ≡ Some q → IsData q.changes
      → Reaches file q

-- of a file, those objects were read, and that is left
pub record HasReadTo (file : List ℕ) (done : List ChangeValue) (held : Held) (rest : List ℕ)
    : Type 0 where
  pub reached : Reaches file (position (reader_in held) done rest)
  pub last : held.last ≡ last_after None done
