-- Files that a run names twice.
use Rattle.std.specs.Prelude.{◌≡◌, List, [], ◌∷◌, Option, Some, None}
use Rattle.osm_runs.specs.declared.fault.FileName.TheVariants.{Top, Save, Journal, Base, State}
use Rattle.osm_runs.specs.declared.fault.FileName.TheVariants.{Changes, Input, Output}
use Rattle.osm_words.specs.declared.orders.Order.{Order}
use Rattle.osm_words.specs.declared.orders.Order.TheVariants.{Publish, PublishAs, Begin, Follow}
use Rattle.osm_words.specs.declared.orders.Order.TheVariants.{Changes, Convert, Export}
use Rattle.osm_repl.specs.declared.twice.Another.{Another}
use Rattle.osm_repl.specs.declared.twice.Named.{Named}
use Rattle.osm_repl.specs.declared.twice.Named.TheVariants.{File, SaveLock, FolderLock}
use Rattle.osm_repl.specs.declared.twice.Place.{Place}
use Rattle.osm_repl.specs.declared.twice.Placed.{Placed}

-- the files of a save
abbrev pub files_of_save : List Named
files_of_save = File Save ∷ File Journal ∷ SaveLock ∷ []

-- the files of a folder that have no number
abbrev pub files_of_folder : List Named
files_of_folder = File Top ∷ FolderLock ∷ []

-- what an order writes
abbrev pub written_by : Order → List Named
written_by (Publish dir changes now) = files_of_folder
written_by (PublishAs dir changes now sequence) = files_of_folder
written_by (Begin base state save) = files_of_save
written_by (Follow dir save) = files_of_save
written_by (Export save output) = File Output ∷ []
written_by (Convert input output) = File Output ∷ []
written_by (Changes dir output from to) = File Output ∷ []
written_by order = []

-- what its other words name
abbrev pub others_of : Order → List Named
others_of (Publish dir changes now) = File Changes ∷ []
others_of (PublishAs dir changes now sequence) = File Changes ∷ []
others_of (Begin base state save) = File Base ∷ File State ∷ []
others_of (Follow dir save) = files_of_folder
others_of (Changes dir output from to) = files_of_folder
others_of (Export save output) = files_of_save
others_of (Convert input output) = File Input ∷ []
others_of order = []

-- two places are one: the same name in the same folder
pub record IsOnePlace (a b : Place) : Type 0 where
  pub device : a.device ≡ b.device
  pub folder : a.folder ≡ b.folder
  pub name : a.name.now ≡ b.name.now

-- two files lie at one place; a pipe or a device lies at none
abbrev pub AtOnePlace : Option Place → Option Place → Type 0
AtOnePlace (Some a) (Some b) = IsOnePlace a b
AtOnePlace a b = ⊥

abbrev pub IsSame : Placed → Placed → Type 0
IsSame one other = AtOnePlace one.place other.place

-- the first of the files that lies where that one does, if any does
pub data IsFirstOf (one : Placed) : List Placed → Option Named → Type 0 where
  of_none : IsFirstOf one [] None
  is_this : (other : Placed) (rest : List Placed) → IsSame one other
      → IsFirstOf one (other ∷ rest) (Some other.file)
  is_later : (other : Placed) (rest : List Placed) (found : Option Named)
      → (IsSame one other → ⊥) → IsFirstOf one rest found → IsFirstOf one (other ∷ rest) found

-- the first of the written files that lies where another one does, and the first one there, if any
-- does
pub data IsFirstPair (others : List Placed) : List Placed → Option (Named × Another) → Type 0 where
  no_pair : IsFirstPair others [] None
  this_pair : (one : Placed) (rest : List Placed) (other : Named)
      → IsFirstOf one others (Some other)
      → IsFirstPair others (one ∷ rest) (Some (one.file, record { file = other }))
  later_pair : (one : Placed) (rest : List Placed) (found : Option (Named × Another))
      → IsFirstOf one others None → IsFirstPair others rest found
      → IsFirstPair others (one ∷ rest) found
