-- An index of slots for each kind and what is left at them, seen as net changes of objects.
use Rattle.std.specs.Prelude.{◌≡◌, ℕ, ◌<◌, ℤ, List, [], ◌∷◌, ◌++◌, length, map, get_or}
use Rattle.std.specs.Prelude.{Option, None}
use Rattle.std.specs.List.{AllByRecursion}
use Rattle.osm_model.specs.Change.{ChangeValue}
use Rattle.osm_model.specs.declared.kind.Key.{Key}
use Rattle.osm_model.specs.declared.kind.Kind.{Kind}
use Rattle.osm_model.specs.declared.kind.Kind.TheVariants.{Node, Way, Relation}
use Rattle.osm_net.specs.Net.{HasOwnKey, LeavesObject, NetEntry}

-- an id, and what is left of its object; none if the object goes away
abbrev pub IdEntry : Type 0
IdEntry = ℤ × Option ChangeValue

-- what is left at a slot
abbrev pub slot_at : List (Option ChangeValue) → ℕ → Option ChangeValue
slot_at slots slot = get_or slots slot None

-- each id with what is left at its slot
abbrev pub entries_of : List (ℤ × ℕ) → List (Option ChangeValue) → List IdEntry
entries_of index slots = map (λ e. (e.0, slot_at slots e.1)) index

-- ids with what is left of each, in the same order
abbrev pub paired : List ℤ → List (Option ChangeValue) → List IdEntry
paired [] lefts = []
paired (id ∷ ids) [] = []
paired (id ∷ ids) (left ∷ lefts) = (id, left) ∷ paired ids lefts

-- an id's slot is one of the first `many`
abbrev pub IsBelow : ℕ → ℤ × ℕ → Type 0
IsBelow many e = e.1 < many

-- an id has another slot
abbrev pub IsApart : ℕ → ℤ × ℕ → Type 0
IsApart slot e = e.1 ≡ slot → ⊥

-- no two ids have one slot
abbrev pub AreApart : List (ℤ × ℕ) → Type 0
AreApart [] = Unit {0}
AreApart (e ∷ es) = AllByRecursion (IsApart e.1) es × AreApart es

-- each id has one of the first `many` slots to itself
pub record AreSlots (index : List (ℤ × ℕ)) (many : ℕ) : Type 0 where
  pub below : AllByRecursion (IsBelow many) index
  pub apart : AreApart index

-- and there are no other slots
pub record FillSlots (index : List (ℤ × ℕ)) (many : ℕ) : Type 0 where
  pub slots : AreSlots index many
  pub all : length index ≡ many

abbrev pub key_of : Kind → ℤ → Key
key_of kind id = record { kind = kind; id = id }

-- entries of one kind, under their keys
abbrev pub of_kind : Kind → List IdEntry → List NetEntry
of_kind kind entries = map (λ e. (key_of kind e.0, e.1)) entries

-- the entries of all kinds: nodes, then ways, then relations
abbrev pub of_kinds : List IdEntry → List IdEntry → List IdEntry → List NetEntry
of_kinds nodes ways relations =
    of_kind Node nodes ++ (of_kind Way ways ++ of_kind Relation relations)

-- what is left is under its own key, and an object that a mirror may have
pub record AreEntries (entries : List NetEntry) : Type 0 where
  pub own : AllByRecursion HasOwnKey entries
  pub each : AllByRecursion LeavesObject entries
