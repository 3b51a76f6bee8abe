-- What a file has said since its last reset, and the numbers that its differences give (OSM wiki,
-- O5m: delta coding).
use Rattle.std.specs.Prelude.{◌≡◌, List, [], ◌∷◌, ◌++◌, ℕ, ℤ, pos, neg_ℤ, ◌+ℤ◌, ◌*ℤ◌, ◌≤ℤ◌}
use Rattle.osm_model.specs.declared.kind.Kind.{Kind}
use Rattle.osm_model.specs.declared.kind.Kind.TheVariants.{Node, Way, Relation}
use Rattle.osm_o5c.specs.Number.{SpellsSigned}
use Rattle.osm_o5c.specs.declared.strings.Entry.{Entry}

-- all differences of each counter since the last reset, and all strings in line since then
pub record Context : Type 0 where
  pub ids : List ℤ
  pub times : List ℤ
  pub changesets : List ℤ
  pub lons : List ℤ
  pub lats : List ℤ
  pub way_nodes : List ℤ
  pub node_members : List ℤ
  pub way_members : List ℤ
  pub relation_members : List ℤ
  pub strings : List Entry

-- right after a reset
abbrev pub fresh : Context
fresh = record {
  ids = [];
  times = [];
  changesets = [];
  lons = [];
  lats = [];
  way_nodes = [];
  node_members = [];
  way_members = [];
  relation_members = [];
  strings = [];
}

-- the sum of all differences
abbrev pub total : List ℤ → ℤ
total [] = pos 0
total (d ∷ ds) = d +ℤ total ds

-- the number from -2^31 to 2^31 - 1 that differs from the sum by a multiple of 2^32
pub record IsWrapped (value sum : ℤ) : Type 0 where
  pub multiple : ℤ
  pub low : neg_ℤ (pos 2147483648) ≤ℤ value
  pub high : value ≤ℤ pos 2147483647
  pub differs : sum ≡ value +ℤ pos 4294967296 *ℤ multiple

-- a difference that brings the sum of its counter to this number
pub record SpellsSum (before : List ℤ) (bytes : List ℕ) (sum : ℤ) (after : List ℤ) : Type 0 where
  pub difference : ℤ
  pub signed : SpellsSigned bytes difference
  pub added : after ≡ before ++ difference ∷ []
  pub sum_is : sum ≡ total after

-- a difference that brings the sum of its counter, in 32 bits, to this number
pub record SpellsWrapped (before : List ℤ) (bytes : List ℕ) (value : ℤ)
    (after : List ℤ) : Type 0 where
  pub difference : ℤ
  pub signed : SpellsSigned bytes difference
  pub added : after ≡ before ++ difference ∷ []
  pub wrapped : IsWrapped value (total after)

-- the differences of the counter for members of a kind
abbrev pub members_of : Kind → Context → List ℤ
members_of Node C = C.node_members
members_of Way C = C.way_members
members_of Relation C = C.relation_members

-- the context with these differences of the counter for members of a kind
abbrev pub with_members : Kind → Context → List ℤ → Context
with_members Node C ds = record C { node_members = ds }
with_members Way C ds = record C { way_members = ds }
with_members Relation C ds = record C { relation_members = ds }

-- the context with these strings in line
abbrev pub with_strings : Context → List Entry → Context
with_strings C strings = record C { strings = strings }

-- the digit of a member's kind: `0`, `1` or `2`
abbrev pub kind_digit : Kind → ℕ
kind_digit Node = 48
kind_digit Way = 49
kind_digit Relation = 50
