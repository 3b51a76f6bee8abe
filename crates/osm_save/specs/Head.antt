-- The head of a save text: the lines before its objects (our choice).
use Rattle.std.specs.Prelude.{◌≡◌, ℕ, ◌-◌, ◌*◌, ◌<◌, ◌≤◌, List, [], ◌∷◌, ◌++◌, codes, decimal}
use Rattle.std.specs.Prelude.{Bool, true, Option, Some, None}
use Rattle.osm_model.specs.CivilTime.{time_text}
use Rattle.osm_model.specs.Filter.{FilterValue, IsFilter, has_kind}
use Rattle.osm_model.specs.Limits.{IsPositive, max_changes, max_keys, max_sequence}
use Rattle.osm_save.specs.Filters.{TellsFilter, kinds_text, told_lines}
use Rattle.osm_save.specs.Lines.{ended}
use Rattle.osm_save.specs.declared.head.Head.{Head}
use Rattle.osm_save.specs.declared.save.Saved.{Saved}
use Rattle.osm_save.specs.declared.version.Version.{Version}
use Rattle.osm_save.specs.declared.version.Version.TheVariants.{One, Three, Two}

-- `none`, or YYYY-MM-DDTHH:MM:SSZ
abbrev pub maybe_time_text : Option ℕ → List ℕ
maybe_time_text None = codes "none"
maybe_time_text (Some time) = time_text time

-- the line that names the version, and from version 2 on the line with the base
abbrev pub first_lines : Version → ℕ → List (List ℕ)
first_lines One base = codes "osmrepl-save 1" ∷ []
first_lines Two base = codes "osmrepl-save 2" ∷ (codes "base " ++ decimal base) ∷ []
first_lines Three base = codes "osmrepl-save 3" ∷ (codes "base " ++ decimal base) ∷ []

-- the lines before the objects, without their ends: from version 3 on the filter is among them
abbrev pub head_lines : Version → Head → FilterValue → List (List ℕ)
head_lines version head f =
    first_lines version head.base
    ++ told_lines version f
    ++ (codes "sequence " ++ decimal head.number)
    ∷ (codes "time " ++ maybe_time_text head.time)
    ∷ []

-- number 0 has no time, and every other number has one
abbrev pub IsTimeOf : ℕ → Option ℕ → Type 0
IsTimeOf number None = number ≡ 0
IsTimeOf number (Some time) = (0 < number) × IsPositive time

-- version 1 tells no base, which is 0 then
abbrev pub TellsBase : Version → ℕ → Type 0
TellsBase One base = base ≡ 0
TellsBase Two base = Unit {0}
TellsBase Three base = Unit {0}

-- a head that a save text of that version can have: the base isn't above the number
pub record IsHeadIn (version : Version) (head : Head) : Type 0 where
  pub number : head.number ≤ max_sequence
  pub base : head.base ≤ head.number
  pub told : TellsBase version head.base
  pub time : IsTimeOf head.number head.time

-- the bytes begin with the head of a save text, under some filter
pub record BeginsSave (bytes : List ℕ) (head : Head) : Type 0 where
  pub version : Version
  pub filter : FilterValue
  pub limits : IsHeadIn version head
  pub is_filter : IsFilter filter
  pub tells : TellsFilter version filter
  pub rest : List ℕ
  pub parts : bytes ≡ ended (head_lines version head filter) ++ rest

-- the bytes begin with the lines of version 3 before the keys, which say that there are some
pub record HasKeys (bytes : List ℕ) : Type 0 where
  pub base : ℕ
  pub low : base ≤ max_sequence
  pub nodes : Bool
  pub ways : Bool
  pub relations : Bool
  pub kind : has_kind nodes ways relations ≡ true
  pub many : ℕ
  pub some : 0 < many
  pub few : many ≤ max_keys
  pub rest : List ℕ
  pub parts : bytes ≡ ended (first_lines Three base
      ++ (codes "kinds " ++ kinds_text nodes ways relations)
      ∷ (codes "keys " ++ decimal many)
      ∷ [])
      ++ rest

-- the most edits that the sequences after the base, up to the number, can have
abbrev pub most_counted : Head → ℕ
most_counted head = max_changes * (head.number - head.base)

-- the head of what is saved
abbrev pub head_of : Saved → Head
head_of v = record { number = v.number; base = v.base; time = v.time }

-- the most bytes of a head: its filter has at most 100 keys of 1,020 bytes, and at most 4 bytes are
-- written for each of these
abbrev pub max_head : ℕ
max_head = 408194
