-- The lines of a filter in a save text (our choice): a letter for each kind that it keeps, and its
-- keys as lines of OPL write them.
use Rattle.std.specs.Prelude.{◌≡◌, ℕ, Bool, List, [], ◌∷◌, ◌++◌, codes, if◌then◌else◌}
use Rattle.osm_model.specs.Filter.{FilterValue, everything}
use Rattle.osm_opl.specs.Written.{escaped_text}
use Rattle.osm_save.specs.Lines.{list_lines}
use Rattle.osm_save.specs.declared.version.Version.{Version}
use Rattle.osm_save.specs.declared.version.Version.TheVariants.{One, Three, Two}

-- `n` for nodes, `w` for ways and `r` for relations
abbrev pub kinds_text : Bool → Bool → Bool → List ℕ
kinds_text nodes ways relations =
    (if nodes then codes "n" else []) ++ (if ways then codes "w" else [])
    ++ (if relations then codes "r" else [])

-- the lines of a filter, without their ends
abbrev pub filter_lines : FilterValue → List (List ℕ)
filter_lines f =
    (codes "kinds " ++ kinds_text f.nodes f.ways f.relations)
    ∷ list_lines (codes "keys ") escaped_text f.keys

-- the lines of the filter in a text of that version: before version 3 there are none
abbrev pub told_lines : Version → FilterValue → List (List ℕ)
told_lines One f = []
told_lines Two f = []
told_lines Three f = filter_lines f

-- before version 3 a text tells no filter, which keeps everything then
abbrev pub TellsFilter : Version → FilterValue → Type 0
TellsFilter One f = f ≡ everything
TellsFilter Two f = f ≡ everything
TellsFilter Three f = Unit {0}
