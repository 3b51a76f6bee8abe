-- Names of the files of a folder (OSM wiki, Planet.osm/diffs).
use Rattle.std.specs.Prelude.{ℕ, List, ◌++◌, codes}
use Rattle.osm_state.specs.Path.{path_text}
use Rattle.osm_state.specs.declared.paths.Suffix.{Suffix}

-- DIR/state.txt
unfoldable pub top_name_of : List ℕ → List ℕ
top_name_of dir = dir ++ codes "/state.txt"

-- DIR/AAA/BBB/CCC and the suffix
unfoldable pub file_name_of : List ℕ → ℕ → Suffix → List ℕ
file_name_of dir n suffix = dir ++ (codes "/" ++ path_text n suffix)
