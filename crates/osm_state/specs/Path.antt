-- Paths of the files of a sequence (OSM wiki, Planet.osm/diffs): AAA/BBB/CCC and a suffix.
use Rattle.std.specs.Prelude.{ℕ, ◌/◌, ◌%◌, List, [], ◌∷◌, ◌++◌, codes}
use Rattle.osm_model.specs.Time.{last_digit}
use Rattle.osm_state.specs.declared.paths.Suffix.{Suffix}
use Rattle.osm_state.specs.declared.paths.Suffix.TheVariants.{O5c, Opl, State}

-- the end of a path
abbrev pub suffix_text : Suffix → List ℕ
suffix_text O5c = codes ".o5c"
suffix_text Opl = codes ".opl"
suffix_text State = codes ".state.txt"

-- three digits, with leading zeros
abbrev pub three_digits : ℕ → List ℕ
three_digits n = last_digit (n / 100) ∷ last_digit (n / 10) ∷ last_digit n ∷ []

-- AAA/BBB/CCC: the nine digits of a sequence number, cut into folders of a thousand
abbrev pub folders_text : ℕ → List ℕ
folders_text n =
    three_digits (n / 1000000) ++ codes "/" ++ three_digits (n / 1000 % 1000) ++ codes "/"
    ++ three_digits (n % 1000)

-- the path of a file of a sequence
unfoldable pub path_text : ℕ → Suffix → List ℕ
path_text n suffix = folders_text n ++ suffix_text suffix
