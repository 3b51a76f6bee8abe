-- What is known of a string of the file.
use Rattle.std.specs.Prelude.{ℕ, List, Contains}
use Rattle.osm_model.specs.Text.{IsText}
use Rattle.osm_o5c.specs.declared.file_string.Known.{Known}
use Rattle.osm_o5c.specs.declared.file_string.Known.TheVariants.{Text, Other, NoNul}

-- what is known of the bytes holds of them
abbrev pub IsKnownOf : Known → List ℕ → Type 0
IsKnownOf Text bytes = IsText bytes
IsKnownOf Other bytes = ¬ IsText bytes
IsKnownOf NoNul bytes = ¬ Contains bytes 0
