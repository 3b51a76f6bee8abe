-- No value of a line has a float.
use Rattle.std.proofs.Common.{◌≡◌, ℕ, List, [], ◌∷◌, Option, Some, None, map, false, refl}
use Rattle.serde_json.specs.View.{items_of}
use Rattle.serde_json.specs.Written.{has_float, items_have_float}
use Rattle.osm_runs.specs.JsonLine.{maybe_text, number_data}
use Rattle.osm_range.specs.Printed.{changes_data, fault_data}
use Rattle.osm_range.specs.declared.report.Changed.{Changed}

no_text : (text : Option (List ℕ)) → has_float (maybe_text text) ≡ false
no_text None = refl
no_text (Some text) = refl

no_numbers : (ns : List ℕ) → items_have_float (items_of (map number_data ns)) ≡ false
no_numbers [] = refl
no_numbers (n ∷ ns) = no_numbers ns

pub no_changes : (changed : Option Changed) (missing : List ℕ) (fault : Option (List ℕ))
    → has_float (changes_data changed missing fault) ≡ false
no_changes None missing fault = rw (no_numbers missing, no_text fault) refl
no_changes (Some x) missing fault = rw (no_numbers missing, no_text fault) refl

pub no_fault : (fault : List ℕ) → has_float (fault_data fault) ≡ false
no_fault fault = refl
