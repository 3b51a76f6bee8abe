-- No value of a line has a float.
use Rattle.std.proofs.Common.{◌≡◌, ℕ, List, [], ◌∷◌, Option, Some, None, map, false, refl}
use Rattle.serde_json.specs.Data.{Data, null}
use Rattle.serde_json.specs.View.{items_of}
use Rattle.serde_json.specs.Written.{has_float, items_have_float}
use Rattle.osm_runs.specs.JsonLine.{fault_data, follow_data, lag_data, maybe_number, maybe_text, maybe_time, number_data, numbers_data}
use Rattle.osm_runs.specs.JsonLine.{range_data, ranges_data, run_data, seconds_of}
use Rattle.osm_runs.specs.declared.json_line.Standing.{Standing}

no_number : (n : Option ℕ) → has_float (maybe_number n) ≡ false
no_number None = refl
no_number (Some n) = refl

no_text : (text : Option (List ℕ)) → has_float (maybe_text text) ≡ false
no_text None = refl
no_text (Some text) = refl

no_time : (time : Option ℕ) → has_float (maybe_time time) ≡ false
no_time None = refl
no_time (Some time) = refl

no_numbers : (ns : List ℕ) → items_have_float (items_of (map number_data ns)) ≡ false
no_numbers [] = refl
no_numbers (n ∷ ns) = no_numbers ns

no_ranges : (rs : List (ℕ × ℕ)) → items_have_float (items_of (map range_data rs)) ≡ false
no_ranges [] = refl
no_ranges (r ∷ rs) = no_ranges rs

no_run : (s : Standing) (applied missing fault : Data) → has_float applied ≡ false → has_float missing ≡ false → has_float fault ≡ false
    → has_float (run_data s applied missing fault) ≡ false
no_run s applied missing fault a m f = rw (a, m, f, no_number (seconds_of s.time s.top_time), no_time s.time) refl

pub no_follow : (s : Standing) (applied : List (ℕ × ℕ)) (missing : List ℕ) (fault : Option (List ℕ))
    → has_float (follow_data s applied missing fault) ≡ false
no_follow s applied missing fault =
    no_run s (ranges_data applied) (numbers_data missing) (maybe_text fault) (no_ranges applied) (no_numbers missing) (no_text fault)

pub no_lag : (s : Standing) → has_float (lag_data s) ≡ false
no_lag s = no_run s null null null refl refl refl

pub no_fault : (fault : List ℕ) → has_float (fault_data fault) ≡ false
no_fault fault = refl
