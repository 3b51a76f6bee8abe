-- Lines of JSON: what each key has, and the text (RFC 8259). An object's keys are sorted.
use Rattle.std.specs.Prelude.{ℕ, ◌-◌, nat_lt, List, [], ◌∷◌, ◌++◌, Option, Some, None, codes, map}
use Rattle.osm_model.specs.CivilTime.{time_text}
use Rattle.serde_json.specs.Data.{Data, array, item, member, no_items, no_members, null, number}
use Rattle.serde_json.specs.Data.{object, string, unsigned}
use Rattle.serde_json.specs.View.{items_of}
use Rattle.serde_json.specs.Written.{compact_text}
use Rattle.osm_runs.specs.declared.json_line.Standing.{Standing}
use Rattle.std.specs.Prelude.{if◌then◌else◌}

abbrev pub number_data : ℕ → Data
number_data n = number (unsigned n)

abbrev pub maybe_number : Option ℕ → Data
maybe_number None = null
maybe_number (Some n) = number_data n

abbrev pub maybe_text : Option (List ℕ) → Data
maybe_text None = null
maybe_text (Some text) = string text

-- YYYY-MM-DDTHH:MM:SSZ
abbrev pub maybe_time : Option ℕ → Data
maybe_time None = null
maybe_time (Some time) = string (time_text time)

-- [low, high]
abbrev pub range_data : ℕ × ℕ → Data
range_data range = array (item (number_data range.0) (item (number_data range.1) no_items))

abbrev pub ranges_data : List (ℕ × ℕ) → Data
ranges_data ranges = array (items_of (map range_data ranges))

abbrev pub numbers_data : List ℕ → Data
numbers_data numbers = array (items_of (map number_data numbers))

-- the seconds from the number's time to the newest one; none if it has no time, or a later one
abbrev pub seconds_of : Option ℕ → ℕ → Option ℕ
seconds_of None top = None
seconds_of (Some time) top = if nat_lt top time then None else Some (top - time)

-- where a run stands, with what it applied, what is missing, and its fault
abbrev pub run_data : Standing → Data → Data → Data → Data
run_data s applied missing fault = object (
    member (codes "applied") applied (
    member (codes "base") (number_data s.base) (
    member (codes "behind") (number_data (s.top - s.number)) (
    member (codes "fault") fault (
    member (codes "missing") missing (
    member (codes "number") (number_data s.number) (
    member (codes "seconds") (maybe_number (seconds_of s.time s.top_time)) (
    member (codes "time") (maybe_time s.time) (
    member (codes "top") (number_data s.top) no_members)))))))))

-- of a run that followed a folder
abbrev pub follow_data : Standing → List (ℕ × ℕ) → List ℕ → Option (List ℕ) → Data
follow_data s applied missing fault =
    run_data s (ranges_data applied) (numbers_data missing) (maybe_text fault)

-- of a run that looked how far a follower is behind
abbrev pub lag_data : Standing → Data
lag_data s = run_data s null null null

-- of a run that was refused
abbrev pub fault_data : List ℕ → Data
fault_data fault = object (
    member (codes "applied") null (
    member (codes "base") null (
    member (codes "behind") null (
    member (codes "fault") (string fault) (
    member (codes "missing") null (
    member (codes "number") null (
    member (codes "seconds") null (
    member (codes "time") null (
    member (codes "top") null no_members)))))))))

-- the text, and LF
abbrev pub json_line : Data → List ℕ
json_line value = compact_text value ++ 10 ∷ []
