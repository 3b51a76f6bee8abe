-- The members of a run's line as they are put into its object, one after another.
use Rattle.std.specs.Prelude.{◌-◌, codes}
use Rattle.serde_json.specs.Data.{Data, Members, null, put}
use Rattle.osm_runs.specs.JsonLine.{maybe_number, maybe_time, number_data, seconds_of}
use Rattle.osm_runs.specs.declared.json_line.Standing.{Standing}

abbrev pub with_values : Data → Data → Data → Members → Members
with_values applied missing fault ms =
    put (codes "fault") fault (
    put (codes "missing") missing (
    put (codes "applied") applied ms))

abbrev pub with_standing : Standing → Members → Members
with_standing s ms =
    put (codes "top") (number_data s.top) (
    put (codes "time") (maybe_time s.time) (
    put (codes "seconds") (maybe_number (seconds_of s.time s.top_time)) (
    put (codes "number") (number_data s.number) (
    put (codes "behind") (number_data (s.top - s.number)) (
    put (codes "base") (number_data s.base) ms)))))

abbrev pub with_nulls : Members → Members
with_nulls ms =
    put (codes "top") null (
    put (codes "time") null (
    put (codes "seconds") null (
    put (codes "number") null (
    put (codes "behind") null (
    put (codes "base") null ms)))))
