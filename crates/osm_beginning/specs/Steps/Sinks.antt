-- What a pass over a data file makes of its objects.
use Rattle.std.specs.Prelude.{◌≡◌, ℕ, List, ◌++◌, map, max}
use Rattle.osm_model.specs.Change.{ChangeValue}
use Rattle.osm_model.specs.Filter.{FilterValue}
use Rattle.osm_opl.specs.Written.{line_text}
use Rattle.osm_save.specs.Lines.{ended}
use Rattle.osm_follow.specs.Begin.{kept_objects}
use Rattle.osm_data.specs.Counting.{IsCountOf}
use Rattle.osm_beginning.specs.Beginning.{newest_time}
use Rattle.osm_beginning.specs.declared.sinks.KeptCount.{KeptCount}
use Rattle.osm_beginning.specs.declared.sinks.KeptLines.{KeptLines}

-- if that was the number of those objects before that the filter keeps, it is that total with these
abbrev pub CountsOn : FilterValue → ℕ → List ChangeValue → ℕ → Type 0
CountsOn f count objects total = (done : List ChangeValue) → IsCountOf count (kept_objects f done)
    → IsCountOf total (kept_objects f (done ++ objects))

-- the objects that the filter keeps were counted
pub record Counts (old : KeptCount) (objects : List ChangeValue) (new : KeptCount) : Type 0 where
  pub filter : new.filter.now ≡ old.filter.now
  pub count : CountsOn old.filter.now old.count objects new.count

-- they were counted, their lines were added, and the newest time is that of all objects so far,
-- also of those that the filter drops
pub record Lays (old : KeptLines) (objects : List ChangeValue) (new : KeptLines) : Type 0 where
  pub filter : new.filter.now ≡ old.filter.now
  pub count : CountsOn old.filter.now old.count objects new.count
  pub lines : new.lines.items
      ≡ old.lines.items ++ ended (map line_text (kept_objects old.filter.now objects))
  pub newest : new.newest ≡ max old.newest (newest_time objects)
