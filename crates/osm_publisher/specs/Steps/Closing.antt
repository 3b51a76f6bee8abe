-- Why the texts of a close are refused.
use Rattle.std.specs.Prelude.{ℕ, ◌<◌, List, length}
use Rattle.osm_model.specs.Change.{ChangeValue}
use Rattle.osm_model.specs.Limits.{max_file}
use Rattle.osm_publisher.specs.Publisher.{IsTooLarge}
use Rattle.osm_publisher.specs.declared.publisher.CloseError.{CloseError}
use Rattle.osm_publisher.specs.declared.publisher.CloseError.TheVariants.{TooLarge, WantOfMemory}

-- why a text isn't written
abbrev pub TextStops : List ℕ → CloseError → Type 0
TextStops text TooLarge = max_file < length text
TextStops text WantOfMemory = Unit {0}
TextStops text error = ⊥

-- why the texts of a sequence aren't written
abbrev pub WriteStops : List ChangeValue → CloseError → Type 0
WriteStops changes TooLarge = IsTooLarge changes
WriteStops changes WantOfMemory = Unit {0}
WriteStops changes error = ⊥
