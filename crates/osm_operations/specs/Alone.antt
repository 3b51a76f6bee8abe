-- A save without the journal beside it.
use Rattle.std.specs.Prelude.{ℕ, List, Option}
use Rattle.osm_model.specs.Filter.{FilterValue}
use Rattle.osm_save.specs.declared.save.Saved.{Saved}
use Rattle.osm_publisher.specs.Published.{PublishedValue}
use Rattle.osm_runs.specs.Following.{IsInStep, IsSaved}

-- what a save holds without its journal, if anything, is what the published sequences up to a
-- number leave: an earlier one, if the journal has more
abbrev pub IsInStepAlone : List PublishedValue → FilterValue → Option (List ℕ) → Type 0
IsInStepAlone published given told =
    (v : Saved) → IsSaved given told v → IsInStep published given v
