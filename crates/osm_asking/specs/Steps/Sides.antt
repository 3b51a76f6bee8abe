-- Where a line with a key lies.
use Rattle.std.specs.Prelude.{Option, Some, None}
use Rattle.std.specs.declared.cmp.Ordering.{Ordering}
use Rattle.std.specs.declared.cmp.Ordering.TheVariants.{Less}
use Rattle.osm_model.specs.KeyOrder.{key_cmp}
use Rattle.osm_model.specs.declared.kind.Key.{Key}
use Rattle.osm_asking.specs.declared.side.Wanted.{Wanted}
use Rattle.osm_asking.specs.declared.side.Wanted.TheVariants.{Counts, Object}

-- where the line of an object with that key lies; none if it is to be compared and there is none
abbrev pub side_in : Wanted → Option Key → Option Ordering
side_in Counts key = Some Less
side_in (Object wanted) None = None
side_in (Object wanted) (Some key) = Some (key_cmp key wanted)
