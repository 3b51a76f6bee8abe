-- The show text of a view.
use Rattle.std.specs.Prelude.{ℕ, List, ◌++◌, codes}
use Rattle.osm_follow.specs.View.{ViewValue}
use Rattle.osm_reading.specs.NumberLines.{numbered_line}
use Rattle.osm_save.specs.Shown.{base_line, counts_text, held_text, objects_text, time_line}

-- the show text: number, base and time, the objects, the users and the changesets with their
-- counts, and the numbers that are held
unfoldable pub view_text : ViewValue → List ℕ
view_text v =
    numbered_line (codes "number ") v.number ++ base_line v.base ++ time_line v.time
    ++ objects_text v.mirror.objects
    ++ counts_text (codes "users ") v.mirror.users
    ++ counts_text (codes "changesets ") v.mirror.changesets
    ++ held_text v.held
