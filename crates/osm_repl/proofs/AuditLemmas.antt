-- If a range isn't audited, neither is that of the words that ask for it.
use Rattle.std.proofs.Common.{ℕ, List, Option, inr}
use Rattle.std.specs.Prelude.{Result, Ok, Err, IfErr}
use Rattle.std.specs.Borrow.{Bor}
use Rattle.osm_store.specs.Frames.{StoreState}
use Rattle.osm_runs.specs.declared.fault.RunFault.{RunFault}
use Rattle.osm_runs.specs.declared.options.Layout.{Layout}
use Rattle.osm_repl.specs.Auditing.{IsNotAudited, IsRangeNotAudited, IsRangeOf}

pub not_audited : (old new : StoreState) (layout : Layout) (dir : List ℕ) (from to : Option (Bor (List ℕ))) (first last : Option ℕ)
    (printed after : Option (List ℕ)) (r : Result ℕ RunFault) → IsRangeOf from to first last
    → IfErr r (IsRangeNotAudited old new layout dir first last printed after) → IfErr r (IsNotAudited old new layout dir from to printed after)
not_audited old new layout dir from to first last printed after (Ok status) range h = tt
not_audited old new layout dir from to first last printed after (Err fault) range h =
    inr (record { first = first; last = last; range = range; not_done = h })
