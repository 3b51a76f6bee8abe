use Rattle.std.proofs.Common.{◌≡◌, length}
use Rattle.std.specs.Prelude.{string_bytes}
use Rattle.osm_reading.specs.Pieces.{pieces}
use Rattle.osm_opl.specs.Reading.{runs_at}
use Rattle.osm_opl.proofs.ListLemmas.{put_before}
use Rattle.osm_opl.proofs.escapes.unescape.Given as goal

abbrev pub invariant-loop-text : goal.invariant-loop-text
invariant-loop-text l = runs_at (pieces 37 l.bytes) ≡ put_before (string_bytes l.text) (runs_at (pieces 37 l.rest))

abbrev pub decreases-loop-text : goal.decreases-loop-text
decreases-loop-text l = length l.rest
