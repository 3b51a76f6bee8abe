use Rattle.std.proofs.Common.{◌≤◌, length}
use Rattle.osm_opl.specs.Reading.{list_pieces, member_at}
use Rattle.osm_reading.specs.Pieces.{pieces_after}
use Rattle.osm_opl.proofs.ListLemmas.{ListRead}
use Rattle.osm_reading.proofs.PieceLemmas.{bytes_left}
use Rattle.osm_opl.proofs.lists.read_members.Given as goal

abbrev pub invariant-loop-rest : goal.invariant-loop-rest
invariant-loop-rest l = record {
  read : ListRead member_at (list_pieces l.bytes) (pieces_after 44 l.rest) l.members.items;
  few : length l.members.items ≤ 32000;
}

abbrev pub decreases-loop-rest : goal.decreases-loop-rest
decreases-loop-rest l = bytes_left l.rest
