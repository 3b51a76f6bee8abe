use Rattle.std.proofs.Common.{◌≤◌, length, arith}
use Rattle.osm_opl.specs.Reading.{ref_at}
use Rattle.osm_reading.specs.Pieces.{pieces_after}
use Rattle.osm_opl.proofs.ListLemmas.{first_unread, item_too_many, list_read}
use Rattle.osm_reading.proofs.PieceLemmas.{some_pieces}
use Rattle.osm_opl.proofs.lists.read_refs.Goals as goal

pub returns-then-len-ge-MAX_REFS : goal.returns-then-len-ge-MAX_REFS
returns-then-len-ge-MAX_REFS c =
    let many : 32000 ≤ length c.loop-rest.refs.items = grind arith in
    item_too_many ref_at 32000 c.args.bytes.now (pieces_after 44 c.loop-rest.rest) c.loop-rest.refs.items
    c.loop-rest.invariant.read (rw c.in-Some.is (some_pieces 44 c.in-Some.items.now)) many

pub returns : goal.returns
returns c =
    rw c.from_vec.ensures (list_read ref_at 32000 c.args.bytes.now c.loop-rest.refs.items
    (rw c.in_default.is at c.loop-rest.invariant.read) c.loop-rest.invariant.few)

pub returns-in-Err : goal.returns-in-Err
returns-in-Err c =
    first_unread ref_at 32000 c.args.bytes.now (pieces_after 44 c.loop-rest.rest) c.loop-rest.refs.items
    c.loop-rest.invariant.read (rw c.in-Some.is (some_pieces 44 c.in-Some.items.now))
    (rw c.in-Some.is c.in-Err.ensures.value)
