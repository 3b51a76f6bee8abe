use Rattle.std.proofs.Common.{◌≤◌, length, arith}
use Rattle.osm_opl.specs.Reading.{tag_at}
use Rattle.osm_reading.specs.Pieces.{pieces_after}
use Rattle.osm_opl.proofs.ListLemmas.{item_too_many, item_fails, list_read}
use Rattle.osm_reading.proofs.PieceLemmas.{some_pieces}
use Rattle.osm_opl.proofs.lists.read_tags.Goals as goal

pub returns-then-len-ge-MAX_TAGS : goal.returns-then-len-ge-MAX_TAGS
returns-then-len-ge-MAX_TAGS c =
    let many : 5000 ≤ length c.loop-rest.tags.items = grind arith in
    item_too_many tag_at 5000 c.args.bytes.now (pieces_after 44 c.loop-rest.rest) c.loop-rest.tags.items
    c.loop-rest.invariant.read (rw c.in-Some.is (some_pieces 44 c.in-Some.items.now)) many

pub returns : goal.returns
returns c =
    rw c.from_vec.ensures (list_read tag_at 5000 c.args.bytes.now c.loop-rest.tags.items
    (rw c.in_default.is at c.loop-rest.invariant.read) c.loop-rest.invariant.few)

pub returns-in-Err : goal.returns-in-Err
returns-in-Err c =
    item_fails tag_at 5000 c.args.bytes.now c.in-Err.error (pieces_after 44 c.loop-rest.rest)
    (pieces_after 44 c.cut.result.1) c.loop-rest.tags.items c.cut.result.0.now c.loop-rest.invariant.read
    (rw c.in-Some.is c.cut.ensures.pieces) c.in-Err.ensures.value
