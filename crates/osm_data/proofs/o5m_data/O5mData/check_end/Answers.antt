use Rattle.osm_data.proofs.O5mObjectsLemmas.{ends_spelled, ends_wrong, true_false}
use Rattle.osm_data.proofs.o5m_data.O5mData.check_end.Goals as goal

pub returns-then-begins_with_end-clause-spelled : goal.returns-then-begins_with_end-clause-spelled
returns-then-begins_with_end-clause-spelled c =
    ends_spelled c.args.self.now c.requires.cut c.requires.ended
    (rw c.unread.ensures at (c.begins_with_end.ensures.0 c.if-begins_with_end.true))

pub returns-clause-stops : goal.returns-clause-stops
returns-clause-stops c =
    ends_wrong c.args.self.now c.place.result c.requires.cut c.requires.ended
    (λ e. true_false c.begins_with_end.result c.if-begins_with_end.false (c.begins_with_end.ensures.1 (rw c.unread.ensures e))) c.place.ensures.place
