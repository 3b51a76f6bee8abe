use Rattle.std.proofs.lemmas.Result.{IfOk-weaker}
use Rattle.osm_judge.proofs.LegalLemmas.{want_row, broke_row}
use Rattle.osm_judge.proofs.legal.is_deliver_allowed.Goals as goal

pub returns-in-WantOfMemory : goal.returns-in-WantOfMemory
returns-in-WantOfMemory c =
    rw c.in-WantOfMemory.is (IfOk-weaker c.is_wanted_with_changes.result _ _
    (λ r told. want_row c.args.history.now c.args.number c.follower_number-reached.result r
    c.follower_number-reached.ensures told) c.is_wanted_with_changes.ensures)

pub returns-in-Broke : goal.returns-in-Broke
returns-in-Broke c =
    rw c.in-Broke.is (IfOk-weaker c.is_next_with_changes.result _ _
    (λ r told. broke_row c.args.history.now c.args.number c.follower_number-reached.result c.reach-high.result r
    c.follower_number-reached.ensures c.reach-high.ensures told) c.is_next_with_changes.ensures)
