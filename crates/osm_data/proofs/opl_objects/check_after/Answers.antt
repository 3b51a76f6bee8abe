use Rattle.osm_model.proofs.DataLemmas.{is_true, no_objects, not_true}
use Rattle.osm_opl.proofs.WrittenLemmas.{on_err}
use Rattle.osm_data.specs.Steps.OplObjects.{NeverFollows}
use Rattle.osm_data.proofs.OplOrderLemmas.{follows, never_alone, never_below}
use Rattle.osm_data.proofs.opl_objects.check_after.Goals as goal

pub check_next-requires : goal.check_next-requires
check_next-requires c = no_objects

pub returns-in_err-check_next-clause-never : goal.returns-in_err-check_next-clause-never
returns-in_err-check_next-clause-never c =
    on_err c.from_residual.result (NeverFollows c.args.last c.args.object.now)
    (never_alone c.args.last c.args.object.now c.in_err-check_next.ensures.other)

pub returns-then-not-is_below-clause-never : goal.returns-then-not-is_below-clause-never
returns-then-not-is_below-clause-never c = never_below c.args.last c.args.object.now
    (λ after. not_true c.is_below.result c.if-not-is_below.true (c.is_below.ensures.1 (rw c.key.ensures.key after)))

pub returns-clause-follows : goal.returns-clause-follows
returns-clause-follows c = follows c.args.last c.args.object.now c.in_ok-check_next.ensures.next
    (rw c.key.ensures.key at (c.is_below.ensures.0 (is_true c.is_below.result c.if-not-is_below.false)))
