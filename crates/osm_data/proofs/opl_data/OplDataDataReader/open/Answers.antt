use Rattle.osm_data.proofs.OplCallLemmas.{begun_ahead}
use Rattle.osm_data.proofs.OplPassingLemmas.{begun, opened}
use Rattle.osm_data.proofs.opl_data.OplDataDataReader.open.Goals as goal

pub returns-in-Ok-Some-clause-opened : goal.returns-in-Ok-Some-clause-opened
returns-in-Ok-Some-clause-opened g c = λ file has.
    let o = opened c.in-Ok-Some.reader file (rw (c.in-Ok-Some.field-0-is, has.there) at (c.in-Ok-Some.ensures.opened has.known)) in
    begun file c.in-Ok-Some.reader c.begin.result o.left o.empty c.begin.ensures

pub returns-in-Ok-Some-clause-ahead : goal.returns-in-Ok-Some-clause-ahead
returns-in-Ok-Some-clause-ahead g c = λ file has.
    let o = opened c.in-Ok-Some.reader file (rw (c.in-Ok-Some.field-0-is, has.there) at (c.in-Ok-Some.ensures.opened has.known)) in
    begun_ahead c.in-Ok-Some.reader c.begin.result file o.unread o.left c.begin.ensures
