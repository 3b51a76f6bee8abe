use Rattle.osm_merge.proofs.OpeningLemmas.{is_opened, opening_stops}
use Rattle.osm_merge.proofs.CallLemmas.{opening_ahead}
use Rattle.osm_merge.proofs.opening.open_save.Goals as goal

pub returns-in-Ok-read_opening-clause-opened : goal.returns-in-Ok-read_opening-clause-opened
returns-in-Ok-read_opening-clause-opened g c = λ known.
    is_opened ((g.S.Store.state c.args.store.now).files c.args.name.now) c.in-Ok.source c.read_opening.new.source c.in-Ok-read_opening.opening
    (c.in-Ok.ensures.opened known) c.in-Ok-read_opening.ensures.read

pub returns-in-Err-read_opening-clause-refused : goal.returns-in-Err-read_opening-clause-refused
returns-in-Err-read_opening-clause-refused g c = λ known.
    opening_stops ((g.S.Store.state c.args.store.now).files c.args.name.now) c.in-Ok.source c.in-Err-read_opening.fault
    (c.in-Ok.ensures.opened known) c.in-Err-read_opening.ensures.refused

pub returns-in-Ok-read_opening-clause-ahead : goal.returns-in-Ok-read_opening-clause-ahead
returns-in-Ok-read_opening-clause-ahead g c = λ file has.
    opening_ahead c.in-Ok.source c.read_opening.new.source c.in-Ok-read_opening.opening file
    (rw has.there at (c.in-Ok.ensures.opened has.known)) c.in-Ok-read_opening.ensures.read
