use Rattle.std.proofs.Common.{◌+◌, ℕ, subst, drop}
use Rattle.osm_o5c.specs.File.{DataFaultPlace}
use Rattle.osm_data.proofs.O5mObjectsLemmas.{place_is}
use Rattle.osm_data.proofs.o5m_data.O5mData.read_datasets.Goals as goal

pub returns-in-Err-Fault-clause-stops : goal.returns-in-Err-Fault-clause-stops
returns-in-Err-Fault-clause-stops g c = λ file done has.
    let stops = rw (c.in-Err-Fault.field-0-is, c.unread.ensures) at c.in-Err-Fault.ensures.stops in
    subst (λ (n : ℕ). DataFaultPlace file (n + c.in-Err-Fault.passed))
    (place_is c.args.self.now.reader file c.place.result c.place.ensures.place has.within)
    (stops file done (drop c.args.self.now.reader.from file) has.read)
