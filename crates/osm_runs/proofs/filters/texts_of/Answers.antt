use Rattle.std.proofs.Common.{map}
use Rattle.osm_runs.proofs.FilterLemmas.{contains_at, word_stops}
use Rattle.osm_runs.proofs.filters.texts_of.Goals as goal

pub returns-in-Err-clause-stops : goal.returns-in-Err-clause-stops
returns-in-Err-clause-stops c =
    word_stops (map (λ key. key.now) c.args.keys.now) _ c.in-Err.fault
    (contains_at (λ key. key.now) c.args.keys.now c.loop-key.key-index _ c.loop-key-test.true) c.in-Err.ensures.stops
