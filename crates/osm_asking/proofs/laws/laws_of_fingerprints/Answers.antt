use Rattle.osm_asking.proofs.KeyLemmas.{key_named}
use Rattle.osm_asking.proofs.laws.laws_of_fingerprints.Goals as goal

pub returns : goal.returns
returns c = record { named = key_named }
