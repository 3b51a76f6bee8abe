use Rattle.osm_script.proofs.ReplayLemmas.{silent}
use Rattle.osm_script.proofs.replay.laws_of_replays.Goals as goal

pub returns : goal.returns
returns c = record { silent = silent }
