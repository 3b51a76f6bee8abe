use Rattle.osm_model.proofs.FileLimitLemmas.{batch_limits}
use Rattle.osm_model.proofs.files.ChangeFileFileLimits.laws.Goals as goal

pub returns : goal.returns
returns c = batch_limits
