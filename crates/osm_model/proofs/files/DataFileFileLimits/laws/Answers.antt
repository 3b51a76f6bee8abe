use Rattle.osm_model.proofs.FileLimitLemmas.{data_limits}
use Rattle.osm_model.proofs.files.DataFileFileLimits.laws.Goals as goal

pub returns : goal.returns
returns c = data_limits
