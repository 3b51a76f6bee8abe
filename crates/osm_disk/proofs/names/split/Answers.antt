use Rattle.osm_disk.proofs.NameLemmas.{split_at_slash}
use Rattle.osm_disk.proofs.names.split.Goals as goal

pub returns : goal.returns
returns c = split_at_slash c.args.path.now c.rsplit_once.result c.rsplit_once.ensures.cases
