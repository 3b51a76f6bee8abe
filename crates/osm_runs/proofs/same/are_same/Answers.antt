use Rattle.std.proofs.lemmas.Slice.Eq.{slice_eq-Decides}
use Rattle.osm_runs.proofs.SameLemmas.{change_same}
use Rattle.osm_runs.proofs.same.are_same.Goals as goal

pub returns : goal.returns
returns c = slice_eq-Decides change_same c.args.left.now c.args.right.now c.eq.result c.eq.ensures
