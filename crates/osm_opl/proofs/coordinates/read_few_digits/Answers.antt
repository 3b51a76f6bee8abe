use Rattle.osm_opl.proofs.NumberLemmas.{small_bound, small_found}
use Rattle.osm_opl.proofs.coordinates.read_few_digits.Goals as goal

pub returns-clause-value : goal.returns-clause-value
returns-clause-value c =
    small_found c.args.most c.args.bytes.now c.read_digits.result c.requires c.read_digits.ensures

pub returns-clause-limit : goal.returns-clause-limit
returns-clause-limit c =
    small_bound c.args.most c.args.bytes.now c.read_digits.result c.requires
    (small_found c.args.most c.args.bytes.now c.read_digits.result c.requires c.read_digits.ensures)
