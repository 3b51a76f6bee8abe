use Rattle.std.proofs.Common.{◌-◌}
use Rattle.osm_asking.proofs.block.+read_longer.Given as goal

abbrev pub decreases-read_longer : goal.decreases-read_longer
decreases-read_longer g l = 18446744073709551615 - l.most
