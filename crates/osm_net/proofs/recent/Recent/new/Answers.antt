use Rattle.osm_net.proofs.RecentLemmas.{numbered-none}
use Rattle.osm_net.proofs.recent.Recent.new.Goals as goal

pub invariant_of-result : goal.invariant_of-result
invariant_of-result c = rw c.no_entries.ensures (numbered-none 1024)
