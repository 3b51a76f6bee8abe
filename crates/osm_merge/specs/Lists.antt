-- Net changes that have room beside the lists of a save text.
use Rattle.std.specs.List.{AllByRecursion}
use Rattle.osm_merge.specs.Laying.{IsFew}
use Rattle.osm_net.specs.Net.{NetValue}

-- none of their counts is large
pub record AreFew (n : NetValue) : Type 0 where
  pub users : AllByRecursion IsFew n.users
  pub changesets : AllByRecursion IsFew n.changesets
