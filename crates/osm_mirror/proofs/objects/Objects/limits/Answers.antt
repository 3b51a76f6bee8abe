use Rattle.std.proofs.Common.{rules}
use Rattle.osm_mirror.proofs.EntryLemmas.{keys-objects_of}
use Rattle.osm_mirror.proofs.objects.Objects.limits.Goals as goal

pub returns-clause-keys : goal.returns-clause-keys
returns-clause-keys c = rw (← c.self.view_is, keys-objects_of c.self.inside.objects.entries c.self.invariant.own) (search rules)
