use Rattle.std.specs.BTreeMap.{is_at}
use Rattle.std.specs.Map.{lookup}
use Rattle.osm_model.specs.KeyOrder.{key_cmp}
use Rattle.osm_mirror.proofs.EntryLemmas.{found_is, object_at-objects_of}
use Rattle.osm_mirror.proofs.objects.Objects.get.Goals as goal

pub returns : goal.returns
returns c =
    rw (← c.self.view_is, object_at-objects_of c.self.inside.objects.entries c.args.key c.self.invariant.own)
    (found_is c.get.result (lookup (is_at (key_cmp c.args.key)) c.self.inside.objects.entries) c.get.ensures.value)
