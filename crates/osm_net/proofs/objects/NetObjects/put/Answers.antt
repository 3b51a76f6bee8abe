use Rattle.std.proofs.Common.{subst, sym, Option}
use Rattle.osm_model.specs.Change.{ChangeValue}
use Rattle.osm_model.specs.declared.kind.Key.{Key}
use Rattle.osm_net.specs.Net.{HasOwnKey}
use Rattle.osm_net.proofs.NetLemmas.{left_own}
use Rattle.osm_net.proofs.objects.NetObjects.put.Goals as goal

pub put_left-requires-clause-own : goal.put_left-requires-clause-own
put_left-requires-clause-own c =
    subst (λ (k : Key). HasOwnKey (k, c.left_by-left.result)) (sym c.key-key.ensures.key)
    (subst (λ (z : Option ChangeValue). HasOwnKey (c.args.change.key, z)) (sym c.left_by-left.ensures)
    (left_own c.args.filter.now c.args.change c.key-key.ensures.limits))
