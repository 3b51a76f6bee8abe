use Rattle.std.proofs.Common.{◌≡◌, Some, sym, ◌∙◌}
use Rattle.osm_save.specs.Reading.{object_at}
use Rattle.osm_save.proofs.ObjectLemmas.{key_is}
use Rattle.osm_save.proofs.objects.checked_key.Goals as goal

pub returns : goal.returns
returns c =
    let read : Some c.in-Some-2.object ≡ object_at c.args.filter.now c.args.last c.args.line.now =
    sym c.in-Some-2.is ∙ c.in_ok-object.ensures.read in
    key_is c.args.filter.now c.args.last c.args.line.now c.in-Some-2.object c.key.result read c.key.ensures.key
