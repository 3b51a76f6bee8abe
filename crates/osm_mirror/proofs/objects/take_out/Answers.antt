use Rattle.std.proofs.Common.{ap, sym, ◌∙◌, None, Option}
use Rattle.std.specs.Prelude.{if◌then◌else◌}
use Rattle.osm_model.specs.Change.{ChangeValue}
use Rattle.osm_model.specs.KeyOrder.{same_key}
use Rattle.osm_mirror.specs.Entries.{AreObjects}
use Rattle.osm_mirror.proofs.EntryLemmas.{object_at-objects_of, objects-remove_entry}
use Rattle.osm_mirror.proofs.objects.take_out.Goals as goal

pub returns-clause-objects : goal.returns-clause-objects
returns-clause-objects c = rw c.remove.ensures.entries (objects-remove_entry _ _ c.requires)

-- what the map says at each key, read as a list of objects
pub returns-clause-out : goal.returns-clause-out
returns-clause-out c = λ k.
    let all : AreObjects c.remove.new.self.entries = rw c.remove.ensures.entries (objects-remove_entry _ _ c.requires) in
    object_at-objects_of c.remove.new.self.entries k all.own
    ∙ (c.remove.ensures.updates.0 k
    ∙ ap (λ (o : Option ChangeValue). if same_key c.args.key k then None else o) (sym (object_at-objects_of c.args.objects.now.entries k c.requires.own)))
