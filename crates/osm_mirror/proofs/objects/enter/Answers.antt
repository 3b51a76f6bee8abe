use Rattle.std.proofs.Common.{ap, sym, ◌∙◌, Some, Option}
use Rattle.std.specs.Prelude.{if◌then◌else◌}
use Rattle.std.specs.BTreeMap.{insert_entry, is_at}
use Rattle.std.specs.Map.{lookup}
use Rattle.osm_model.specs.Change.{ChangeValue}
use Rattle.osm_model.specs.KeyOrder.{key_cmp, same_key}
use Rattle.osm_model.specs.declared.kind.Key.{Key}
use Rattle.osm_mirror.specs.Entries.{AreObjects}
use Rattle.osm_mirror.proofs.EntryLemmas.{object_at-objects_of, objects-insert_entry}
use Rattle.osm_mirror.proofs.objects.enter.Goals as goal

pub returns-clause-objects : goal.returns-clause-objects
returns-clause-objects c =
    rw c.in-Ok.ensures.entries (objects-insert_entry _ _ _ c.key.ensures.key
    (record { limits = c.key.ensures.limits; is_left = c.requires.is_left }) c.requires.objects)

pub returns-clause-inserted : goal.returns-clause-inserted
returns-clause-inserted c = c.in-Ok.ensures.entries ∙ ap (λ (q : Key). insert_entry key_cmp c.args.objects.now.entries q c.args.change) c.key.ensures.key

-- what the map says at each key, read as a list of objects
pub returns-clause-entered : goal.returns-clause-entered
returns-clause-entered c = λ k.
    let all : AreObjects c.insert.new.self.entries =
    rw c.in-Ok.ensures.entries (objects-insert_entry _ _ _ c.key.ensures.key
    (record { limits = c.key.ensures.limits; is_left = c.requires.is_left }) c.requires.objects) in
    object_at-objects_of c.insert.new.self.entries k all.own
    ∙ (c.in-Ok.ensures.updates.0 k
    ∙ (ap (λ (q : Key). if same_key q k then Some c.args.change else lookup (is_at (key_cmp k)) c.args.objects.now.entries) c.key.ensures.key
    ∙ ap (λ (o : Option ChangeValue). if same_key c.args.change.key k then Some c.args.change else o)
    (sym (object_at-objects_of c.args.objects.now.entries k c.requires.objects.own))))

pub returns-in_default-clause-refused : goal.returns-in_default-clause-refused
returns-in_default-clause-refused c =
    object_at-objects_of c.args.objects.now.entries c.args.change.key c.requires.objects.own
    ∙ (ap (λ (q : Key). lookup (is_at (key_cmp q)) c.args.objects.now.entries) (sym c.key.ensures.key) ∙ c.in_default.ensures.absent)
