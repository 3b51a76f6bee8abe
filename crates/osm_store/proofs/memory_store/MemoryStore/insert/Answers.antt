use Rattle.std.specs.Prelude.{Some, string_bytes}
use Rattle.std.proofs.lemmas.Map.Text.{btree_map_updates_text}
use Rattle.osm_store.proofs.FileLemmas.{puts_from_update}
use Rattle.osm_store.proofs.memory_store.MemoryStore.insert.Goals as goal

pub returns-clause-put : goal.returns-clause-put
returns-clause-put c = puts_from_update _ _ (string_bytes c.args.name) (Some c.args.content)
    (btree_map_updates_text (string_bytes c.args.name) c.args.self.now.files c.insert.new.self _
    c.in_ok-insert.ensures.updates)
