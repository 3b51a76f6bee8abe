use Rattle.std.specs.Prelude.{None}
use Rattle.std.proofs.lemmas.Map.Text.{btree_map_updates_text}
use Rattle.osm_store.proofs.FileLemmas.{puts_from_update}
use Rattle.osm_store.proofs.memory_store.MemoryStore.remove.Goals as goal

pub returns : goal.returns
returns c = puts_from_update _ _ c.args.name.now None (btree_map_updates_text c.args.name.now c.args.self.now.files
    c.remove.new.self _ c.remove.ensures.updates)
