use Rattle.std.proofs.Common.{Some, refl, subst}
use Rattle.std.proofs.lemmas.Map.Text.{btree_map_updates_text}
use Rattle.osm_store.specs.Files.{Puts}
use Rattle.osm_store.specs.Stores.{files_of}
use Rattle.osm_store.proofs.FileLemmas.{puts_from_update}
use Rattle.osm_store.proofs.memory_store.MemoryStore.exchange.Goals as goal

pub returns-in-Some-clause-put : goal.returns-in-Some-clause-put
returns-in-Some-clause-put c = λ yes.
    let new = c.get_mut.follows.lender c.exchange.new.self in
    subst (λ b. Puts (files_of c.args.self.now) c.args.name.now (Some b)
    (files_of (record { files = new; begun = c.args.self.now.begun }))) c.exchange.ensures.put
    (puts_from_update _ _ c.args.name.now (Some c.exchange.new.self)
    (btree_map_updates_text c.args.name.now c.args.self.now.files new _
    ((c.get_mut.follows.holds c.exchange.new.self).3 (rw (← c.get_mut.ensures.value, c.in-Some.is) refl))))
