-- What is known about a store: its process, and how its failures are counted.
use Rattle.std.specs.Prelude.{◌≡◌, ℕ, ◌+◌, false, None, min}
use Rattle.osm_disk.specs.declared.disk_store.DiskStore.{DiskStore}
use Rattle.osm_store.specs.Frames.{StoreState}
use Rattle.osm_store.specs.declared.store.StoreError.{StoreError}
use Rattle.osm_store.specs.declared.store.StoreError.TheVariants.{Device}

-- the count of a store's failures
abbrev pub failures_of : {R F D : Type 0} → DiskStore R F D → ℕ
failures_of store = store.failures

-- the process that names a store's temporary files
abbrev pub process_of : {R F D : Type 0} → DiskStore R F D → ℕ
process_of store = store.writer.process

-- what contracts see of a store: nothing is known of its files, and it never stops
abbrev pub state_of : {R F D : Type 0} → DiskStore R F D → StoreState
state_of store = record {
  files = λ name. None;
  is_known = false;
  left = None;
  failures = store.failures;
  stage = None;
}

-- a failure of the device adds one to the count, up to the greatest value; no other error changes
-- it
abbrev pub Counts : ℕ → ℕ → StoreError → Type 0
Counts old new Device = new ≡ min (old + 1) 18446744073709551615
Counts old new e = new ≡ old
