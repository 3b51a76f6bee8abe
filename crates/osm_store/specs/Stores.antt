-- What contracts see of a store in memory and of one that stops.
use Rattle.std.specs.Prelude.{◌≡◌, ℕ, ◌+◌, ◌⊎◌, Option, Some, None, true, min}
use Rattle.std.specs.BTreeMap.{get_by_text}
use Rattle.osm_store.specs.Files.{Files, HasFailed, Stage}
use Rattle.osm_store.specs.Frames.{StoreState}
use Rattle.osm_store.specs.declared.stopping_store.StoppingStore.{StoppingStore}
use Rattle.osm_store.specs.declared.memory_store.MemoryStore.{MemoryStore}
use Rattle.osm_store.specs.declared.store.StoreError.{StoreError}
use Rattle.osm_store.specs.declared.store.StoreError.TheVariants.{Device}

-- the files of a store in memory
abbrev pub files_of : MemoryStore → Files
files_of store = get_by_text store.files

-- the file that is being written to a store in memory
abbrev pub stage_of : MemoryStore → Option Stage
stage_of store = store.begun

-- its state: the files are known, and its device never fails
abbrev pub memory_state : MemoryStore → StoreState
memory_state store = record {
  files = files_of store;
  is_known = true;
  left = None;
  failures = 0;
  stage = stage_of store;
}

-- the store inside a stopping store
abbrev pub inner_of : {S : Type 0} → StoppingStore S → S
inner_of stopping = stopping.inner

-- the calls that a stopping store still passes on
abbrev pub calls_of : {S : Type 0} → StoppingStore S → ℕ
calls_of stopping = stopping.calls

-- how many calls are left, if that many are passed on and the store inside has that many left
abbrev pub fewer_of : ℕ → Option ℕ → Option ℕ
fewer_of calls None = Some calls
fewer_of calls (Some n) = Some (min calls n)

-- the state of a stopping store, by that of the store inside: a refused call is a failure of the
-- device
abbrev pub stopping_state : {S : Type 0} → (S → StoreState) → StoppingStore S → StoreState
stopping_state inner_state stopping = record {
  files = (inner_state stopping.inner).files;
  is_known = (inner_state stopping.inner).is_known;
  left = fewer_of stopping.calls (inner_state stopping.inner).left;
  failures = (inner_state stopping.inner).failures + stopping.refused;
  stage = (inner_state stopping.inner).stage;
}

-- the device is the reason only if no call was left, or if that of the store inside failed
abbrev pub IsStopped : ℕ → StoreState → StoreState → StoreError → Type 0
IsStopped calls old new Device = (calls ≡ 0) ⊎ HasFailed old.failures new.failures
IsStopped calls old new e = Unit {0}
