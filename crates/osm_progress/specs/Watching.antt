-- What contracts see of a store that is watched: it is the store inside.
use Rattle.osm_store.specs.Frames.{StoreState}
use Rattle.osm_progress.specs.declared.watched_store.WatchedStore.{WatchedStore}

-- the store inside
abbrev pub inner_of : {S W : Type 0} → WatchedStore S W → S
inner_of watched = watched.inner

-- the state of the store inside
abbrev pub watched_state : {S W : Type 0} → (S → StoreState) → WatchedStore S W → StoreState
watched_state inner_state watched = inner_state watched.inner
