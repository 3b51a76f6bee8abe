-- A folder of published sequences (OSM wiki, Planet.osm/diffs), and what its files may hold.
use Rattle.std.specs.Prelude.{◌≡◌, ℕ, ◌+◌, ◌<◌, ◌≤◌, ◌⊎◌, List, length, Option, Some, None}
use Rattle.osm_model.specs.Limits.{max_file, max_sequence}
use Rattle.osm_publisher.specs.Published.{AreSequences, PublishedValue, sequence_at}
use Rattle.osm_o5c.specs.File.{SpellsO5c}
use Rattle.osm_opl.specs.File.{SpellsOpl}
use Rattle.osm_state.specs.StateFault.{FaultOf}
use Rattle.osm_state.specs.StateText.{StateOf}
use Rattle.osm_state.specs.declared.paths.Suffix.{Suffix}
use Rattle.osm_state.specs.declared.paths.Suffix.TheVariants.{O5c, Opl, State}
use Rattle.osm_state.specs.declared.state_text.StateError.{StateError}
use Rattle.osm_store.specs.Files.{Files}
use Rattle.osm_store.specs.Frames.{IsKnown, StoreState}
use Rattle.osm_runs.specs.Names.{file_name_of, top_name_of}

-- the most bytes of a state file: 64 KiB
abbrev pub max_state : ℕ
max_state = 65536

-- the bytes are a text of that state, and within the limit
pub record IsStateFile (number time : ℕ) (bytes : List ℕ) : Type 0 where
  pub small : length bytes ≤ max_state
  pub names : StateOf bytes (record { sequence = number; time = time })

-- the text of the top state is no state
pub record IsBadState (told : Option (List ℕ)) (cause : StateError) : Type 0 where
  pub bytes : List ℕ
  pub there : told ≡ Some bytes
  pub small : length bytes ≤ max_state
  pub fault : FaultOf bytes cause

-- what a file of a sequence may hold: its state, or its changes in one of the two forms, in any
-- writer's spelling and within the limit
abbrev pub IsFile : Suffix → PublishedValue → List ℕ → Type 0
IsFile State p bytes = IsStateFile p.number p.time bytes
IsFile O5c p bytes = (length bytes ≤ max_file) × SpellsO5c bytes p.changes
IsFile Opl p bytes = (length bytes ≤ max_file) × SpellsOpl bytes p.changes

-- the file is there, and this holds of its bytes
abbrev pub IsThere : Option (List ℕ) → (List ℕ → Type 0) → Type 0
IsThere None holds = ⊥
IsThere (Some bytes) holds = holds bytes

-- the file is absent, or this holds of its bytes
abbrev pub IsAbsentOr : Option (List ℕ) → (List ℕ → Type 0) → Type 0
IsAbsentOr None holds = Unit {0}
IsAbsentOr (Some bytes) holds = holds bytes

-- the top state names the last sequence, and is absent if there is none
abbrev pub IsTop : List PublishedValue → Option (List ℕ) → Type 0
IsTop published told =
    ((length published ≡ 0) × (told ≡ None))
    ⊎ ((0 < length published)
    × IsThere told (IsFile State (sequence_at published (length published))))

-- no sequence has a time before that of the one before it
abbrev pub NeverFall : List PublishedValue → Type 0
NeverFall published = (k : ℕ) → 0 < k → k < length published
    → (sequence_at published k).time ≤ (sequence_at published (k + 1)).time

-- the folder of the published sequences, whose times never fall: the top state is theirs, and each
-- file of each number is that sequence's, unless it is absent
pub record IsFolderOf (published : List PublishedValue) (files : Files)
    (dir : List ℕ) : Type 0 where
  pub sequences : AreSequences published
  pub rising : NeverFall published
  pub top : IsTop published (files (top_name_of dir))
  pub each : (k : ℕ) (suffix : Suffix) → 0 < k → k ≤ length published
      → IsAbsentOr (files (file_name_of dir k suffix)) (IsFile suffix (sequence_at published k))

-- no file of the folder has this name
pub record IsApart (dir name : List ℕ) : Type 0 where
  pub top : name ≡ top_name_of dir → ⊥
  pub each : (k : ℕ) (suffix : Suffix) → k ≤ max_sequence → name ≡ file_name_of dir k suffix → ⊥

-- if it is known what the files hold, all that are apart from the folder stay as they were
abbrev pub KeepsOthers : StoreState → StoreState → List ℕ → Type 0
KeepsOthers old new dir =
    IsKnown old → (name : List ℕ) → IsApart dir name → new.files name ≡ old.files name

-- if it is known what the files hold, this holds of any published sequences whose folder it is
abbrev pub OverFolder : StoreState → List ℕ → (List PublishedValue → Type 0) → Type 0
OverFolder store dir holds =
    IsKnown store → (published : List PublishedValue) → IsFolderOf published store.files dir
    → holds published
