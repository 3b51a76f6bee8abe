-- What the files that are read say of a run over a folder.
use Rattle.std.specs.Prelude.{◌≡◌, ℕ, ◌+◌, ◌<◌, ◌≤◌, ◌++◌, ◌⊎◌, List, Some, codes}
use Rattle.osm_model.specs.Limits.{max_sequence}
use Rattle.osm_state.specs.State.{StateValue}
use Rattle.osm_state.specs.Path.{path_text}
use Rattle.osm_state.specs.StateText.{StateOf}
use Rattle.osm_state.specs.declared.paths.Suffix.TheVariants.{State}
use Rattle.osm_progress.specs.declared.course.Course.{Course}
use Rattle.osm_progress.specs.declared.course.Said.{Said}
use Rattle.osm_progress.specs.declared.course.Said.TheVariants.{Top, Number, Nothing}

-- the name of a file of a folder by its path there
abbrev pub in_folder : List ℕ → List ℕ → List ℕ
in_folder dir path = dir ++ (codes "/" ++ path)

-- what the newest state says by its bytes
abbrev pub IsTopSaid : List ℕ → Said → Type 0
IsTopSaid bytes (Top number) =
    (time : ℕ) × StateOf bytes (record { sequence = number; time = time })
IsTopSaid bytes (Number number) = ⊥
IsTopSaid bytes Nothing = (s : StateValue) → StateOf bytes s → ⊥

-- what another file says by its path in the folder
abbrev pub IsPathSaid : List ℕ → Said → Type 0
IsPathSaid path (Top number) = ⊥
IsPathSaid path (Number number) = path ≡ path_text number State
IsPathSaid path Nothing =
    (number : ℕ) → number ≤ max_sequence → path ≡ path_text number State → ⊥

-- what a file of the folder says: the newest state by its bytes, another one by its path
abbrev pub IsSaidIn : List ℕ → List ℕ → Said → Type 0
IsSaidIn path bytes said =
    ((path ≡ codes "state.txt") × IsTopSaid bytes said)
    ⊎ ((path ≡ codes "state.txt" → ⊥) × IsPathSaid path said)

-- what a file says; one that isn't in the folder says nothing
abbrev pub IsSaid : List ℕ → List ℕ → List ℕ → Said → Type 0
IsSaid dir name bytes said =
    ((path : List ℕ) × (name ≡ in_folder dir path) × IsSaidIn path bytes said)
    ⊎ (((path : List ℕ) → name ≡ in_folder dir path → ⊥) × (said ≡ Nothing))

-- the numbers before this one are done, of those from the first one to the newest
pub record IsCounted (course : Course) (number done all : ℕ) : Type 0 where
  pub before : ℕ
  pub top : ℕ
  pub before_is : course.before ≡ Some before
  pub top_is : course.top ≡ Some top
  pub done_are : before + (done + 1) ≡ number
  pub all_are : before + all ≡ top
  pub within : done < all

-- the newest number isn't known, or this one isn't from the first to the newest
abbrev pub IsUncounted : Course → ℕ → Type 0
IsUncounted course number = (done all : ℕ) → IsCounted course number done all → ⊥
