-- The lists of a save text counted with net changes laid over them. Of an object no more than its
-- key is read, so that all this holds only if the file is a save text.
use Rattle.std.specs.Prelude.{◌≡◌, ℕ, ◌+◌, ◌≤◌, List, ◌∷◌, length, Option, Some, None}
use Rattle.std.specs.Prelude.{Result, Ok, Err}
use Rattle.osm_blocks.specs.Places.{Place, left_of}
use Rattle.osm_model.specs.Change.{ChangeValue}
use Rattle.osm_model.specs.Filter.{FilterValue}
use Rattle.osm_model.specs.declared.kind.Key.{Key}
use Rattle.osm_net.specs.Laid.{laid_on, laid_over}
use Rattle.osm_net.specs.Net.{NetEntry, NetValue}
use Rattle.osm_save.specs.Reading.{items_at, object_at, save_at}
use Rattle.osm_save.specs.declared.save.Saved.{Saved}
use Rattle.osm_merge.specs.Laying.{next_at}
use Rattle.osm_merge.specs.Mirrors.{totals_of}
use Rattle.osm_merge.specs.Reading.{LineStops}
use Rattle.osm_merge.specs.declared.fault.MergeFault.{MergeFault}
use Rattle.osm_merge.specs.declared.lists.Totals.{Totals}

-- the next line was passed, whatever the filter and the key before it: if it is an object's, that
-- is its key
abbrev pub PassesKey : List ℕ → Place → Place → Result Key MergeFault → Type 0
PassesKey file old new (Ok key) =
    (f : FilterValue) (last : Option Key) (c : ChangeValue) (after : List ℕ)
    → next_at (object_at f) last (left_of old file) ≡ Some (c, after)
    → (c.key ≡ key) × (after ≡ left_of new file)
PassesKey file old new (Err fault) =
    (f : FilterValue) (last : Option Key)
    → LineStops file fault (next_at (object_at f) last (left_of old file))

-- an object with that key and the entries up to it leave so many objects, and `rest` is laid over
-- those after it
pub record CountsOne (es : List NetEntry) (key : Key) (rest : List NetEntry) (many : ℕ)
    : Type 0 where
  pub counted : (c : ChangeValue) → c.key ≡ key → (cs : List ChangeValue)
      → length (laid_over es (c ∷ cs)) ≡ many + length (laid_over rest cs)
  pub few : many + length rest ≤ length es + 1

-- the entries below that key leave so many objects, and `rest` is laid over an object with that key
-- and those after it
pub record CountsBelow (es : List NetEntry) (key : Key) (rest : List NetEntry) (many : ℕ)
    : Type 0 where
  pub counted : (c : ChangeValue) → c.key ≡ key → (cs : List ChangeValue)
      → length (laid_over es (c ∷ cs)) ≡ many + length (laid_over rest (c ∷ cs))
  pub few : many + length rest ≤ length es

-- if so many objects are next, they are as many with the entries laid over them, and the new place
-- is after them
abbrev pub CountsObjects : List ℕ → Place → Place → ℕ → List NetEntry → ℕ → Type 0
CountsObjects file old new many es count =
    (f : FilterValue) (objects : List ChangeValue) (rest : List ℕ)
    → items_at (λ c. c.key) (object_at f) many None (left_of old file) ≡ Some (objects, rest)
    → (length (laid_over es objects) ≡ count) × (rest ≡ left_of new file)

-- if the file is the save text of something, its lists have those numbers after the net changes
abbrev pub CountsAs : Option (List ℕ) → NetValue → Totals → Type 0
CountsAs told n totals =
    (file : List ℕ) (saved : Saved) → told ≡ Some file → save_at file ≡ Some saved
    → totals ≡ totals_of (laid_on n saved.mirror)
