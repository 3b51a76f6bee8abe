-- How many calls of a store it takes to read and to write a file in blocks.
use Rattle.std.specs.Prelude.{◌≡◌, ℕ, ◌+◌, ◌-◌, ◌/◌, ◌≤◌, List, drop, length, Option, Some, None}
use Rattle.std.specs.Prelude.{Result, IfErr, IfOk, if◌then◌else◌}
use Rattle.osm_store.specs.Files.{HasFewer}
use Rattle.osm_store.specs.Frames.{StoreState}
use Rattle.osm_blocks.specs.Places.{Place, max_block}
use Rattle.osm_blocks.specs.Writing.{Waiting}

-- how many blocks so many bytes are after the first block of a file
unfoldable pub blocks_in : ℕ → ℕ
blocks_in bytes = (bytes + 131071) / 131072

-- how many blocks come after the first one in a file of so many bytes
abbrev pub blocks_after_first : ℕ → ℕ
blocks_after_first bytes = blocks_in (bytes - max_block)

-- the calls that are ahead of a reader at most: one for each block that isn't read yet, and one
-- that finds the end
abbrev pub reads_ahead : Place → List ℕ → ℕ
reads_ahead place file = blocks_in (length (drop place.from file)) + 1

-- those ahead after a search: as many as from the new place if a line was found, none at the end
abbrev pub found_ahead : Place → List ℕ → Option ℕ → ℕ
found_ahead place file None = 0
found_ahead place file (Some count) = reads_ahead place file

-- the calls of a writer at most when bytes are put: one if it writes, else none
abbrev pub puts_of : Waiting → ℕ
puts_of w = if w.is_writing then 1 else 0

-- at most as many fewer calls are left now as `after` is below `before`; none is no limit
abbrev pub SpendsDown : ℕ → ℕ → Option ℕ → Option ℕ → Type 0
SpendsDown before after None left = left ≡ None
SpendsDown before after (Some n) left = (m : ℕ) × (left ≡ Some m) × (n + after ≤ m + before)

-- where `before` calls were ahead, `after` are: no more than that were made if all is done, and the
-- device is blamed only if fewer than `before` were left
pub record Advances {T E : Type 0} (blames : E → Type 0) (before : ℕ) (after : T → ℕ)
    (old new : StoreState) (result : Result T E) : Type 0 where
  pub spent : IfOk result (λ x. SpendsDown before (after x) old.left new.left)
  pub lacks : IfErr result (λ e. blames e → HasFewer before old.left)
