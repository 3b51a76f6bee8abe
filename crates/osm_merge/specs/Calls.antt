-- How many calls of a store a check and a merge make.
use Rattle.std.specs.Prelude.{ℕ, ◌+◌, ◌*◌, List, length, Option, Some, None, if◌then◌else◌}
use Rattle.std.specs.Prelude.{Result}
use Rattle.osm_store.specs.Files.{Spends, SpendsAtMost}
use Rattle.osm_blocks.specs.Calls.{Advances, blocks_after_first, reads_ahead}
use Rattle.osm_blocks.specs.Places.{HasFile, Place, left_of}
use Rattle.osm_blocks.specs.Writing.{Waiting}
use Rattle.osm_store.specs.Frames.{StoreState}
use Rattle.osm_merge.specs.Faults.{IsDeviceFault}
use Rattle.osm_merge.specs.declared.fault.MergeFault.{MergeFault}
use Rattle.osm_merge.specs.declared.fault.MergeFault.TheVariants.{NoSave}

-- the bytes of a file, none if there is no such file
abbrev pub bytes_in : Option (List ℕ) → ℕ
bytes_in None = 0
bytes_in (Some file) = length file

-- if there is no such file, that took one call
abbrev pub AsksOnce : MergeFault → Option ℕ → Option ℕ → Type 0
AsksOnce NoSave old new = Spends 1 old new × SpendsAtMost 1 old new
AsksOnce fault old new = Unit {0}

-- the calls that are ahead of a reading of the file of that name become fewer by those that were
-- made while the reading went on from one place to another
abbrev pub ReadsTo : {T : Type 0} → StoreState → StoreState → List ℕ → Place → Place
    → Result T MergeFault → Type 0
ReadsTo before after name old new result = (file : List ℕ) → HasFile before name file
    → Advances IsDeviceFault (reads_ahead old file) (λ _. reads_ahead new file) before after result

-- the most calls of a check of so many bytes: each block is read once, the first of which has up to
-- 1 MiB, and then the end is found
abbrev pub check_calls : ℕ → ℕ
check_calls bytes = 2 + blocks_after_first bytes

-- the most calls of a merge into so many bytes: two checks, an append for each line, so for each
-- byte at most, and seven more: `begin`, the head, what is left of each list of changes after the
-- list of the save, the bytes that wait at the end, and `commit`
abbrev pub merge_calls : ℕ → ℕ
merge_calls bytes = 2 * check_calls bytes + bytes + 7

-- the appends that are ahead at most: if lines are written, one for each line that is left, so for
-- each byte
abbrev pub puts_ahead : Waiting → Place → List ℕ → ℕ
puts_ahead w place file = if w.is_writing then length (left_of place file) else 0

-- the calls that are ahead at most, except at the ends of the lists
abbrev pub calls_ahead : Waiting → Place → List ℕ → ℕ
calls_ahead w place file = reads_ahead place file + puts_ahead w place file
