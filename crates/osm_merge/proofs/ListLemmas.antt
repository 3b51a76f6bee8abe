-- A list of a save text: its number, and its lines.
use Rattle.std.proofs.Common.{◌≡◌, ℕ, List, refl, ap, ◌∙◌, Some, None, Option}
use Rattle.std.specs.Prelude.{Err, Bool, true, false, ◌==◌, codes, length, if◌then◌else◌}
use Rattle.osm_blocks.specs.Places.{Place}
use Rattle.osm_mirror.specs.Mirror.{Counted}
use Rattle.osm_model.specs.Filter.{FilterValue}
use Rattle.osm_save.specs.Reading.{count_at, counts_at, fixed_at, items_at, numbered_at, object_at, objects_at}
use Rattle.osm_merge.specs.Mirrors.{both_at, end_at}
use Rattle.osm_merge.specs.Reading.{Ends, LineStops}
use Rattle.osm_merge.specs.declared.fault.MergeFault.{MergeFault}
use Rattle.osm_merge.specs.declared.fault.MergeFault.TheVariants.{BadSave, Changed, LongLine, NoSave, ReadFault, TooLarge, WantOfMemory, WriteFault}

pub objects_none : (f : FilterValue) (most : ℕ) (bytes : List ℕ) → numbered_at (codes "objects ") most bytes ≡ None → objects_at f most bytes ≡ None
unfolding objects_at
objects_none f most bytes e = rw e refl

pub objects_read : (f : FilterValue) (most : ℕ) (bytes rest : List ℕ) (many : ℕ) → numbered_at (codes "objects ") most bytes ≡ Some (many, rest)
    → objects_at f most bytes ≡ items_at (λ c. c.key) (object_at f) many None rest
unfolding objects_at
objects_read f most bytes rest many e = rw e refl

pub counts_none : (word : List ℕ) (most : ℕ) (bytes : List ℕ) → numbered_at word most bytes ≡ None → counts_at word most bytes ≡ None
unfolding counts_at
counts_none word most bytes e = rw e refl

pub counts_read : (word : List ℕ) (most : ℕ) (bytes rest : List ℕ) (many : ℕ) → numbered_at word most bytes ≡ Some (many, rest)
    → counts_at word most bytes ≡ items_at (λ e. e.0) (count_at most) many None rest
unfolding counts_at
counts_read word most bytes rest many e = rw e refl

-- ---- the end of a save text

pub end_none : (bytes : List ℕ) → fixed_at (codes "end") bytes ≡ None → end_at bytes ≡ None
unfolding end_at
end_none bytes e = rw e refl

pub end_is : (bytes rest : List ℕ) → fixed_at (codes "end") bytes ≡ Some rest → end_at bytes ≡ (if length rest == 0 then Some tt else None)
unfolding end_at
end_is bytes rest e = rw e refl

-- ---- both lists of counts

pub both_none : (most : ℕ) (bytes : List ℕ) → counts_at (codes "users ") most bytes ≡ None → both_at most bytes ≡ None
unfolding both_at
both_none most bytes e = rw e refl

pub both_after : (most : ℕ) (bytes after : List ℕ) (us : List Counted) → counts_at (codes "users ") most bytes ≡ Some (us, after)
    → counts_at (codes "changesets ") most after ≡ None → both_at most bytes ≡ None
unfolding both_at
both_after most bytes after us e none = rw (e, none) refl

pub both_unended : (most : ℕ) (bytes after last : List ℕ) (us ss : List Counted) → counts_at (codes "users ") most bytes ≡ Some (us, after)
    → counts_at (codes "changesets ") most after ≡ Some (ss, last) → end_at last ≡ None → both_at most bytes ≡ None
unfolding both_at
both_unended most bytes after last us ss e f none = rw (e, f, none) refl

pub both_read : (most : ℕ) (bytes after last : List ℕ) (us ss : List Counted) → counts_at (codes "users ") most bytes ≡ Some (us, after)
    → counts_at (codes "changesets ") most after ≡ Some (ss, last) → end_at last ≡ Some tt → both_at most bytes ≡ Some (us, ss)
unfolding both_at
both_read most bytes after last us ss e f end = rw (e, f, end) refl

pub end_left : (bytes rest : List ℕ) → fixed_at (codes "end") bytes ≡ Some rest → (length rest == 0) ≡ false → end_at bytes ≡ None
end_left bytes rest e more = end_is bytes rest e ∙ ap (λ (t : Bool). if t then Some tt else None) more

pub end_done : (bytes rest : List ℕ) → fixed_at (codes "end") bytes ≡ Some rest → (length rest == 0) ≡ true → end_at bytes ≡ Some tt
end_done bytes rest e more = end_is bytes rest e ∙ ap (λ (t : Bool). if t then Some tt else None) more

-- the end of a file can't be read for a reason other than the device, memory or its length
pub ends_refused : {A : Type 0} (file : List ℕ) (place : Place) (fault : MergeFault) (r : Option A) → Ends file place (Err fault) → LineStops file fault r
ends_refused file place (BadSave line) r bad = absurd bad
ends_refused file place LongLine r bad = absurd bad
ends_refused file place TooLarge r huge = huge
ends_refused file place NoSave r bad = bad
ends_refused file place Changed r bad = bad
ends_refused file place ReadFault r ok = tt
ends_refused file place WriteFault r ok = tt
ends_refused file place WantOfMemory r ok = tt
