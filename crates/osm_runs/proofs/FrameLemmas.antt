-- Frames of calls that only read, however many, and whom a fault blames.
use Rattle.std.proofs.Common.{◌≡◌, ℕ, Option, Some, None, refl, subst}
use Rattle.std.specs.Prelude.{Result, Ok, Err, IfErr, IsSome}
use Rattle.osm_store.specs.Files.{HasFewer}
use Rattle.osm_store.specs.Frames.{ReadsBetween, StoreState}
use Rattle.osm_blocks.specs.Frames.{ReadsOften}
use Rattle.osm_merge.specs.Faults as merges
use Rattle.osm_merge.specs.declared.fault.MergeFault.{MergeFault}
use Rattle.osm_merge.specs.declared.fault.MergeFault.TheVariants as faults
use Rattle.osm_runs.specs.Checking.{read_fault_of}
use Rattle.osm_runs.specs.Runs.{IsDeviceFault}

fewer_some : (n : ℕ) (o : Option ℕ) → HasFewer n o → IsSome o
fewer_some n None h = absurd h
fewer_some n (Some m) h = refl

-- reads, however many
pub often_of : {T E : Type 0} (blames : E → Type 0) (least most : ℕ) (a b : StoreState) (r : Result T E) → ReadsBetween blames least most a b r
    → ReadsOften blames a b r
often_of blames least most a b (Ok x) h = record {
  files = h.files;
  known = h.makes.known;
  left = h.makes.left;
  failures = h.makes.failures;
  failed = tt;
  stops = tt;
}
often_of blames least most a b (Err e) h = record {
  files = h.files;
  known = h.makes.known;
  left = h.makes.left;
  failures = h.makes.failures;
  failed = h.makes.failed;
  stops = λ known blamed. fewer_some most a.left (h.at_most.lacks known blamed);
}

-- a fault that may be answered with a value
pub often_told : {T U E : Type 0} (blames : E → Type 0) (a b : StoreState) (fault : E) (r : Result U E) → ReadsOften {T = T} blames a b (Err fault)
    → IfErr r (λ x. x ≡ fault) → ReadsOften blames a b r
often_told blames a b fault (Ok y) h is = record {
  files = h.files;
  known = h.known;
  left = h.left;
  failures = h.failures;
  failed = tt;
  stops = tt;
}
often_told blames a b fault (Err x) h is = record {
  files = h.files;
  known = h.known;
  left = h.left;
  failures = h.failures;
  failed = λ blamed. h.failed (subst blames is blamed);
  stops = λ known blamed. h.stops known (subst blames is blamed);
}

-- a run blames the device where the reading does
pub blames_device : (fault : MergeFault) → IsDeviceFault (read_fault_of fault) → merges.IsDeviceFault fault
blames_device faults.ReadFault blame = tt
blames_device faults.WriteFault blame = tt
blames_device faults.WantOfMemory blame = absurd blame
blames_device faults.NoSave blame = absurd blame
blames_device (faults.BadSave line) blame = absurd blame
blames_device faults.LongLine blame = absurd blame
blames_device faults.TooLarge blame = absurd blame
blames_device faults.Changed blame = absurd blame
