use Rattle.std.specs.Prelude.{ℕ, List, Ok}
use Rattle.osm_blocks.specs.Calls.{SpendsDown, reads_ahead}
use Rattle.osm_blocks.specs.Frames.{ReadsOften}
use Rattle.osm_blocks.specs.Places.{HasFile, left_of}
use Rattle.osm_merge.specs.Faults.{IsDeviceFault}
use Rattle.osm_merge.proofs.CountingLemmas.{Counting}
use Rattle.osm_merge.proofs.counting.count_objects.Given as goal

abbrev pub invariant-loop : goal.invariant-loop
invariant-loop g l = record {
  counting : Counting l.fn.many l.counter l.fn.entries l.rest l.count (HasFile (g.S.Store.state l.fn.store) l.fn.name) (left_of l.fn.source) (left_of l.source);
  frame : ReadsOften {T = Unit {0}} IsDeviceFault (g.S.Store.state l.fn.store) (g.S.Store.state l.store) (Ok tt);
  spent : (file : List ℕ) → HasFile (g.S.Store.state l.fn.store) l.fn.name file
      → SpendsDown (reads_ahead l.fn.source file) (reads_ahead l.source file) (g.S.Store.state l.fn.store).left (g.S.Store.state l.store).left;
}
