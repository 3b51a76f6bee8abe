use Rattle.std.proofs.Common.{◌≡◌, ◌<◌, ◌≤◌, ◌-◌, ◌*◌, Ok}
use Rattle.osm_model.specs.Limits.{max_changes}
use Rattle.osm_store.specs.Frames.{IsKnown, MakesAtMost}
use Rattle.osm_blocks.specs.Frames.{ReadsOften}
use Rattle.osm_runs.specs.Following.{bytes_of}
use Rattle.osm_runs.specs.Runs.{IsDeviceFault}
use Rattle.osm_round.specs.Gathering.{GathersIn, HoldsGathered}
use Rattle.osm_round.specs.News.{HoldsUpTo, came_to}
use Rattle.osm_round.specs.Taking.{HasTaken, LeavesRoom, counted}
use Rattle.osm_round.proofs.taken.take_numbers.Given as goal

abbrev pub invariant-loop-before : goal.invariant-loop-before
invariant-loop-before g l = record {
  at : l.taken.head.number ≡ l.before;
  from : l.fn.taken.head.number ≤ l.before;
  until : l.before ≤ l.fn.bounds.last;
  frame : ReadsOften IsDeviceFault (g.S.Store.state l.fn.store) (g.S.Store.state l.store) (Ok l.before);
  most : MakesAtMost IsDeviceFault (3 * (l.before - l.fn.taken.head.number)) (g.S.Store.state l.fn.store) (g.S.Store.state l.store) (Ok l.before);
  bytes : IsKnown (g.S.Store.state l.fn.store)
      → l.size ≡ counted (bytes_of (g.S.Store.state l.fn.store).files l.fn.dir l.fn.taken.head.number (l.before - l.fn.taken.head.number));
  left : IsKnown (g.S.Store.state l.fn.store) → l.before < l.fn.bounds.last
      → LeavesRoom l.fn.bounds.room (bytes_of (g.S.Store.state l.fn.store).files l.fn.dir l.fn.taken.head.number (l.before - l.fn.taken.head.number));
  but_last : IsKnown (g.S.Store.state l.fn.store)
      → LeavesRoom l.fn.bounds.room (bytes_of (g.S.Store.state l.fn.store).files l.fn.dir l.fn.taken.head.number (l.before - l.fn.taken.head.number - 1));
  taken : HasTaken (IsKnown (g.S.Store.state l.fn.store)) (g.S.Store.state l.fn.store).files l.fn.dir l.fn.filter l.fn.taken.head
      (came_to l.fn.filter l.taken);
  few : HoldsUpTo (max_changes * l.taken.head.number) l.taken.news;
  held : HoldsGathered l.taken.news l.gathered;
  gathered : GathersIn (IsKnown (g.S.Store.state l.fn.store)) (g.S.Store.state l.fn.store).files l.fn.dir l.fn.filter l.fn.taken.head l.fn.gathered.left
      (came_to l.fn.filter l.taken) l.gathered;
}
