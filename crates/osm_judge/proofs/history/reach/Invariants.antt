use Rattle.std.proofs.Common.{◌≡◌, ℕ, ◌<◌, ◌≤◌, true}
use Rattle.osm_world.specs.History.{accepted_of}
use Rattle.osm_judge.proofs.history.reach.Given as goal

abbrev pub invariant-loop-next : goal.invariant-loop-next
invariant-loop-next l = (j : ℕ) → l.from < j → j ≤ l.next → accepted_of l.history j ≡ true
