use Rattle.std.proofs.Common.{◌≡◌, ◌++◌}
use Rattle.std.specs.List.{zip}
use Rattle.osm_judge.proofs.judge.pair_up.Given as goal

abbrev pub invariant-loop-pair : goal.invariant-loop-pair
invariant-loop-pair l = l.pairs.items ++ zip l.pair-iterator.a.rest.items l.pair-iterator.b.rest.items ≡ zip l.fn.events.items l.fn.replies.items
