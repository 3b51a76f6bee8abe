use Rattle.std.proofs.Common.{◌≢◌, ◌<◌, List, ℕ, None, length, rules, subst}
use Rattle.std.specs.Prelude.{◌⊎◌}
use Rattle.osm_reading.specs.Pieces.{cut_at}
use Rattle.osm_asking.proofs.BlockLemmas.{block_is}
use Rattle.osm_asking.proofs.block.+read_longer.Goals as goal

pub returns-then-is_enough-clause-read : goal.returns-then-is_enough-clause-read
returns-then-is_enough-clause-read g t c = λ file has.
    block_is file c.args.from c.args.most c.in-Ok.block.items (c.in-Ok.ensures.read file has)
    (subst (λ (l : List ℕ). (cut_at 10 l ≢ None) ⊎ (length l < c.args.most)) c.as_slice.ensures.value (c.is_enough.ensures.enough c.if-is_enough.true))
    (search rules)
