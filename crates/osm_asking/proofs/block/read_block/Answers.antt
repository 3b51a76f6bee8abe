use Rattle.std.proofs.Common.{arith, ◌≡◌, ◌≢◌, ◌<◌, ◌≤◌, List, ℕ, None, drop, length, subst, take}
use Rattle.std.specs.Prelude.{◌⊎◌}
use Rattle.osm_reading.specs.Pieces.{cut_at}
use Rattle.osm_asking.proofs.BlockLemmas.{block_is}
use Rattle.osm_asking.proofs.CallLemmas.{short_enough, unread_short}
use Rattle.osm_asking.proofs.block.read_block.Goals as goal

pub returns-then-is_enough-clause-read : goal.returns-then-is_enough-clause-read
returns-then-is_enough-clause-read g c = λ file has.
    block_is file c.args.from 16384 c.in-Ok.block.items (c.in-Ok.ensures.read file has)
    (subst (λ (l : List ℕ). (cut_at 10 l ≢ None) ⊎ (length l < 16384)) c.as_slice.ensures.value (c.is_enough.ensures.enough c.if-is_enough.true))
    (omega arith)

pub returns-clause-short : goal.returns-clause-short
returns-clause-short g c =
    unread_short (λ block file. block.items ≡ take 16384 (drop c.args.from file)) (g.S.Store.state c.args.store.now) c.args.name.now c.read_longer.result
    (λ file has short. short_enough file c.args.from c.in-Ok.block.items short (c.in-Ok.ensures.read file has)
    (subst (λ (l : List ℕ). cut_at 10 l ≡ None) c.as_slice.ensures.value (c.is_enough.ensures.uncut c.if-is_enough.false))
    (subst (λ (l : List ℕ). 16384 ≤ length l) c.as_slice.ensures.value (c.is_enough.ensures.full c.if-is_enough.false)))

pub returns-clause-few : goal.returns-clause-few
returns-clause-few g c = λ file has short.
    absurd (short_enough file c.args.from c.in-Ok.block.items short (c.in-Ok.ensures.read file has)
    (subst (λ (l : List ℕ). cut_at 10 l ≡ None) c.as_slice.ensures.value (c.is_enough.ensures.uncut c.if-is_enough.false))
    (subst (λ (l : List ℕ). 16384 ≤ length l) c.as_slice.ensures.value (c.is_enough.ensures.full c.if-is_enough.false)))

pub returns-then-is_enough-clause-short : goal.returns-then-is_enough-clause-short
returns-then-is_enough-clause-short g c = λ file has short. c.in-Ok.ensures.read file has
