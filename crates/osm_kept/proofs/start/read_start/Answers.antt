use Rattle.std.proofs.Common.{◌≡◌, Some, rules}
use Rattle.osm_store.specs.Files.{prefix_of}
use Rattle.osm_store.specs.Frames.{IsKnown}
use Rattle.osm_kept.proofs.StartLemmas.{read_is_start, starts_as, text_stops}
use Rattle.osm_kept.proofs.start.read_start.Goals as goal

pub returns-in-Ok-clause-told : goal.returns-in-Ok-clause-told
returns-in-Ok-clause-told g c =
    let is : IsKnown (g.S.Store.state c.args.store.now)
    → prefix_of 409600 ((g.S.Store.state c.args.store.now).files c.args.name.now) ≡ Some c.in-Ok-Some.bytes.items = search rules in
    λ known. starts_as ((g.S.Store.state c.args.store.now).files c.args.name.now) c.in-Ok-Some.bytes.items c.in-Ok.start (is known)
    (rw c.as_slice.ensures.value at c.in-Ok.ensures.read)

pub returns-in-Ok-clause-limits : goal.returns-in-Ok-clause-limits
returns-in-Ok-clause-limits g c = read_is_start c.as_slice.result.now c.in-Ok.start c.in-Ok.ensures.read

pub returns-in-Ok-Some-clause-stops : goal.returns-in-Ok-Some-clause-stops
returns-in-Ok-Some-clause-stops g c =
    let is : IsKnown (g.S.Store.state c.args.store.now)
    → prefix_of 409600 ((g.S.Store.state c.args.store.now).files c.args.name.now) ≡ Some c.in-Ok-Some.bytes.items = search rules in
    text_stops (IsKnown (g.S.Store.state c.args.store.now)) ((g.S.Store.state c.args.store.now).files c.args.name.now)
    c.in-Ok-Some.bytes.items c.in-Err.fault is (rw c.as_slice.ensures.value at c.in-Err.ensures.stops)
