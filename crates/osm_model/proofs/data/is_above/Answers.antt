use Rattle.std.proofs.Common.{◌≡◌, ◌-◌, length, Some, slice_get}
use Rattle.std.specs.Ordering.{is_lt}
use Rattle.osm_model.specs.KeyOrder.{key_cmp}
use Rattle.osm_model.proofs.DataLemmas.{below_last, last_below, last_place, less_is, less_of}
use Rattle.osm_model.proofs.data.is_above.Goals as goal

-- the last key is the greatest, so the others are below what it is below
pub returns-in-Some : goal.returns-in-Some
returns-in-Some c =
    let objects = c.args.objects.now in
    let last = c.in-Some.last.now in
    let key = c.args.change.now.key in
    let at : Some last ≡ slice_get objects (length objects - 1) = c.in-Some.ensures.value in
    let place = last_place objects last at in
    let answer : c.lt.result ≡ is_lt (key_cmp last.key key) =
    rw (← c.key.ensures.key, ← c.key-in-Some.ensures.key) c.lt.ensures in (
      (λ t. last_below objects (length objects - 1) last key place c.requires.rising at
          (less_of (key_cmp last.key key) (rw (← answer) t))),
      (λ below. rw answer (less_is (key_cmp last.key key)
          (below_last objects (length objects - 1) last key place at below))),
    )
