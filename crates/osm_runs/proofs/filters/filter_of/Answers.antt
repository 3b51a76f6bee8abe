use Rattle.std.proofs.Common.{map, refl}
use Rattle.osm_runs.proofs.FilterLemmas.{too_many}
use Rattle.osm_runs.proofs.filters.filter_of.Goals as goal

pub returns-in-Ok-clause-asked : goal.returns-in-Ok-clause-asked
returns-in-Ok-clause-asked c = rw c.in-Ok.ensures.value (record {
  kinds = c.in-Some.ensures.found;
  rising = c.in_ok-keys.ensures.keys.rising;
  keys = c.in_ok-keys.ensures.keys.each;
})

pub returns-in-Err-clause-refused : goal.returns-in-Err-clause-refused
returns-in-Err-clause-refused c =
    too_many c.args.kinds.now (map (λ key. key.now) c.args.keys.now) c.in_ok-keys.keys.items c.in-Some.kinds.nodes c.in-Some.kinds.ways
    c.in-Some.kinds.relations c.in-Err.field-0 c.in_ok-keys.ensures.keys c.in-Some.ensures.some
    (λ is. c.in-Err.ensures.no_kind.0 (rw is refl)) (λ is. c.in-Err.ensures.too_many_keys.0 (rw is refl))
    (λ is. c.in-Err.ensures.unsorted.0 (rw is refl))
