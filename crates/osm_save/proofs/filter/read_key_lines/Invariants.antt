use Rattle.osm_save.specs.Reading.{key_at, last_of}
use Rattle.osm_save.proofs.ItemLemmas.{Items}
use Rattle.osm_save.proofs.filter.read_key_lines.Given as goal

abbrev pub invariant-loop : goal.invariant-loop
invariant-loop l = Items (λ key. key) key_at l.fn.many l.fn.rest l.counter l.keys.items (last_of l.keys.items) l.rest
