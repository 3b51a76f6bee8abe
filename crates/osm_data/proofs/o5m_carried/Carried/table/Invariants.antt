use Rattle.std.proofs.Common.{◌≡◌, ◌++◌, length, drop}
use Rattle.osm_data.specs.Steps.Strings.{AllAreTexts, entries_in, total_of}
use Rattle.osm_data.proofs.o5m_carried.Carried.table.Given as goal

abbrev pub invariant-loop-sizes : goal.invariant-loop-sizes
invariant-loop-sizes l = record {
  same : l.table ++ entries_in (drop l.sizes-index l.sizes-items) l.rest ≡ l.self;
  whole : length l.rest ≡ total_of (drop l.sizes-index l.sizes-items);
  texts : AllAreTexts (drop l.sizes-index l.sizes-items) l.rest;
}
