use Rattle.std.proofs.Common.{◌≡◌, length, take}
use Rattle.osm_data.specs.Steps.Strings.{AllAreTexts, entries_in, total_of}
use Rattle.osm_data.proofs.o5m_carried.Carried.of.Given as goal

abbrev pub invariant-loop-index : goal.invariant-loop-index
invariant-loop-index l = record {
  same : entries_in l.sizes.items l.bytes.items ≡ take l.index l.table;
  whole : length l.bytes.items ≡ total_of l.sizes.items;
  count : length l.sizes.items ≡ l.index;
  texts : AllAreTexts l.sizes.items l.bytes.items;
}
