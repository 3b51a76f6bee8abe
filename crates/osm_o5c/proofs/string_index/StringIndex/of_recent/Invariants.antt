use Rattle.std.proofs.Common.{◌≡◌, ◌-◌, ◌≤◌, length, take, drop}
use Rattle.osm_o5c.proofs.string_index.StringIndex.of_recent.Given as goal

abbrev pub invariant-loop-index : goal.invariant-loop-index
invariant-loop-index l = record {
  from : length l.self - 15000 ≤ l.index;
  to : l.index ≤ length l.self;
  recent : l.recent ≡ take (l.index - (length l.self - 15000)) (drop (length l.self - 15000) l.self);
}
