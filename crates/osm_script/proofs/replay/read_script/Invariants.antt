use Rattle.std.proofs.Common.{◌≡◌, ◌≤◌, length}
use Rattle.std.specs.Io.KnownBytes.{Consumes}
use Rattle.osm_script.proofs.replay.read_script.Given as goal

abbrev pub invariant-loop : goal.invariant-loop
invariant-loop g l = record {
  consumed : Consumes (g.R.Read.remaining l.initial.reader) (g.R.Read.remaining l.reader) l.script.items;
  small : length l.script.items ≤ 67108864;
  counted : l.counter ≤ length l.script.items;
  asked : l.asks ≡ l.counter;
}
