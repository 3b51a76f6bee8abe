use Rattle.osm_disk.proofs.ReadLemmas.{HasRead}
use Rattle.osm_disk.proofs.reading.read_first.Given as goal

abbrev pub invariant-loop : goal.invariant-loop
invariant-loop g l = HasRead l.most (g.R.Read.remaining l.initial.reader) (g.R.Read.remaining l.reader) l.bytes.items
