use Rattle.std.proofs.Common.{◌≤◌, vec_capacity}
use Rattle.osm_opl.proofs.WrittenLemmas.{TextWritten}
use Rattle.osm_opl.proofs.escapes.write_chars.Given as goal

abbrev pub invariant-loop-character : goal.invariant-loop-character
invariant-loop-character l = (TextWritten l.initial.out.items l.out.items l.text l.character-iterator.rest.now)
    × (vec_capacity l.initial.out ≤ vec_capacity l.out)
