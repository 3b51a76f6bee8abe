use Rattle.std.specs.Prelude.{List}
use Rattle.osm_model.specs.declared.lists.Tag.{Tag}
use Rattle.osm_opl.specs.Flat.{AreFlatTags}
use Rattle.osm_reading.proofs.PieceLemmas.{bytes_left}
use Rattle.osm_exporting.proofs.FlatLemmas.{TagsLeft}
use Rattle.osm_exporting.proofs.flat_writer.write_some_tags.Given as goal

abbrev pub invariant-loop-rest : goal.invariant-loop-rest
invariant-loop-rest l = (ts : List Tag) → AreFlatTags l.tags ts → TagsLeft l.fn.out.items l.out.items l.fn.state l.state ts l.rest

abbrev pub decreases-loop-rest : goal.decreases-loop-rest
decreases-loop-rest l = bytes_left l.rest
