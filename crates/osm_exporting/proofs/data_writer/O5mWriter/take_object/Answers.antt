use Rattle.std.proofs.Common.{refl, rules, sym}
use Rattle.osm_save.proofs.ObjectLemmas.{chosen_again}
use Rattle.osm_exporting.proofs.data_writer.O5mWriter.take_object.Goals as goal

pub returns : goal.returns
returns c = (
  c.args.object.now,
  sym (chosen_again c.args.filter.now c.args.last c.args.line.now c.args.object.now c.limits.ensures c.requires (search rules)),
  search rules,
  c.if-not-is_below.ensures refl,
  c.in_ok-put.ensures,
)
