use Rattle.std.proofs.Common.{◌≡◌, length, rules}
use Rattle.osm_exporting.proofs.FlatLemmas.{no_tags}
use Rattle.osm_exporting.proofs.flat_writer.write_tags.Goals as goal

pub returns-then-is_empty : goal.returns-then-is_empty
returns-then-is_empty c = λ ts h.
    let none : length c.args.tags.now ≡ 0 = search rules in
    no_tags c.args.out.now.items c.args.tags.now c.args.state.now ts none h
