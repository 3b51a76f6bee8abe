use Rattle.osm_opl.specs.Flat.{flat_object}
use Rattle.osm_exporting.proofs.FlatLemmas.{change_written, if_all_ok}
use Rattle.osm_exporting.proofs.flat_writer.write_flat.Goals as goal

pub returns : goal.returns
returns c = λ what t w.
    if_all_ok c.write_content.result c.write_content.ensures.text c.write_content.ensures.state_is c.write_content.ensures.kind
    (λ text state kind.
    change_written c.args.writer.now c.write_content.new.self c.write_reset.new.self.out.items c.write_object.new.buffers.content.items
    c.write_reset.new.self.state c.write_object.new.state (flat_object c.args.flat.now what) c.in_ok-write_reset.ensures.text
    c.in_ok-write_reset.ensures.state_is (c.in_ok-write_object.ensures what t w) text state kind)
