use Rattle.std.proofs.Common.{◌≡◌, rules}
use Rattle.osm_o5c.specs.Written.{difference_text}
use Rattle.osm_opl.specs.Flat.{flat_object}
use Rattle.osm_exporting.proofs.FlatLemmas.{object_written}
use Rattle.osm_exporting.proofs.flat_writer.write_object.Goals as goal
use Rattle.osm_runs.proofs.ResultLemmas.{on_ok_map}

pub returns : goal.returns
returns c = λ what t w.
    let id : c.write_difference.new.out.items ≡ difference_text c.args.state.now.counters.id c.args.flat.now.key.id = search rules in
    on_ok_map c.write_what.result (c.write_what.ensures what t w) (λ h.
    object_written c.write_difference.new.out.items c.write_meta_parts.new.out.items c.write_what.new.buffers.content.items
    c.args.state.now c.write_meta_parts.new.state c.write_what.new.state c.count_meta.new.counters
    (flat_object c.args.flat.now what) id c.in_ok-write_meta_parts.ensures.text c.in_ok-write_meta_parts.ensures.state_is
    c.count_meta.ensures h)
