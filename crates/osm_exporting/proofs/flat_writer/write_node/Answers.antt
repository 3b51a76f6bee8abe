use Rattle.std.proofs.Common.{◌≡◌, ◌++◌, rules}
use Rattle.osm_o5c.specs.Written.{difference_text}
use Rattle.osm_exporting.proofs.FlatLemmas.{node_written}
use Rattle.osm_exporting.proofs.flat_writer.write_node.Goals as goal
use Rattle.osm_runs.proofs.ResultLemmas.{on_ok_map}

pub returns : goal.returns
returns c = λ ts h.
    let lon : c.write_coordinate.new.out.items ≡ c.args.buffers.now.content.items
    ++ difference_text c.args.state.now.counters.lon c.args.lon = search rules in
    let lat : c.write_coordinate-2.new.out.items ≡ c.write_coordinate.new.out.items
    ++ difference_text c.args.state.now.counters.lat c.args.lat = search rules in
    let counters : c.count_location.new.counters ≡ record c.args.state.now.counters { lon = c.args.lon; lat = c.args.lat } = search rules in
    on_ok_map c.write_tags.result (c.write_tags.ensures ts h) (λ w.
    node_written c.args.buffers.now.content.items c.write_coordinate.new.out.items c.write_coordinate-2.new.out.items
    c.write_tags.new.out.items c.args.state.now c.write_tags.new.state c.count_location.new.counters c.args.lon c.args.lat ts lon lat
    counters w)
