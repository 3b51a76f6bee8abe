use Rattle.std.proofs.Common.{rules, ◌≡◌, ◌++◌}
use Rattle.osm_o5c.specs.Written.{difference_text, tags_text}
use Rattle.osm_o5c.proofs.WriteLemmas.{on_ok, three_pieces}
use Rattle.osm_o5c.proofs.writer.Buffers.write_node.Goals as goal

pub returns-clause-text : goal.returns-clause-text
returns-clause-text c =
    let first : c.write_coordinate.new.out.items ≡ c.args.self.now.content.items
    ++ difference_text c.args.state.now.counters.lon c.args.lon.now = search rules in
    let second : c.write_coordinate-2.new.out.items ≡ c.write_coordinate.new.out.items
    ++ difference_text c.args.state.now.counters.lat c.args.lat.now = search rules in
    on_ok c.write_tags.result c.write_tags.ensures.text
    (λ e. three_pieces c.args.self.now.content.items c.write_coordinate.new.out.items
    c.write_coordinate-2.new.out.items c.write_tags.new.out.items
    (difference_text c.args.state.now.counters.lon c.args.lon.now)
    (difference_text c.args.state.now.counters.lat c.args.lat.now)
    (tags_text c.args.state.now.strings c.args.tags.now) first second (rw c.as_slice.ensures.parts at e))
