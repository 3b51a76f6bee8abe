use Rattle.std.proofs.Common.{◌≡◌, [], rules}
use Rattle.osm_exporting.proofs.FlatLemmas.{way_written}
use Rattle.osm_exporting.proofs.flat_writer.write_way.Goals as goal
use Rattle.osm_runs.proofs.ResultLemmas.{on_ok_map}

pub returns : goal.returns
returns c = λ ids ts r h.
    let none : c.clear.new.self.items ≡ [] = search rules in
    on_ok_map c.write_tags.result (c.write_tags.ensures ts h) (λ w.
    way_written c.args.buffers.now.content.items c.clear.new.self.items c.write_refs.new.out.items c.write_part.new.self.content.items
    c.write_tags.new.out.items c.args.state.now c.write_tags.new.state c.write_refs.new.counters ids ts none
    (c.in_ok-write_refs.ensures ids r) c.in_ok-write_part.ensures w)
