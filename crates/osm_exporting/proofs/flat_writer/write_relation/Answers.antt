use Rattle.std.proofs.Common.{◌≡◌, [], rules}
use Rattle.osm_exporting.proofs.FlatLemmas.{relation_written}
use Rattle.osm_exporting.proofs.flat_writer.write_relation.Goals as goal
use Rattle.osm_runs.proofs.ResultLemmas.{on_ok_map}

pub returns : goal.returns
returns c = λ ms ts m h.
    let none : c.clear.new.self.items ≡ [] = search rules in
    on_ok_map c.write_tags.result (c.write_tags.ensures ts h) (λ w.
    relation_written c.args.buffers.now.content.items c.clear.new.self.items c.write_members.new.out.items
    c.write_part.new.self.content.items c.write_tags.new.out.items c.args.state.now c.write_members.new.state c.write_tags.new.state ms ts
    none (c.in_ok-write_members.ensures ms m) c.in_ok-write_part.ensures w)
