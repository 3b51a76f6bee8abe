use Rattle.std.proofs.Common.{◌≡◌, ◌++◌, ◌∙◌, List, ℕ, FitsSigned, ap, append_assoc, rules, to_z-of_z, true, w32}
use Rattle.osm_opl.specs.Flat.{meta_of}
use Rattle.osm_opl.specs.Room.{LacksRoom}
use Rattle.osm_opl.specs.Steps.Writing.{line_start, location_text}
use Rattle.osm_opl.specs.Written.{items_text, tag_text}
use Rattle.osm_opl.proofs.RoomLemmas.{lacks_after}
use Rattle.osm_opl.proofs.WrittenLemmas.{on_err}
use Rattle.osm_opl.proofs.lines.append_node_parts.Goals as goal

pub returns-in_err-write_node_rest-clause-refused :
    goal.returns-in_err-write_node_rest-clause-refused
returns-in_err-write_node_rest-clause-refused c =
    let start = line_start c.args.key true (meta_of c.args.numbers c.args.user.now) in
    let rest = items_text tag_text c.args.tags.now ++ location_text c.args.lon c.args.lat in
    let lon : FitsSigned w32 c.args.lon = search rules in
    let lat : FitsSigned w32 c.args.lat = search rules in
    let lacks : LacksRoom c.write_start.new.out rest = simp to_z-of_z at c.in_err-write_node_rest.ensures.refused in
    on_err c.from_residual-in_err-write_node_rest.result (LacksRoom c.args.out.now (start ++ rest))
    (lacks_after c.args.out.now c.write_start.new.out start rest c.in_ok-write_start.ensures.ok
    c.in_ok-write_start.ensures.room lacks)

pub returns-clause-ok : goal.returns-clause-ok
returns-clause-ok c =
    let start = line_start c.args.key true (meta_of c.args.numbers c.args.user.now) in
    let rest = items_text tag_text c.args.tags.now ++ location_text c.args.lon c.args.lat in
    let lon : FitsSigned w32 c.args.lon = search rules in
    let lat : FitsSigned w32 c.args.lat = search rules in
    let after : c.write_node_rest.new.out.items ≡ c.write_start.new.out.items ++ rest =
    simp to_z-of_z at c.in_ok-write_node_rest.ensures.ok in
    after ∙ ap (λ (l : List ℕ). l ++ rest) c.in_ok-write_start.ensures.ok
    ∙ append_assoc c.args.out.now.items start rest
