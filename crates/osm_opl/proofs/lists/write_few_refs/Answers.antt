use Rattle.std.proofs.Common.{◌≡◌, ◌-◌, drop, take, length, arith, rules}
use Rattle.std.proofs.lemmas.List.{take_all, length-drop}
use Rattle.osm_opl.specs.Room.{LacksRoom}
use Rattle.osm_opl.specs.Steps.Writing.{items_left}
use Rattle.osm_opl.specs.Written.{ref_text}
use Rattle.osm_opl.proofs.WrittenLemmas.{on_err}
use Rattle.osm_opl.proofs.lists.write_few_refs.Goals as goal

pub returns-in_err-extend_from_slice-clause-refused : goal.returns-in_err-extend_from_slice-clause-refused
returns-in_err-extend_from_slice-clause-refused c =
    let start = c.prepend_refs-start.result in
    let room = c.prepend_refs-start.new.room in
    let long : length room ≡ 192 = search rules in
    let whole : take (192 - start) (drop start room) ≡ drop start room =
    take_all (192 - start) (drop start room) (omega (arith, length-drop start room, long)) in
    on_err c.from_residual.result (LacksRoom c.args.out.now (items_left ref_text c.args.is_first c.args.refs.now))
    (rw (← c.prepend_refs-start.ensures.written, ← whole) (record { less = search (arith, rules) }))
