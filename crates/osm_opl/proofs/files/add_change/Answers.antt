use Rattle.std.proofs.Common.{[], ◌∷◌, ◌++◌, arith, rules}
use Rattle.osm_opl.specs.Room.{LacksRoom}
use Rattle.osm_opl.specs.Written.{line_text}
use Rattle.osm_opl.proofs.RoomLemmas.{lacks_after}
use Rattle.osm_opl.proofs.WrittenLemmas.{on_err}
use Rattle.osm_opl.proofs.files.add_change.Goals as goal

pub returns-in_err-push-clause-refused : goal.returns-in_err-push-clause-refused
returns-in_err-push-clause-refused c =
    on_err c.from_residual-in_err-push.result (LacksRoom c.args.text.now (line_text c.args.change.now ++ 10 ∷ []))
    (lacks_after c.args.text.now c.write_line.new.out (line_text c.args.change.now)
    (10 ∷ []) c.in_ok-write_line.ensures.ok c.write_line.ensures.room (record { less = search (arith, rules) }))
