use Rattle.std.proofs.Common.{◌≡◌, true, arith, rules}
use Rattle.std.specs.List.{list_all}
use Rattle.osm_opl.specs.Written.{escaped_text, is_written_bare}
use Rattle.osm_opl.specs.Room.{LacksRoom}
use Rattle.osm_opl.proofs.WrittenLemmas.{on_err}
use Rattle.osm_opl.proofs.WrittenLemmas.{written_as_it_is}
use Rattle.osm_opl.proofs.escapes.write_text.Goals as goal

pub returns-then-is_written_as_it_is-clause-ok : goal.returns-then-is_written_as_it_is-clause-ok
returns-then-is_written_as_it_is-clause-ok c =
    let bare : list_all is_written_bare c.args.text.now ≡ true = search rules in
    let same : escaped_text c.args.text.now ≡ c.args.text.now = written_as_it_is c.args.text.now bare in
    rw same (search rules)

pub returns-in_err-extend_from_slice-clause-refused : goal.returns-in_err-extend_from_slice-clause-refused
returns-in_err-extend_from_slice-clause-refused c =
    let bare : list_all is_written_bare c.args.text.now ≡ true = search rules in
    let same : escaped_text c.args.text.now ≡ c.args.text.now = written_as_it_is c.args.text.now bare in
    rw same (on_err c.from_residual.result (LacksRoom c.args.out.now c.args.text.now) (record { less = search (arith, rules) }))
