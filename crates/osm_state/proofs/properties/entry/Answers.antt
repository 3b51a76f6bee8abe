use Rattle.std.proofs.Common.{◌+◌, ◌-◌, length, drop, arith, rules, sym}
use Rattle.std.proofs.lemmas.List.{take_all, length-drop}
use Rattle.osm_state.proofs.LineLemmas.{entry_of_some}
use Rattle.osm_state.proofs.properties.entry.Goals as goal

-- the bytes after the first `=` are all the rest of the line
pub returns : goal.returns
returns c =
    let line = c.args.line.now in
    let end = c.in_ok-end.end in
    let whole = take_all (length c.args.line.now - (c.in_ok-end.end + 1)) (drop (c.in_ok-end.end + 1) c.args.line.now) (rw length-drop (omega arith)) in
    let made = entry_of_some c.args.line.now c.in_ok-end.end (search rules) (sym c.in_ok-end.ensures) in
    rw (c.trim.ensures, c.trim-2.ensures, whole) (sym made)
