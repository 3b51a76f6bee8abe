use Rattle.std.proofs.Common.{◌≡◌, ◌∷◌, ◌++◌, ◌-◌, [], drop, take, length, arith, rules, append-nil, refl}
use Rattle.std.specs.Prelude.{if◌then◌else◌}
use Rattle.std.proofs.lemmas.List.{take_all, length-drop}
use Rattle.osm_opl.specs.Room.{LacksRoom}
use Rattle.osm_opl.specs.Steps.Writing.{role_text}
use Rattle.osm_opl.proofs.WrittenLemmas.{bare_role, on_err}
use Rattle.osm_opl.proofs.lists.write_short_member.Goals as goal

pub returns-clause-ok : goal.returns-clause-ok
returns-clause-ok c =
    let start = c.prepend_comma-start.result in
    let room = c.prepend_comma-start.new.room in
    let text : drop start room ≡ (if c.args.is_first then [] else 44 ∷ []) ++ role_text c.args.key c.args.role.now =
    rw (
      c.prepend_comma-start.ensures.written,
      c.prepend_key-letter.ensures.written,
      c.prepend-at.ensures.written,
      c.prepend-text.ensures.written,
      c.as_bytes.ensures.value,
      append-nil,
      ← bare_role c.args.key c.args.role.now c.requires.bare,
    ) refl in
    let long : length room ≡ 192 = search rules in
    let whole : take (192 - start) (drop start room) ≡ drop start room =
    take_all (192 - start) (drop start room) (omega (arith, length-drop start room, long)) in
    rw (c.in_ok-extend_from_slice.ensures.items, whole, text) refl

pub returns-in_err-extend_from_slice-clause-refused : goal.returns-in_err-extend_from_slice-clause-refused
returns-in_err-extend_from_slice-clause-refused c =
    let start = c.prepend_comma-start.result in
    let room = c.prepend_comma-start.new.room in
    let text : drop start room ≡ (if c.args.is_first then [] else 44 ∷ []) ++ role_text c.args.key c.args.role.now =
    rw (
      c.prepend_comma-start.ensures.written,
      c.prepend_key-letter.ensures.written,
      c.prepend-at.ensures.written,
      c.prepend-text.ensures.written,
      c.as_bytes.ensures.value,
      append-nil,
      ← bare_role c.args.key c.args.role.now c.requires.bare,
    ) refl in
    let long : length room ≡ 192 = search rules in
    let whole : take (192 - start) (drop start room) ≡ drop start room =
    take_all (192 - start) (drop start room) (omega (arith, length-drop start room, long)) in
    on_err c.from_residual.result (LacksRoom c.args.out.now
    ((if c.args.is_first then [] else 44 ∷ []) ++ role_text c.args.key c.args.role.now))
    (rw (← text, ← whole) (record { less = search (arith, rules) }))
