use Rattle.std.proofs.Common.{arith, rules}
use Rattle.std.specs.Io.{StartsWith}
use Rattle.osm_opl.specs.Room.{LacksRoom}
use Rattle.osm_opl.specs.Written.{escaped_text}
use Rattle.osm_opl.proofs.RoomLemmas.{lacks_char}
use Rattle.osm_opl.proofs.WrittenLemmas.{on_err, starts_more, text_done, text_more, text_start}
use Rattle.osm_opl.proofs.escapes.write_chars.Goals as goal

pub returns-in_err-write_char-clause-err : goal.returns-in_err-write_char-clause-err
returns-in_err-write_char-clause-err c =
    on_err c.from_residual.result (StartsWith c.write_char.new.out.items c.args.out.now.items)
    (starts_more c.args.out.now.items c.loop-character.out.items c.write_char.new.out.items
    (text_start c.args.out.now.items c.loop-character.out.items c.args.text.now c.loop-character.character-iterator.rest.now c.loop-character.invariant.0)
    c.in_err-write_char.ensures.err)

pub loop-character-preserved : goal.loop-character-preserved
loop-character-preserved c = (
  text_more c.args.out.now.items c.loop-character.out.items c.write_char.new.out.items c.args.text.now
      c.loop-character.character-iterator.rest.now c.next.new.self.rest.now c.in-Some.character
      c.loop-character.invariant.0 c.in-Some.ensures.steps.0 c.in_ok-write_char.ensures.ok,
  search (arith, rules),
)

pub returns-clause-ok : goal.returns-clause-ok
returns-clause-ok c =
    text_done c.args.out.now.items c.loop-character.out.items c.args.text.now
    c.loop-character.character-iterator.rest.now c.loop-character.invariant.0 c.in-None.ensures.steps.0.0

pub returns-in_err-write_char-clause-refused : goal.returns-in_err-write_char-clause-refused
returns-in_err-write_char-clause-refused c =
    on_err c.from_residual.result (LacksRoom c.args.out.now (escaped_text c.args.text.now))
    (lacks_char c.args.out.now c.loop-character.out c.args.text.now c.loop-character.character-iterator.rest.now
    c.next.new.self.rest.now c.in-Some.character c.loop-character.invariant.0 c.in-Some.ensures.steps.0
    c.loop-character.invariant.1 c.in_err-write_char.ensures.refused)
