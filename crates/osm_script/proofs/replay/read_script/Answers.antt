use Rattle.std.proofs.Common.{◌++◌, take, arith}
use Rattle.std.proofs.lemmas.Grind.{common_steps}
use Rattle.std.proofs.KnownBytes.{Consumes-trans}
use Rattle.osm_script.proofs.replay.read_script.Goals as goal

pub returns-then-len-count-gt-MAX_FILE-clause-fault :
    goal.returns-then-len-count-gt-MAX_FILE-clause-fault
returns-then-len-count-gt-MAX_FILE-clause-fault g c = (
  c.loop.script.items ++ take c.in-Ok.count c.ask.new.buffer,
  Consumes-trans (g.R.Read.remaining c.args.reader.now) (g.R.Read.remaining c.loop.reader)
      (g.R.Read.remaining c.ask.new.reader) c.loop.script.items (take c.in-Ok.count c.ask.new.buffer)
      c.loop.invariant.consumed c.in-Ok.ensures.bytes.0,
  grind (arith, common_steps),
)
