use Rattle.std.proofs.Common.{string_bytes}
use Rattle.osm_repl.proofs.IdLemmas.{sought_next, sought_refused}
use Rattle.osm_repl.proofs.sought.sought_of.Goals as goal

pub returns-in-Err-clause-refused : goal.returns-in-Err-clause-refused
returns-in-Err-clause-refused c =
    sought_refused c.args.words.now c.loop-word.word-index _ (string_bytes c.sought_in.new.noted) c.in-Err.fault c.loop-word-test.true
    c.loop-word.invariant.0.each c.in-Err.ensures.refused.0 c.in-Err.ensures.refused.1

pub loop-word-preserved : goal.loop-word-preserved
loop-word-preserved c = rw c.in-Ok-push.ensures.items (
  sought_next c.args.words.now c.loop-word.word-index _ c.loop-word.sought.items c.in-Ok.each c.loop-word-test.true c.loop-word.invariant.0
      c.in-Ok.ensures.sought,
  c.in-Ok.ensures.unnoted,
)
